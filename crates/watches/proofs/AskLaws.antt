-- What ask answers of the rows that a watch and its cells stand for. Assumes nothing.
use Rattle.std.proofs.Common.{◌≡◌, ℕ, ◌+◌, ◌-◌, ◌<◌, ◌≤◌, true, cond, ltb, leb, List, length, ℤ, Some, Ok, sym, ap, ◌∙◌, subst, arith}
use Rattle.std.proofs.lemmas.Bool.{le-ltb, lt-leb, ltb-true, and_parts, cond-false}
use Rattle.formulas.specs.Formula.{horizon}
use Rattle.formulas.specs.Margin.{margin}
use Rattle.rules.specs.Rules.{zone, formula}
use Rattle.rules.specs.declared.rule.Rule.{Rule}
use Rattle.scales.specs.Model.{ScaleModel}
use Rattle.layout.specs.Rows.{Row, signal, cells_of, has_latest, Latest}
use Rattle.watches.specs.Calls.{reply}
use Rattle.watches.specs.Watching.{Asked}
use Rattle.watches.specs.declared.answers.Answer.TheVariants.{Waiting, At}
use Rattle.watches.specs.declared.watch.Watch.{Watch}

-- ---- whether there is a latest margin
pub has_rows : (rule : Rule) (lent n : ℕ) → true ≡ has_latest rule lent n → horizon (formula rule) < n
has_rows rule lent n e = ltb-true (horizon (formula rule)) n (and_parts (leb (cells_of rule) lent) (ltb (horizon (formula rule)) n) (sym e)).1

module _ {S Reading Margin : Type 0} (model : S → ScaleModel Reading Margin) (w : Watch S) (cells : List Margin) where
  module _ (z : ℕ) (enough : cells_of w.rule ≤ length cells) (ez : z ≡ horizon (formula w.rule)) where
    on_cells : (rows : List Row) → reply (model w.scale) w.rule rows (length cells) ≡ cond (leb (length rows) (horizon (formula w.rule))) (Ok (Waiting (horizon (formula w.rule) + 1 - length rows)))
        (Ok (At (length rows - 1 - horizon (formula w.rule)) (margin (model w.scale).mark (zone w.rule) (formula w.rule) (signal rows) (length rows - 1 - horizon (formula w.rule)))))
    on_cells rows = cond-false (ltb (length cells) (cells_of w.rule)) _ _ (le-ltb (length cells) (cells_of w.rule) (omega arith))

    pub asked_at : (n t : ℕ) (m : Margin) → n ≡ w.rows.count → z < n → t ≡ w.rows.count - 1 - z → Latest w.rule n cells (Some m) → Asked model w cells (Ok (At t m))
    asked_at n t m en long at told rest rows h =
        let size = h.count in
        let latest : Latest w.rule w.rows.count cells (Some m) = subst (λ k. Latest w.rule k cells (Some m)) en told in
        let sm = model w.scale in
        let poll : t ≡ length rows - 1 - horizon (formula w.rule) = omega arith in
        let late : horizon (formula w.rule) < length rows = omega arith in
        let value : sm.whole m ≡ margin sm.mark (zone w.rule) (formula w.rule) (signal rows) (length rows - 1 - horizon (formula w.rule))
        = some_is _ _ (latest sm.mark sm.whole rest rows h
        ∙ cond-false (ltb (length cells) (cells_of w.rule)) _ _ (le-ltb (length cells) (cells_of w.rule) (omega arith))
        ∙ cond-false (leb (length rows) (horizon (formula w.rule))) _ _ (lt-leb (length rows) (horizon (formula w.rule)) late)) in
        ap (λ i. Ok (At i (sm.whole m))) poll ∙ ap (λ v. Ok (At (length rows - 1 - horizon (formula w.rule)) v)) value
        ∙ sym (on_cells rows ∙ cond-false (leb (length rows) (horizon (formula w.rule))) _ _ (lt-leb (length rows) (horizon (formula w.rule)) late))
      where
        some_is : (x y : ℤ) → Some x ≡ Some y → x ≡ y
        some_is x y e = cc
