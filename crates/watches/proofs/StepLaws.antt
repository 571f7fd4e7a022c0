-- A step that is taken, and one that is refused. Assumes nothing.
use Rattle.std.proofs.Common.{◌≡◌, ℕ, ◌+◌, ◌<◌, ◌≤◌, min, Bool, true, false, cond, ltb, leb, List, [], ◌∷◌, ◌++◌, length, Some, None, Ok, sym, refl, ap, ◌∙◌, subst, arith}
use Rattle.std.proofs.lemmas.Bool.{le-ltb, le-leb, lt-leb, leb-false, cond-false, false≢true}
use Rattle.faults.specs.Checks.{checked}
use Rattle.records.specs.Model.{RecordModel}
use Rattle.rules.specs.declared.rule.Rule.{Rule}
use Rattle.scales.specs.Model.{ScaleModel}
use Rattle.layout.specs.Rows.{most_counted, cells_of, Advanced}
use Rattle.layout.specs.Steps.{row_at}
use Rattle.layout.proofs.Holdings.{holds_none}
use Rattle.watches.specs.Calls.{most_rows, refusal}
use Rattle.watches.specs.Readings.{row_fault, row}
use Rattle.watches.specs.Watching.{Holds, Made, Cleared, Written, Stepped}
use Rattle.watches.specs.declared.refusals.WatchFault.TheVariants.{TooFewCells, Full}
use Rattle.watches.specs.declared.watch.Watch.{Watch}
use Rattle.watches.proofs.RowFaults.{none_told, row_lit}

-- a step that no ground refuses has room for its row
few_rows : {Reading Margin : Type 0} (sm : ScaleModel Reading Margin) (rule : Rule) (rm : RecordModel Reading) (poll lent n : ℕ) → refusal sm rule rm poll lent n ≡ None → n < most_rows
few_rows sm rule rm poll lent n e = go (ltb lent (cells_of rule)) (leb most_rows n) refl e
  where
    go : (a b : Bool) → leb most_rows n ≡ b → cond a (Some (TooFewCells (cells_of rule) lent)) (cond b (Some Full) (row_fault sm rule rm poll)) ≡ None → n < most_rows
    go true b eb q = absurd (cc)
    go false true eb q = absurd (cc)
    go false false eb q = leb-false most_rows n eb

module _ {Reading Margin : Type 0} (sm : ScaleModel Reading Margin) (rule : Rule) (rm : RecordModel Reading) (poll n : ℕ) (cells : List Margin) where
  module _ (enough : cells_of rule ≤ length cells) where
    on_cells : refusal sm rule rm poll (length cells) n ≡ cond (leb most_rows n) (Some Full) (row_fault sm rule rm poll)
    on_cells = cond-false (ltb (length cells) (cells_of rule)) _ _ (le-ltb (length cells) (cells_of rule) (omega arith))

    module _ (room : n < most_rows) where
      on_rows : refusal sm rule rm poll (length cells) n ≡ row_fault sm rule rm poll
      on_rows = on_cells ∙ cond-false (leb most_rows n) _ _ (lt-leb most_rows n room)

      pub written : (cells' : List Margin) (took : Bool) → Ok tt ≡ checked (row_fault sm rule rm poll) → Advanced sm rule (row_at rm poll) n cells cells' took → Written sm rule rm poll n cells cells' (Ok tt)
      written cells' took fine a =
          let none = none_told (row_fault sm rule rm poll) fine in
          let yes : took ≡ true = a.told ∙ le-leb (cells_of rule) (length cells) (omega arith) in
          record {
            answer = ap checked (sym (on_rows ∙ none));
            refused = λ e. absurd (false≢true e);
            same_length = a.long;
            behind = a.behind;
            kept = λ _ rest rows h. a.holds yes (row sm rule rm poll) (row_lit sm rule rm poll none) rest rows h;
          }

module _ {S Reading Margin : Type 0} (model : S → ScaleModel Reading Margin) where
  no_rows_hold : (rule : Rule) (scale : S) (n : ℕ) (cells : List Margin) → n ≡ 0 → Holds (model scale) rule n cells []
  no_rows_hold rule scale n cells e = subst (λ k. Holds (model scale) rule k cells []) (sym e) (holds_none (model scale).mark (model scale).whole rule cells)

  pub made : (rule : Rule) (scale : S) (w : Watch S) → w.rule ≡ rule → w.scale ≡ scale → w.rows.count ≡ 0 → Made model rule scale w
  made rule scale w er es en = record { made_rule = er; made_scale = es; no_rows = en; holds = λ cells. no_rows_hold rule scale w.rows.count cells en }

  pub cleared : (w w' : Watch S) → w'.rule ≡ w.rule → w'.scale ≡ w.scale → w'.rows.count ≡ 0 → Cleared model w w'
  cleared w w' er es en = record { same_rule = er; same_scale = es; no_rows = en; holds = λ cells. no_rows_hold w.rule w.scale w'.rows.count cells en }

  module _ (rm : RecordModel Reading) (poll : ℕ) (w : Watch S) (cells cells' : List Margin) where
    pub stepped : (w' : Watch S) → w'.rule ≡ w.rule → w'.scale ≡ w.scale → w'.rows.count ≡ min (w.rows.count + 1) most_counted → Written (model w.scale) w.rule rm poll w.rows.count cells cells' (Ok tt)
        → Stepped model rm poll w cells w' cells' (Ok tt)
    stepped w' er es en x =
        let sm = model w.scale in
        let free = none_told (refusal sm w.rule rm poll (length cells) w.rows.count) x.answer in
        let more : w'.rows.count ≡ w.rows.count + 1 = omega (arith, en, few_rows sm w.rule rm poll (length cells) w.rows.count free) in
        record {
          answer = x.answer;
          refused = λ e. absurd (false≢true e);
          counted = more;
          advances = record {
            same_rule = er;
            same_scale = es;
            same_length = x.same_length;
            behind = x.behind;
            kept = λ rest rows h.
                rw (ap (λ n. refusal sm w.rule rm poll (length cells) n) (sym h.count) ∙ free) (subst (λ n. Holds sm w.rule n (cells' ++ rest) (rows ++ (row sm w.rule rm poll ∷ []))) (sym more) (x.kept refl rest rows h));
          };
        }
