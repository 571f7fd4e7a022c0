-- A watch that follows a record: one step and one ask more. Assumes nothing.
use Rattle.std.proofs.Common.{◌≡◌, ℕ, ◌+◌, ◌-◌, ◌<◌, ◌≤◌, Bool, true, false, cond, ltb, leb, List, [], ◌∷◌, ◌++◌, length, ℤ, pos, Some, None, Ok, Err, Result, sym, refl, ap, ◌∙◌, subst, arith}
use Rattle.std.proofs.lemmas.Bool.{le-ltb, lt-leb, leb-false, cond-true, cond-false}
use Rattle.faults.specs.Checks.{checked}
use Rattle.formulas.specs.Formula.{horizon}
use Rattle.formulas.specs.Margin.{margin}
use Rattle.formulas.proofs.Near.{margin_local}
use Rattle.layout.proofs.Shapes.{formed}
use Rattle.layout.specs.Rows.{Row, signal, cells_of}
use Rattle.records.specs.Model.{RecordModel}
use Rattle.rules.proofs.Standing.{whole_is}
use Rattle.rules.specs.Rules.{zone, formula}
use Rattle.rules.specs.declared.rule.Rule.{Rule}
use Rattle.scales.specs.Model.{ScaleModel}
use Rattle.watches.proofs.PlayLaws.{along}
use Rattle.watches.proofs.RowFaults.{none_told, some_told}
use Rattle.watches.proofs.RowLists.{no_rows, more_rows, length_rows, row_of}
use Rattle.watches.specs.Calls as calls
use Rattle.watches.specs.Calls.{refusal, most_rows, after_step, reply}
use Rattle.watches.specs.Readings.{reads_head, row_fault, row, steps_at}
use Rattle.watches.specs.Surveys.{rows_from}
use Rattle.watches.specs.Watching.{Holds, Made, Stepped, Asked}
use Rattle.watches.specs.declared.answers.Answer.{Answer}
use Rattle.watches.specs.declared.answers.Answer.TheVariants.{Waiting, At}
use Rattle.watches.specs.declared.refusals.WatchFault.{WatchFault}
use Rattle.watches.specs.declared.watch.Watch.{Watch}
use Rattle.desk.specs.Follows.{Follows, Advanced, answer_after, meant}

module _ {S Reading Margin : Type 0} (model : S → ScaleModel Reading Margin) (rule : Rule) (scale : S) (rm : RecordModel Reading) where
  -- the margin of the first rows is that of the record, where they go on for the horizon
  record_margin : (n t : ℕ) → t + horizon (formula rule) < n
      → margin (model scale).mark (zone rule) (formula rule) (signal (rows_from (model scale) rule rm 0 n)) t ≡ margin (model scale).mark (zone rule) (formula rule) (steps_at (model scale) rm) t
  record_margin n t lt =
      margin_local (model scale).mark (zone rule) (formula rule) (formed (zone rule) (formula rule) (whole_is rule).lawful.ranged) t (signal (rows_from (model scale) rule rm 0 n)) (steps_at (model scale) rm)
      (λ u g lo hi read.
      let from : 0 + u ≡ u = omega arith in
      ap (λ (z : Row). z g) (row_of (model scale) rule rm 0 n u (omega arith)) ∙ cond-true (reads_head rule g) (steps_at (model scale) rm (0 + u) g) (pos 0) read ∙ ap (λ p. steps_at (model scale) rm p g) from)

  pub made_follows : (w : Watch S) (cells : List Margin) → cells_of rule ≤ length cells → Made model rule scale w → Follows model rule scale rm 0 w cells
  made_follows w cells enough made = record {
    rule_is = made.made_rule;
    scale_is = made.made_scale;
    enough = enough;
    holds = λ rest. subst (Holds (model scale) rule w.rows.count (cells ++ rest)) (sym (no_rows (model scale) rule rm 0)) (made.holds (cells ++ rest));
  }

  module _ (n : ℕ) (w : Watch S) (cells : List Margin) (f : Follows model rule scale rm n w cells) where
    rows_are : w.rows.count ≡ n
    rows_are = (f.holds []).count ∙ length_rows (model scale) rule rm 0 n

    -- ---- a step
    module _ (within : n < rm.polls) where
      row_only : (k : ℕ) → k ≡ n → refusal (model scale) rule rm n (length cells) k ≡ row_fault (model scale) rule rm n
      row_only k e =
          let few = rm.few_polls in
          let enough = f.enough in
          let room : k < most_rows = omega (arith, few) in
          cond-false (ltb (length cells) (cells_of rule)) _ _ (le-ltb (length cells) (cells_of rule) enough) ∙ cond-false (leb most_rows k) _ _ (lt-leb most_rows k room)

      module _ (w' : Watch S) (cells' : List Margin) (r : Result (Unit {0}) WatchFault) (s : Stepped model rm n w cells w' cells' r) where
        answer : r ≡ checked (row_fault (model scale) rule rm n)
        answer = along (λ ru sc. r ≡ checked (refusal (model sc) ru rm n (length cells) w.rows.count)) f.rule_is f.scale_is s.answer ∙ ap checked (row_only w.rows.count rows_are)

        pub no_fault : r ≡ Ok tt → row_fault (model scale) rule rm n ≡ None
        no_fault e = none_told (row_fault (model scale) rule rm n) (sym e ∙ answer)

        pub own_fault : (e : WatchFault) → r ≡ Err e → row_fault (model scale) rule rm n ≡ Some e
        own_fault e is = some_told (row_fault (model scale) rule rm n) e (sym is ∙ answer)

        pub follows_on : r ≡ Ok tt → Follows model rule scale rm (n + 1) w' cells'
        follows_on e = record {
          rule_is = s.advances.same_rule ∙ f.rule_is;
          scale_is = s.advances.same_scale ∙ f.scale_is;
          enough = let enough = f.enough in let same = s.advances.same_length in omega arith;
          holds = λ rest.
              let rows = rows_from (model scale) rule rm 0 n in
              let next : after_step (model scale) rule rm n (length cells) rows ≡ rows_from (model scale) rule rm 0 (n + 1)
              = let from : 0 + n ≡ n = omega arith in
              ap (λ o. calls.unless o (rows ++ (row (model scale) rule rm n ∷ [])) rows) (row_only (length rows) (length_rows (model scale) rule rm 0 n) ∙ no_fault e)
              ∙ ap (λ p. rows ++ (row (model scale) rule rm p ∷ [])) (sym from) ∙ sym (more_rows (model scale) rule rm 0 n) in
              subst (Holds (model scale) rule w'.rows.count (cells' ++ rest)) next
              (along (λ ru sc. Holds (model sc) ru w.rows.count (cells ++ rest) rows → Holds (model sc) ru w'.rows.count (cells' ++ rest) (after_step (model sc) ru rm n (length cells) rows)) f.rule_is f.scale_is (s.advances.kept rest rows) (f.holds rest));
        }

    -- ---- an ask
    pub asked_meant : (r : Result (Answer Margin) WatchFault) → Asked model w cells r → calls.meant (model scale).whole r ≡ Ok (answer_after (model scale) rule rm n)
    asked_meant r a =
        let rows = rows_from (model scale) rule rm 0 n in
        let enough = f.enough in
        along (λ ru sc. Holds (model sc) ru w.rows.count (cells ++ []) rows → calls.meant (model sc).whole r ≡ reply (model sc) ru rows (length cells)) f.rule_is f.scale_is (a [] rows) (f.holds [])
        ∙ cond-false (ltb (length cells) (cells_of rule)) _ _ (le-ltb (length cells) (cells_of rule) enough)
        ∙ ap (λ k. cond {A = Result (Answer ℤ) WatchFault} (leb k (horizon (formula rule))) (Ok (Waiting (horizon (formula rule) + 1 - k))) (Ok (At (k - 1 - horizon (formula rule)) (margin (model scale).mark (zone rule) (formula rule) (signal rows) (k - 1 - horizon (formula rule))))))
        (length_rows (model scale) rule rm 0 n)
        ∙ by (leb n (horizon (formula rule))) refl
      where
        by : (b : Bool) → leb n (horizon (formula rule)) ≡ b
            → cond {A = Result (Answer ℤ) WatchFault} b (Ok (Waiting (horizon (formula rule) + 1 - n))) (Ok (At (n - 1 - horizon (formula rule)) (margin (model scale).mark (zone rule) (formula rule) (signal (rows_from (model scale) rule rm 0 n)) (n - 1 - horizon (formula rule)))))
            ≡ Ok (cond b (Waiting (horizon (formula rule) + 1 - n)) (At (n - 1 - horizon (formula rule)) (margin (model scale).mark (zone rule) (formula rule) (steps_at (model scale) rm) (n - 1 - horizon (formula rule)))))
        by true e = refl
        by false e = let late = leb-false n (horizon (formula rule)) e in ap (λ v. Ok (At (n - 1 - horizon (formula rule)) v)) (record_margin n (n - 1 - horizon (formula rule)) (omega arith))

  -- ---- a step and an ask
  module _ (n : ℕ) (w : Watch S) (cells : List Margin) (f : Follows model rule scale rm n w cells) (within : n < rm.polls) (w' : Watch S) (cells' : List Margin) where
    pub refused : (step : Result (Unit {0}) WatchFault) (e : WatchFault) (r : Result (Answer Margin) WatchFault) → Stepped model rm n w cells w' cells' step → step ≡ Err e → r ≡ Err e → Advanced model rule scale rm n w' cells' r
    refused step e r s is told = subst (Advanced model rule scale rm n w' cells') (sym told) (record { told = own_fault n w cells f within w' cells' step s e is; answers = tt; follows = tt })

    pub advanced : (step : Result (Unit {0}) WatchFault) (r : Result (Answer Margin) WatchFault) → Stepped model rm n w cells w' cells' step → step ≡ Ok tt → Asked model w' cells' r → Advanced model rule scale rm n w' cells' r
    advanced step r s is a = by r (asked_meant (n + 1) w' cells' (follows_on n w cells f within w' cells' step s is) r a)
      where
        same : (x : Answer Margin) (y : Answer ℤ) → calls.meant (model scale).whole (Ok x) ≡ Ok y → meant (model scale).whole x ≡ y
        same (Waiting k) y e = cc
        same (At t m) y e = cc

        by : (r : Result (Answer Margin) WatchFault) → calls.meant (model scale).whole r ≡ Ok (answer_after (model scale) rule rm (n + 1)) → Advanced model rule scale rm n w' cells' r
        by (Ok x) e = record { told = no_fault n w cells f within w' cells' step s is; answers = same x _ e; follows = follows_on n w cells f within w' cells' step s is }
        by (Err x) e = absurd (cc)
