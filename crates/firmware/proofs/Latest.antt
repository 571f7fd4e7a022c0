-- The latest margin, of what ask answers; and what it says of the record whose polls are the rows. Assumes nothing.
use Rattle.std.proofs.Common.{◌≡◌, ℕ, ◌+◌, ◌-◌, ◌<◌, ◌≤◌, Bool, true, false, cond, ltb, leb, List, length, ℤ, pos, Some, None, Ok, Err, refl, ap, ◌∙◌, arith}
use Rattle.std.proofs.lemmas.Bool.{le-ltb, leb-false, leb-true, cond-true, cond-false}
use Rattle.formulas.specs.Formula.{horizon}
use Rattle.formulas.specs.Margin.{margin}
use Rattle.formulas.proofs.Near.{margin_local}
use Rattle.layout.specs.Rows.{Row, signal, cells_of, latest_margin}
use Rattle.layout.proofs.Shapes.{formed}
use Rattle.records.specs.Model.{RecordModel}
use Rattle.rules.specs.Rules.{zone, formula}
use Rattle.rules.specs.declared.rule.Rule.{Rule}
use Rattle.rules.proofs.Standing.{whole_is}
use Rattle.scales.specs.Model.{ScaleModel}
use Rattle.watches.specs.Calls.{reply}
use Rattle.watches.specs.Readings.{reads_head, steps_at}
use Rattle.watches.specs.Surveys.{rows_from}
use Rattle.watches.specs.declared.answers.Answer.TheVariants.{Waiting, At}
use Rattle.watches.specs.declared.refusals.WatchFault.{WatchFault}
use Rattle.watches.proofs.RowLists.{length_rows, row_of}

at_by : (a b : Bool) (f : WatchFault) (k n t : ℕ) (m v : ℤ) → Ok (At t v) ≡ cond a (Err f) (cond b (Ok (Waiting k)) (Ok (At n m))) → Some v ≡ cond a None (cond b None (Some m))
at_by true b f k n t m v e = absurd (cc)
at_by false true f k n t m v e = absurd (cc)
at_by false false f k n t m v e = cc

waiting_by : (a b : Bool) (f : WatchFault) (k n j : ℕ) (m : ℤ) → Ok (Waiting j) ≡ cond a (Err f) (cond b (Ok (Waiting k)) (Ok (At n m))) → None ≡ cond a None (cond b None (Some m))
waiting_by true b f k n j m e = refl
waiting_by false true f k n j m e = refl
waiting_by false false f k n j m e = absurd (cc)

refused_by : (a b : Bool) (f g : WatchFault) (k n : ℕ) (m : ℤ) → Err g ≡ cond a (Err f) (cond b (Ok (Waiting k)) (Ok (At n m))) → None ≡ cond a None (cond b None (Some m))
refused_by true b f g k n m e = refl
refused_by false true f g k n m e = refl
refused_by false false f g k n m e = absurd (cc)

module _ {Reading Margin : Type 0} (sm : ScaleModel Reading Margin) (rule : Rule) (rows : List Row) (lent : ℕ) where
  pub at_latest : (t : ℕ) (v : ℤ) → Ok (At t v) ≡ reply sm rule rows lent → Some v ≡ latest_margin sm.mark rule lent rows
  at_latest t v e = at_by (ltb lent (cells_of rule)) (leb (length rows) (horizon (formula rule))) _ _ _ t _ v e

  pub none_waiting : (j : ℕ) → Ok (Waiting j) ≡ reply sm rule rows lent → None ≡ latest_margin sm.mark rule lent rows
  none_waiting j e = waiting_by (ltb lent (cells_of rule)) (leb (length rows) (horizon (formula rule))) _ _ _ j _ e

  pub none_refused : (f : WatchFault) → Err f ≡ reply sm rule rows lent → None ≡ latest_margin sm.mark rule lent rows
  none_refused f e = refused_by (ltb lent (cells_of rule)) (leb (length rows) (horizon (formula rule))) _ f _ _ _ e

-- ---- of n rows that are the first polls of a record
module _ {Reading Margin : Type 0} (sm : ScaleModel Reading Margin) (rule : Rule) (rm : RecordModel Reading) (n lent : ℕ) where
  of_record : (p : ℕ) → p + horizon (formula rule) < n → margin sm.mark (zone rule) (formula rule) (signal (rows_from sm rule rm 0 n)) p ≡ margin sm.mark (zone rule) (formula rule) (steps_at sm rm) p
  of_record p late =
      margin_local sm.mark (zone rule) (formula rule) (formed (zone rule) (formula rule) (whole_is rule).lawful.ranged) p (signal (rows_from sm rule rm 0 n)) (λ u g. steps_at sm rm u g)
      (λ u g lo hi read.
      let from : 0 + u ≡ u = omega arith in
      ap (λ (z : Row). z g) (row_of sm rule rm 0 n u (omega arith)) ∙ cond-true (reads_head rule g) (steps_at sm rm (0 + u) g) (pos 0) read ∙ ap (λ w. steps_at sm rm w g) from)

  pub some_latest : (v : ℤ) → Some v ≡ latest_margin sm.mark rule lent (rows_from sm rule rm 0 n)
      → (horizon (formula rule) < n) × (v ≡ margin sm.mark (zone rule) (formula rule) (steps_at sm rm) (n - 1 - horizon (formula rule)))
  some_latest v e = by (ltb lent (cells_of rule)) (leb (length (rows_from sm rule rm 0 n)) (horizon (formula rule))) refl e
    where
      size : length (rows_from sm rule rm 0 n) ≡ n
      size = length_rows sm rule rm 0 n

      by : (a b : Bool) → leb (length (rows_from sm rule rm 0 n)) (horizon (formula rule)) ≡ b
          → Some v ≡ cond a None (cond b None (Some (margin sm.mark (zone rule) (formula rule) (signal (rows_from sm rule rm 0 n)) (length (rows_from sm rule rm 0 n) - 1 - horizon (formula rule)))))
          → (horizon (formula rule) < n) × (v ≡ margin sm.mark (zone rule) (formula rule) (steps_at sm rm) (n - 1 - horizon (formula rule)))
      by true b eb q = absurd (cc)
      by false true eb q = absurd (cc)
      by false false eb q =
          let late : horizon (formula rule) < n = omega (arith, leb-false (length (rows_from sm rule rm 0 n)) (horizon (formula rule)) eb, size) in
          let same : v ≡ margin sm.mark (zone rule) (formula rule) (signal (rows_from sm rule rm 0 n)) (length (rows_from sm rule rm 0 n) - 1 - horizon (formula rule)) = cc in
          (late, same ∙ ap (λ k. margin sm.mark (zone rule) (formula rule) (signal (rows_from sm rule rm 0 n)) (k - 1 - horizon (formula rule))) size ∙ of_record (n - 1 - horizon (formula rule)) (omega arith))

  pub none_latest : cells_of rule ≤ lent → None ≡ latest_margin sm.mark rule lent (rows_from sm rule rm 0 n) → n ≤ horizon (formula rule)
  none_latest enough e =
      by (leb (length (rows_from sm rule rm 0 n)) (horizon (formula rule))) refl (e ∙ cond-false (ltb lent (cells_of rule)) _ _ (le-ltb lent (cells_of rule) enough))
    where
      by : (b : Bool) → leb (length (rows_from sm rule rm 0 n)) (horizon (formula rule)) ≡ b
          → None ≡ cond b None (Some (margin sm.mark (zone rule) (formula rule) (signal (rows_from sm rule rm 0 n)) (length (rows_from sm rule rm 0 n) - 1 - horizon (formula rule))))
          → n ≤ horizon (formula rule)
      by true eb q = omega (arith, leb-true (length (rows_from sm rule rm 0 n)) (horizon (formula rule)) eb, length_rows sm rule rm 0 n)
      by false eb q = absurd (cc)
