-- A scale over cells has the steps and marks of the lower one, so faults, rows and margins are the same. Assumes nothing.
use Rattle.std.proofs.Common.{◌≡◌, ℕ, zero, suc, ◌+◌, Bool, List, length, ℤ, Some, None, Ok, Err, Result, sym, refl, ap, ◌∙◌}
use Rattle.std.specs.Option.{option_or}
use Rattle.entries.specs.Heads.{head_total}
use Rattle.entries.specs.declared.entry.Entry.{Entry}
use Rattle.formulas.specs.Formula.{Formula, horizon, reads}
use Rattle.formulas.specs.Margin.{margin}
use Rattle.records.specs.Grid.{grid_fault, grid_record}
use Rattle.records.specs.Model.{RecordModel}
use Rattle.rules.specs.Needs.{need}
use Rattle.rules.specs.Rules.{zone, formula}
use Rattle.rules.specs.declared.rule.Rule.{Rule}
use Rattle.scales.specs.Model.{ScaleModel}
use Rattle.watches.specs.Calls.{refusal, unless, play_fault, play_rows}
use Rattle.watches.specs.Readings.{first_fault, reading_fault, steps_at}
use Rattle.watches.specs.Surveys.{faults_from, surveyed_of, surveyed, or_fault, whole_of}
use Rattle.watches.specs.declared.refusals.WatchFault.{WatchFault}
use Rattle.watches.specs.declared.refusals.WatchFault.TheVariants.{TooFewCells, PastTheEnd}
use Rattle.std.specs.Prelude.{cond, nat_lt, nat_le, IsErr, IsErrAnd}
use Rattle.firmware.specs.Cells.{cell_whole, in_cells}
use Rattle.firmware.specs.Made.{RuleOf}
use Rattle.firmware.specs.Surveys.{of_rule, of_grid, of_watch, grid_survey}
use Rattle.firmware.specs.declared.refusals.Refusal.{Refusal}

module _ {Reading Margin : Type 0} (most : ℕ) (sm : ScaleModel Reading Margin) (rm : RecordModel Reading) where
  faults_same : (read : ℕ → Bool) (t n : ℕ) → faults_from (in_cells most sm) read rm t n ≡ faults_from sm read rm t n
  unfolding faults_from
  faults_same read t zero = refl
  faults_same read t (suc n) = ap (λ o. option_or o (first_fault read (λ h. reading_fault sm h (t + n) (rm.at h (t + n))) head_total)) (faults_same read t n)

  pub surveyed_same : (hs : List ℕ) (φ : Formula) (lent t : ℕ) → surveyed_of (in_cells most sm) hs φ rm lent t ≡ surveyed_of sm hs φ rm lent t
  surveyed_same hs φ lent t =
      ap (λ o. or_fault (cond (nat_lt lent (need hs φ)) (Some (TooFewCells (need hs φ) lent)) (cond (nat_le rm.polls (t + horizon φ)) (Some (PastTheEnd t (horizon φ) rm.polls)) o)) (margin sm.mark hs φ (steps_at sm rm) t))
      (faults_same (reads hs φ) t (horizon φ + 1))

  pub fault_same : (rule : Rule) (lent k t n : ℕ) → play_fault (in_cells most sm) rule rm lent k t n ≡ play_fault sm rule rm lent k t n
  unfolding play_fault
  fault_same rule lent k t zero = refl
  fault_same rule lent k t (suc n) = ap (λ o. option_or o (refusal sm rule rm (t + n) lent (k + n))) (fault_same rule lent k t n)

  pub rows_same : (rule : Rule) (lent k t n : ℕ) → play_rows (in_cells most sm) rule rm lent k t n ≡ play_rows sm rule rm lent k t n
  unfolding play_rows
  rows_same rule lent k t zero = refl
  rows_same rule lent k t (suc n) =
      ap (λ o. unless o (suc n) (play_rows (in_cells most sm) rule rm lent k t n)) (fault_same rule lent k t (suc n)) ∙ ap (unless (play_fault sm rule rm lent k t (suc n)) (suc n)) (rows_same rule lent k t n)

-- what a survey over cells answers, in C's numbers
pub answered : {Reading Margin : Type 0} (most : ℕ) (sm : ScaleModel Reading Margin) (hs : List ℕ) (es : List Entry) (heads polls : ℕ) (xs : List Reading) (lent t : ℕ) (rule : Rule) (rm : RecordModel Reading) (r : Result ℤ WatchFault)
    → RuleOf hs es (Ok rule) → grid_fault heads polls (length xs) ≡ None → rm ≡ grid_record heads polls xs → whole_of (cell_whole most) r ≡ surveyed (in_cells most sm) rule rm lent t
    → of_watch (whole_of (cell_whole most) r) ≡ grid_survey sm hs es heads polls xs lent t
answered most sm hs es heads polls xs lent t rule rm r made fits is told =
    let φ = formula rule in
    let here : surveyed (in_cells most sm) rule rm lent t ≡ surveyed_of sm hs φ (grid_record heads polls xs) lent t
    = surveyed_same most sm rm (zone rule) φ lent t ∙ ap (λ z. surveyed_of sm z φ rm lent t) made.1 ∙ ap (λ m. surveyed_of sm hs φ m lent t) is in
    ap of_watch (told ∙ here)
    ∙ sym (ap (λ a. of_rule a (λ ψ. of_grid (grid_fault heads polls (length xs)) (of_watch (surveyed_of sm hs ψ (grid_record heads polls xs) lent t)))) made.0
    ∙ ap (λ o. of_grid o (of_watch (surveyed_of sm hs φ (grid_record heads polls xs) lent t))) fits)

-- a refusal that `?` passes on
pub passed_on : {A : Type 0} (r : Result A Refusal) (q : Refusal) → IsErr r → IsErrAnd r (λ y. y ≡ q) → r ≡ Err q
passed_on (Ok a) q e is = absurd is
passed_on (Err y) q e is = ap Err is
