-- What a survey answers: the margin of a record at a poll. Assumes nothing.
--     surveyed      the defined margin, or the ground that refuses
--     Surveyed      a survey answers it, and leaves the cells behind the need
use Rattle.std.specs.Prelude.{◌≡◌, ℕ, zero, suc, ◌+◌, ◌≤◌, Bool, true, cond, List, [], ◌∷◌, ◌++◌, length, drop, ℤ, is_err, Some, None, Ok, Err, Option, Result, nat_le, nat_lt}
use Rattle.entries.specs.Heads.{head_total}
use Rattle.formulas.specs.Formula.{Formula, horizon, reads}
use Rattle.formulas.specs.Margin.{margin}
use Rattle.records.specs.Model.{RecordModel}
use Rattle.rules.specs.Needs.{need}
use Rattle.rules.specs.Rules.{zone, formula}
use Rattle.rules.specs.declared.rule.Rule.{Rule}
use Rattle.scales.specs.Model.{ScaleModel}
use Rattle.layout.specs.Rows.{Row, cells_of, Holds}
use Rattle.std.specs.Option.{option_or}
use Rattle.watches.specs.Readings.{reads_head, first_fault, reading_fault, steps_at, row}
use Rattle.watches.specs.declared.refusals.WatchFault.{WatchFault}
use Rattle.watches.specs.declared.refusals.WatchFault.TheVariants.{TooFewCells, PastTheEnd}

-- the first fault of n polls from poll t on at the heads that are read, by poll and head
unfoldable pub faults_from : {Reading Margin : Type 0} → ScaleModel Reading Margin → (ℕ → Bool) → RecordModel Reading → ℕ → ℕ → Option WatchFault
faults_from sm read rm t zero = None
faults_from sm read rm t (suc n) = option_or (faults_from sm read rm t n) (first_fault read (λ h. reading_fault sm h (t + n) (rm.at h (t + n))) head_total)

-- the same at the heads that a rule reads
abbrev pub polls_fault : {Reading Margin : Type 0} → ScaleModel Reading Margin → Rule → RecordModel Reading → ℕ → ℕ → Option WatchFault
polls_fault sm rule rm t n = faults_from sm (reads_head rule) rm t n

-- the rows of n polls from poll t on
unfoldable pub rows_from : {Reading Margin : Type 0} → ScaleModel Reading Margin → Rule → RecordModel Reading → ℕ → ℕ → List Row
rows_from sm rule rm t zero = []
rows_from sm rule rm t (suc n) = rows_from sm rule rm t n ++ (row sm rule rm (t + n) ∷ [])

-- the margin, unless there is a fault
abbrev pub or_fault : Option WatchFault → ℤ → Result ℤ WatchFault
or_fault None m = Ok m
or_fault (Some e) m = Err e

-- of a zone and a formula: fewer cells than the need, then a record that ends before the formula has looked, then the
-- readings from t to t + horizon
abbrev pub survey_fault_of : {Reading Margin : Type 0} → ScaleModel Reading Margin → List ℕ → Formula → RecordModel Reading → ℕ → ℕ → Option WatchFault
survey_fault_of sm zone φ rm lent t =
    cond (nat_lt lent (need zone φ)) (Some (TooFewCells (need zone φ) lent))
    (cond (nat_le rm.polls (t + horizon φ)) (Some (PastTheEnd t (horizon φ) rm.polls))
    (faults_from sm (reads zone φ) rm t (horizon φ + 1)))

-- the margin of the record itself at poll t
abbrev pub surveyed_of : {Reading Margin : Type 0} → ScaleModel Reading Margin → List ℕ → Formula → RecordModel Reading → ℕ → ℕ → Result ℤ WatchFault
surveyed_of sm zone φ rm lent t = or_fault (survey_fault_of sm zone φ rm lent t) (margin sm.mark zone φ (steps_at sm rm) t)

-- the same of a rule's zone and formula
abbrev pub survey_fault : {Reading Margin : Type 0} → ScaleModel Reading Margin → Rule → RecordModel Reading → ℕ → ℕ → Option WatchFault
survey_fault sm rule = survey_fault_of sm (zone rule) (formula rule)

abbrev pub surveyed : {Reading Margin : Type 0} → ScaleModel Reading Margin → Rule → RecordModel Reading → ℕ → ℕ → Result ℤ WatchFault
surveyed sm rule = surveyed_of sm (zone rule) (formula rule)

abbrev pub whole_of : {Margin : Type 0} → (Margin → ℤ) → Result Margin WatchFault → Result ℤ WatchFault
whole_of whole (Ok m) = Ok (whole m)
whole_of whole (Err e) = Err e

-- n polls from poll t on were taken as rows: where they have no fault and the cells are enough, the cells stand for their rows
pub record Taken {Reading Margin : Type 0} (sm : ScaleModel Reading Margin) (rule : Rule) (rm : RecordModel Reading) (t n : ℕ) (cells cells' : List Margin) : Type 0 where
  pub same_length : length cells' ≡ length cells
  pub behind : drop (cells_of rule) cells' ≡ drop (cells_of rule) cells
  pub holds : cells_of rule ≤ length cells → polls_fault sm rule rm t n ≡ None → (rest : List Margin) → Holds sm.mark sm.whole rule n (cells' ++ rest) (rows_from sm rule rm t n)

pub record Surveyed {Reading Margin : Type 0} (sm : ScaleModel Reading Margin) (rule : Rule) (rm : RecordModel Reading) (t : ℕ) (cells cells' : List Margin) (r : Result Margin WatchFault) : Type 0 where
  pub answer : whole_of sm.whole r ≡ surveyed sm rule rm (length cells) t
  pub refused : is_err r ≡ true → cells' ≡ cells
  pub same_length : length cells' ≡ length cells
  pub behind : drop (cells_of rule) cells' ≡ drop (cells_of rule) cells
