-- What the report says of the rules of a sheet. Assumes nothing.
--     place_fault   why the work on a rule place ends
--     place_answers what its rule answers
--     place_polls   how many polls are answered
--     sheet_fault   why the work on a sheet ends
--     IsRow         what a row says of the rule of a place
--     smaller_of    the smallest margin so far
use Rattle.std.specs.Prelude.{◌≡◌, ℕ, cond, List, [], ◌∷◌, Some, None, Option, nat_lt, unsigned_abs}
use Rattle.std.specs.Option.{option_or}
use Rattle.formulas.specs.Formula.{horizon}
use Rattle.records.specs.Model.{RecordModel}
use Rattle.rules.specs.Places.{place_means}
use Rattle.rules.specs.declared.place.RulePlace.{RulePlace}
use Rattle.scales.specs.Model.{ScaleModel}
use Rattle.watches.specs.declared.refusals.WatchFault.{WatchFault}
use Rattle.desk.specs.Answers.{answered_at, polls_of, record_fault_of}
use Rattle.desk.specs.Summaries.{IsOutcome}
use Rattle.desk.specs.declared.answered.Answered.{Answered}
use Rattle.desk.specs.declared.outcome.Outcome.{Outcome}
use Rattle.desk.specs.declared.outcome.Outcome.TheVariants as outcome
use Rattle.desk.specs.declared.report.RuleRow.{RuleRow}
use Rattle.desk.specs.declared.report.Smallest.{Smallest}

-- the first fault of a reading that the rule of a place reads
abbrev pub place_fault : {Reading Margin : Type 0} → ScaleModel Reading Margin → RulePlace → RecordModel Reading → Option WatchFault
place_fault sm place rm = record_fault_of sm (place_means place).1 (place_means place).0 rm

-- what the rule of a place answers, by polls, and how many
abbrev pub place_answers : {Reading Margin : Type 0} → ScaleModel Reading Margin → RulePlace → RecordModel Reading → ℕ → Answered
place_answers sm place rm = answered_at sm (place_means place).1 (place_means place).0 rm

abbrev pub place_polls : {Reading : Type 0} → RulePlace → RecordModel Reading → ℕ
place_polls place rm = polls_of (place_means place).0 rm

-- the fault of the first rule that has one
abbrev pub sheet_fault : {Reading Margin : Type 0} → ScaleModel Reading Margin → List RulePlace → RecordModel Reading → Option WatchFault
sheet_fault sm [] rm = None
sheet_fault sm (place ∷ places) rm = option_or (place_fault sm place rm) (sheet_fault sm places rm)

-- the numbers of the place, and what its rule comes to
pub record IsRow {Reading Margin : Type 0} (sm : ScaleModel Reading Margin) (place : RulePlace) (rm : RecordModel Reading) (row : RuleRow) : Type 0 where
  pub rule_number : row.rule_number ≡ place.rule_number
  pub zone_number : row.zone_number ≡ place.zone_number
  pub horizon_is : row.horizon ≡ horizon (place_means place).0
  pub outcome_is : IsOutcome (answered_at sm (place_means place).1 (place_means place).0 rm) (horizon (place_means place).0) rm.polls row.outcome

-- b where it is smaller in size than a, else a
abbrev pub nearer_of : Option Smallest → Smallest → Option Smallest
nearer_of None b = Some b
nearer_of (Some a) b = cond (nat_lt (unsigned_abs b.answered.margin) (unsigned_abs a.answered.margin)) (Some b) (Some a)

-- the smallest so far against a row's nearest margin; a row with no answer changes nothing
abbrev pub smaller_with : Option Smallest → RuleRow → Outcome → Option Smallest
smaller_with smallest row (outcome.Waiting rows) = smallest
smaller_with smallest row (outcome.Answered s) = nearer_of smallest (record { rule_number = row.rule_number; answered = s.nearest })

abbrev pub smaller_of : Option Smallest → RuleRow → Option Smallest
smaller_of smallest row = smaller_with smallest row row.outcome
