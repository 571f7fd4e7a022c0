-- What a rule answers over a record: the margin and the verdict of the record itself, poll by poll. Assumes nothing.
--     answered_at    at one poll
--     answers_of     of a rule's zone and formula, by polls
--     polls_of       how many polls are answered
--     record_fault   why the work ends
--     Hears          all of them are heard
use Rattle.std.specs.Prelude.{ℕ, ◌-◌, List, pos, Option, int_le}
use Rattle.formulas.specs.Formula.{Formula, horizon, reads}
use Rattle.formulas.specs.Margin.{margin, verdict}
use Rattle.records.specs.Model.{RecordModel}
use Rattle.rules.specs.Rules.{zone, formula}
use Rattle.rules.specs.declared.rule.Rule.{Rule}
use Rattle.scales.specs.Model.{ScaleModel}
use Rattle.watches.specs.Readings.{steps_at}
use Rattle.watches.specs.Surveys.{faults_from}
use Rattle.watches.specs.declared.refusals.WatchFault.{WatchFault}
use Rattle.desk.specs.declared.answered.Answered.{Answered}

-- of a zone and a formula: the poll, the record's margin there, and whether its verdict there is yes
abbrev pub answered_at : {Reading Margin : Type 0} → ScaleModel Reading Margin → List ℕ → Formula → RecordModel Reading → ℕ → Answered
answered_at sm zone φ rm t = record {
  poll = t;
  margin = margin sm.mark zone φ (steps_at sm rm) t;
  yes = int_le (pos 0) (verdict sm.mark zone φ (steps_at sm rm) t);
}

-- the same of a rule's zone and formula
abbrev pub answers_of : {Reading Margin : Type 0} → ScaleModel Reading Margin → Rule → RecordModel Reading → ℕ → Answered
answers_of sm rule = answered_at sm (zone rule) (formula rule)

-- the polls answered are those from which the record goes on for the horizon, 0 to polls - 1 - horizon
abbrev pub polls_of : {Reading : Type 0} → Formula → RecordModel Reading → ℕ
polls_of φ rm = rm.polls - horizon φ

-- of a zone and a formula: the first fault of a reading of the record that the formula reads, by poll and head
abbrev pub record_fault_of : {Reading Margin : Type 0} → ScaleModel Reading Margin → List ℕ → Formula → RecordModel Reading → Option WatchFault
record_fault_of sm zone φ rm = faults_from sm (reads zone φ) rm 0 rm.polls

-- the same of a rule's zone and formula
abbrev pub record_fault : {Reading Margin : Type 0} → ScaleModel Reading Margin → Rule → RecordModel Reading → Option WatchFault
record_fault sm rule = record_fault_of sm (zone rule) (formula rule)

-- who had heard nothing has then heard the first n answers
abbrev pub Hears : {L : Type 0} → (L → L → ℕ → (ℕ → Answered) → Type 0) → (ℕ → Answered) → ℕ → L → L → Type 0
Hears {L = L} heard answers n l l' = (first : L) → heard first l 0 answers → heard first l' n answers
