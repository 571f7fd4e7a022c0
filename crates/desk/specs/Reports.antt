-- The report of a sheet's rules as text. Assumes nothing.
--     outcome_text    what a rule comes to
--     row_text        a line of the report
--     smallest_text   its last line
--     report_text     all of the report
--     AreRows         each row is of its place
--     IsReport        a text is the report of a sheet
use Rattle.std.specs.Prelude.{◌≡◌, ⊤, ℕ, ◌^◌, ◌-◌, List, [], ◌∷◌, ◌++◌, Some, None, Option, codes, decimal}
use Rattle.std.specs.Fmt.{format_spec, styled_decimal, styled_text}
use Rattle.records.specs.Model.{RecordModel}
use Rattle.rules.specs.declared.place.RulePlace.{RulePlace}
use Rattle.scales.specs.Model.{ScaleModel}
use Rattle.desk.specs.Amounts.{steps_text, unit_text}
use Rattle.desk.specs.Rows.{IsRow, smaller_of}
use Rattle.desk.specs.Tables.{verdict_text}
use Rattle.desk.specs.declared.amount.Unit.{Unit}
use Rattle.desk.specs.declared.outcome.Outcome.{Outcome}
use Rattle.desk.specs.declared.outcome.Outcome.TheVariants as outcome
use Rattle.desk.specs.declared.outcome.Summary.{Summary}
use Rattle.desk.specs.declared.report.RuleRow.{RuleRow}
use Rattle.desk.specs.declared.report.Smallest.{Smallest}

-- a number and a word at the right of so many columns
abbrev pub number_in : ℕ → ℕ → List ℕ
number_in width n = styled_decimal (format_spec 32 3 0 width (2 ^ 64 - 1)) n

abbrev pub word_in : ℕ → List ℕ → List ℕ
word_in width text = styled_text (format_spec 32 3 0 width (2 ^ 64 - 1)) text

abbrev pub summary_text : Unit → Summary → List ℕ
summary_text unit s =
    number_in 10 s.polls ++ (number_in 10 s.yes ++ (number_in 10 s.latest.poll ++ (word_in 9 (verdict_text s.latest.yes) ++ (word_in 15 (steps_text unit s.latest.margin)
    ++ (number_in 10 s.nearest.poll ++ (word_in 9 (verdict_text s.nearest.yes) ++ word_in 15 (steps_text unit s.nearest.margin)))))))

abbrev pub outcome_text : Unit → Outcome → List ℕ
outcome_text unit (outcome.Waiting rows) = codes "  waiting: " ++ (decimal rows ++ codes " rows to come")
outcome_text unit (outcome.Answered s) = summary_text unit s

abbrev pub row_text : Unit → RuleRow → List ℕ
row_text unit row = (number_in 5 row.rule_number ++ (number_in 6 row.zone_number ++ number_in 9 row.horizon)) ++ (outcome_text unit row.outcome ++ codes "\n")

abbrev pub rows_text : Unit → List RuleRow → List ℕ
rows_text unit [] = []
rows_text unit (row ∷ rows) = row_text unit row ++ rows_text unit rows

-- the smallest margin so far and of rows that follow
abbrev pub smallest_from : Option Smallest → List RuleRow → Option Smallest
smallest_from smallest [] = smallest
smallest_from smallest (row ∷ rows) = smallest_from (smaller_of smallest row) rows

abbrev pub smallest_text : Unit → Option Smallest → List ℕ
smallest_text unit None = codes "No rule has an answer yet.\n"
smallest_text unit (Some s) =
    codes "Smallest margin of the sheet: " ++ (steps_text unit s.answered.margin ++ (codes " " ++ (unit_text unit ++ (codes ", rule " ++ (decimal s.rule_number
    ++ (codes " at poll " ++ (decimal s.answered.poll ++ (codes ", verdict " ++ (verdict_text s.answered.yes ++ codes ".\n")))))))))

abbrev pub title_text : Unit → ℕ → List ℕ
title_text unit polls = codes "Margins in " ++ (unit_text unit ++ (codes " over a soak of " ++ (decimal polls ++ codes " polls.\n")))

-- what stands above the rows
abbrev pub head_text : Unit → ℕ → List ℕ
head_text unit polls =
    title_text unit polls
    ++ (codes "\n" ++ codes " rule  zone  horizon  answered       yes    latest  verdict         margin   nearest  verdict         margin\n")

abbrev pub report_text : Unit → ℕ → List RuleRow → List ℕ
report_text unit polls rows = head_text unit polls ++ (rows_text unit rows ++ (codes "\n" ++ smallest_text unit (smallest_from None rows)))

abbrev pub AreRows : {Reading Margin : Type 0} → ScaleModel Reading Margin → List RulePlace → RecordModel Reading → List RuleRow → Type 0
AreRows sm [] rm [] = ⊤
AreRows sm (place ∷ places) rm (row ∷ rows) = IsRow sm place rm row × AreRows sm places rm rows
AreRows sm _ rm _ = ⊥

-- a row for each place in their order, and the text of them all
pub record IsReport {Reading Margin : Type 0} (sm : ScaleModel Reading Margin) (unit : Unit) (places : List RulePlace) (rm : RecordModel Reading) (text : List ℕ) : Type 0 where
  pub rows : List RuleRow
  pub each : AreRows sm places rm rows
  pub is : text ≡ report_text unit rm.polls rows
