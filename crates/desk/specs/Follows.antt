-- A watch that follows a record from its first poll on. Assumes nothing.
--     Follows       the watch and its cells stand for the record's first n rows
--     answer_after  what it answers then
--     Advances      one poll more
use Rattle.std.specs.Prelude.{◌≡◌, ℕ, ◌+◌, ◌-◌, ◌<◌, ◌≤◌, cond, List, ◌++◌, length, ℤ, Some, None, Ok, Err, Option, Result, IfOk, OnOk, nat_le}
use Rattle.formulas.specs.Formula.{horizon}
use Rattle.formulas.specs.Margin.{margin}
use Rattle.layout.specs.Rows.{cells_of}
use Rattle.records.specs.Model.{RecordModel}
use Rattle.rules.specs.Rules.{zone, formula}
use Rattle.rules.specs.declared.rule.Rule.{Rule}
use Rattle.scales.specs.Model.{ScaleModel}
use Rattle.watches.specs.Readings.{row_fault, steps_at}
use Rattle.watches.specs.Surveys.{rows_from}
use Rattle.watches.specs.Watching.{Holds}
use Rattle.watches.specs.declared.answers.Answer.{Answer}
use Rattle.watches.specs.declared.answers.Answer.TheVariants.{Waiting, At}
use Rattle.watches.specs.declared.refusals.WatchFault.{WatchFault}
use Rattle.watches.specs.declared.watch.Watch.{Watch}

-- the watch is of the rule and the scale and has taken polls 0 to n - 1 of the record
pub record Follows {S Reading Margin : Type 0} (model : S → ScaleModel Reading Margin) (rule : Rule) (scale : S) (rm : RecordModel Reading) (n : ℕ) (w : Watch S) (cells : List Margin) : Type 0 where
  pub rule_is : w.rule ≡ rule
  pub scale_is : w.scale ≡ scale
  pub enough : cells_of rule ≤ length cells
  pub holds : (rest : List Margin) → Holds (model scale) rule w.rows.count (cells ++ rest) (rows_from (model scale) rule rm 0 n)

-- after n rows: waiting, or the latest poll that has all its rows and the record's margin there
abbrev pub answer_after : {Reading Margin : Type 0} → ScaleModel Reading Margin → Rule → RecordModel Reading → ℕ → Answer ℤ
answer_after sm rule rm n =
    cond (nat_le n (horizon (formula rule))) (Waiting (horizon (formula rule) + 1 - n))
    (At (n - 1 - horizon (formula rule)) (margin sm.mark (zone rule) (formula rule) (steps_at sm rm) (n - 1 - horizon (formula rule))))

-- a row is taken only where it has no fault, and a refusal is that fault
abbrev pub TellsRow : {A : Type 0} → Option WatchFault → Result A WatchFault → Type 0
TellsRow fault (Ok x) = fault ≡ None
TellsRow fault (Err e) = fault ≡ Some e

-- an answer with its margin as a whole number
abbrev pub meant : {Margin : Type 0} → (Margin → ℤ) → Answer Margin → Answer ℤ
meant whole (Waiting k) = Waiting k
meant whole (At t m) = At t (whole m)

-- one poll more, number n: its row is taken and the watch answers for n + 1 rows, or the row's own fault refuses it
pub record Advanced {S Reading Margin : Type 0} (model : S → ScaleModel Reading Margin) (rule : Rule) (scale : S) (rm : RecordModel Reading) (n : ℕ) (w : Watch S) (cells : List Margin) (r : Result (Answer Margin) WatchFault) : Type 0 where
  pub told : TellsRow (row_fault (model scale) rule rm n) r
  pub answers : IfOk r (λ a. meant (model scale).whole a ≡ answer_after (model scale) rule rm (n + 1))
  pub follows : OnOk r (Follows model rule scale rm (n + 1) w cells)

-- so it goes for the watch of every rule on every scale that has followed the record so far
abbrev pub Advances : {S Reading Margin : Type 0} → (S → ScaleModel Reading Margin) → RecordModel Reading → ℕ → Watch S → List Margin → Watch S → List Margin → Result (Answer Margin) WatchFault → Type 0
Advances {S = S} model rm n w cells w' cells' r = (rule : Rule) (scale : S) → n < rm.polls → Follows model rule scale rm n w cells → Advanced model rule scale rm n w' cells' r
