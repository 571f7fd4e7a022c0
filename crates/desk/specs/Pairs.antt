-- The two watches of a rule, for its margins and for its verdicts. Assumes nothing.
--     FollowsBoth   both have followed the record so far
--     heard_after   the answer that they have together
--     BothTaken     one poll more
use Rattle.std.specs.Prelude.{◌≡◌, ℕ, ◌+◌, ◌-◌, cond, List, ℤ, pos, Some, None, Option, Result, IfOk, OnOk, int_le, nat_le}
use Rattle.formulas.specs.Formula.{horizon}
use Rattle.records.specs.Model.{RecordModel}
use Rattle.rules.specs.Rules.{formula}
use Rattle.rules.specs.declared.rule.Rule.{Rule}
use Rattle.scales.specs.Model.{ScaleModel}
use Rattle.scales.specs.Verdict.{verdict}
use Rattle.scales.specs.declared.verdict.Verdict.{Verdict}
use Rattle.scales.specs.declared.verdict.VerdictMargin.{VerdictMargin}
use Rattle.watches.specs.Readings.{row_fault}
use Rattle.watches.specs.declared.answers.Answer.{Answer}
use Rattle.watches.specs.declared.answers.Answer.TheVariants.{Waiting, At}
use Rattle.watches.specs.declared.refusals.WatchFault.{WatchFault}
use Rattle.watches.specs.declared.watch.Watch.{Watch}
use Rattle.desk.specs.Answers.{answers_of}
use Rattle.desk.specs.Follows.{Follows, TellsRow}
use Rattle.desk.specs.declared.answered.Answered.{Answered}

-- the verdicts over a scale
abbrev pub verdicts_over : {S Reading Margin : Type 0} → (S → ScaleModel Reading Margin) → Verdict S → ScaleModel Reading VerdictMargin
verdicts_over model v = verdict (model v.lower)

pub record FollowsBoth {S Reading Margin : Type 0} (model : S → ScaleModel Reading Margin) (rule : Rule) (scale : S) (rm : RecordModel Reading) (n : ℕ) (w : Watch S) (v : Watch (Verdict S)) (cells : List Margin) (cells' : List VerdictMargin) : Type 0 where
  pub margins : Follows model rule scale rm n w cells
  pub verdicts : Follows (verdicts_over model) rule (record { lower = scale }) rm n v cells'

-- a margin and a verdict together
abbrev pub joined : Answer ℤ → Answer ℤ → Option Answered
joined (At t m) (At u v) = Some (record { poll = t; margin = m; yes = int_le (pos 0) v })
joined (At t m) (Waiting k) = None
joined (Waiting k) a = None

-- after n rows: none while no poll has all its rows, else the record's margin and verdict at the latest that has
abbrev pub heard_after : {Reading Margin : Type 0} → ScaleModel Reading Margin → Rule → RecordModel Reading → ℕ → Option Answered
heard_after sm rule rm n = cond (nat_le n (horizon (formula rule))) None (Some (answers_of sm rule rm (n - 1 - horizon (formula rule))))

-- one poll more, number n
pub record BothTaken {S Reading Margin : Type 0} (model : S → ScaleModel Reading Margin) (rule : Rule) (scale : S) (rm : RecordModel Reading) (n : ℕ) (w : Watch S) (v : Watch (Verdict S)) (cells : List Margin) (cells' : List VerdictMargin) (r : Result (Option Answered) WatchFault) : Type 0 where
  pub told : TellsRow (row_fault (model scale) rule rm n) r
  pub answers : IfOk r (λ a. a ≡ heard_after (model scale) rule rm (n + 1))
  pub follows : OnOk r (FollowsBoth model rule scale rm (n + 1) w v cells cells')
