-- Runs of calls of one watch over one stretch of cells, and the record that they have it accept. Assumes nothing.
--     Call          a call, with the meaning of the record that it was handed and the number of cells that it was lent
--     accepted      the accepted record, from the calls alone
--     Run           calls took a watch from its making, and the stretch of cells, to a state
use Rattle.std.specs.Prelude.{ℕ, List, [], ◌∷◌, ◌++◌, length, Result}
use Rattle.records.specs.Model.{RecordModel}
use Rattle.rules.specs.declared.rule.Rule.{Rule}
use Rattle.scales.specs.Model.{ScaleModel}
use Rattle.layout.specs.Rows.{Row}
use Rattle.watches.specs.Calls.{after_step, after_play}
use Rattle.watches.specs.Watching.{Made, Stepped, Played, Asked, Cleared}
use Rattle.watches.specs.declared.answers.Answer.{Answer}
use Rattle.watches.specs.declared.answers.Play.{Play}
use Rattle.watches.specs.declared.refusals.WatchFault.{WatchFault}
use Rattle.watches.specs.declared.watch.Watch.{Watch}

pub data Call (Reading : Type 0) : Type 0 where
  step : (rm : RecordModel Reading) (poll lent : ℕ) → Call Reading
  play : (rm : RecordModel Reading) (first last lent : ℕ) → Call Reading
  ask : (lent : ℕ) → Call Reading
  clear : Call Reading

-- The rows that calls, the latest first, have a watch accept: none at the making; a step that no ground refuses adds its row, a play
-- every row before its first refusal; clear empties the list, and all else leaves it.
unfoldable pub accepted : {Reading Margin : Type 0} → ScaleModel Reading Margin → Rule → List (Call Reading) → List Row
accepted sm rule [] = []
accepted sm rule (step rm poll lent ∷ calls) = after_step sm rule rm poll lent (accepted sm rule calls)
accepted sm rule (play rm first last lent ∷ calls) = after_play sm rule rm first last lent (accepted sm rule calls)
accepted sm rule (ask lent ∷ calls) = accepted sm rule calls
accepted sm rule (clear ∷ calls) = []

-- Calls, the latest first, took a watch of the rule on the scale from its making to w, and the stretch of cells, which held anything, to
-- what it holds now. Each call was handed any record, was lent any front of the stretch, and did what its contract says.
pub data Run {S Reading Margin : Type 0} (model : S → ScaleModel Reading Margin) (rule : Rule) (scale : S) : List (Call Reading) → Watch S → List Margin → Type 0 where
  made : {w : Watch S} {cells : List Margin} → Made model rule scale w → Run model rule scale [] w cells
  step : {calls : List (Call Reading)} {w w' : Watch S} (front front' rest : List Margin) {rm : RecordModel Reading} {poll : ℕ} {r : Result (Unit {0}) WatchFault}
      → Run model rule scale calls w (front ++ rest) → Stepped model rm poll w front w' front' r → Run model rule scale (Call.step rm poll (length front) ∷ calls) w' (front' ++ rest)
  play : {calls : List (Call Reading)} {w w' : Watch S} (front front' rest : List Margin) {rm : RecordModel Reading} {first last : ℕ} {r : Play}
      → Run model rule scale calls w (front ++ rest) → Played model rm first last w front w' front' r → Run model rule scale (Call.play rm first last (length front) ∷ calls) w' (front' ++ rest)
  ask : {calls : List (Call Reading)} {w : Watch S} (front rest : List Margin) (r : Result (Answer Margin) WatchFault)
      → Run model rule scale calls w (front ++ rest) → Asked model w front r → Run model rule scale (Call.ask (length front) ∷ calls) w (front ++ rest)
  clear : {calls : List (Call Reading)} {w w' : Watch S} {cells : List Margin}
      → Run model rule scale calls w cells → Cleared model w w' → Run model rule scale (Call.clear ∷ calls) w' cells
