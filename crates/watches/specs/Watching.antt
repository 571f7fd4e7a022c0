-- What each call of a watch promises. Assumes nothing.
--     Holds         a watch's rows and cells stand for the accepted rows
--     Advances      whatever rows they stood for, they stand for the next ones
--     Made, Stepped, Played, Asked, Cleared   the calls
use Rattle.std.specs.Prelude.{◌≡◌, ℕ, ◌+◌, true, false, cond, List, [], ◌∷◌, ◌++◌, length, drop, is_err, Result}
use Rattle.faults.specs.Checks.{checked}
use Rattle.records.specs.Model.{RecordModel}
use Rattle.rules.specs.declared.rule.Rule.{Rule}
use Rattle.scales.specs.Model.{ScaleModel}
use Rattle.layout.specs.Rows.{Row, cells_of}
use Rattle.layout.specs.Rows as layout
use Rattle.watches.specs.Calls.{refusal, after_step, play_fault, play_rows, polls_to, after_play, reply, meant}
use Rattle.watches.specs.Readings.{row}
use Rattle.watches.specs.declared.answers.Answer.{Answer}
use Rattle.watches.specs.declared.answers.Play.{Play}
use Rattle.watches.specs.declared.refusals.WatchFault.{WatchFault}
use Rattle.watches.specs.declared.watch.Watch.{Watch}

-- n rows and the cells stand for the accepted rows
abbrev pub Holds : {Reading Margin : Type 0} → ScaleModel Reading Margin → Rule → ℕ → List Margin → List Row → Type 0
Holds sm rule n cells rows = layout.Holds sm.mark sm.whole rule n cells rows

-- From w and the cells lent to w' and cells': whatever rows w and the cells stood for, with any cells behind, they stand for the next ones.
pub record Advances {S Reading Margin : Type 0} (model : S → ScaleModel Reading Margin) (w : Watch S) (cells : List Margin) (w' : Watch S) (cells' : List Margin) (next : List Row → List Row) : Type 0 where
  pub same_rule : w'.rule ≡ w.rule
  pub same_scale : w'.scale ≡ w.scale
  pub same_length : length cells' ≡ length cells
  pub behind : drop (cells_of w.rule) cells' ≡ drop (cells_of w.rule) cells
  pub kept : (rest : List Margin) (rows : List Row) → Holds (model w.scale) w.rule w.rows.count (cells ++ rest) rows → Holds (model w.scale) w.rule w'.rows.count (cells' ++ rest) (next rows)

-- the making: no rows, and whatever the cells hold, they stand for none
pub record Made {S Reading Margin : Type 0} (model : S → ScaleModel Reading Margin) (rule : Rule) (scale : S) (w : Watch S) : Type 0 where
  pub made_rule : w.rule ≡ rule
  pub made_scale : w.scale ≡ scale
  pub no_rows : w.rows.count ≡ 0
  pub holds : (cells : List Margin) → Holds (model scale) rule w.rows.count cells []

-- clear: no rows, as at the making
pub record Cleared {S Reading Margin : Type 0} (model : S → ScaleModel Reading Margin) (w w' : Watch S) : Type 0 where
  pub same_rule : w'.rule ≡ w.rule
  pub same_scale : w'.scale ≡ w.scale
  pub no_rows : w'.rows.count ≡ 0
  pub holds : (cells : List Margin) → Holds (model w.scale) w.rule w'.rows.count cells []

-- one more row written into the cells, where n rows are there
pub record Written {Reading Margin : Type 0} (sm : ScaleModel Reading Margin) (rule : Rule) (rm : RecordModel Reading) (poll n : ℕ) (cells cells' : List Margin) (r : Result (Unit {0}) WatchFault) : Type 0 where
  pub answer : r ≡ checked (refusal sm rule rm poll (length cells) n)
  pub refused : is_err r ≡ true → cells' ≡ cells
  pub same_length : length cells' ≡ length cells
  pub behind : drop (cells_of rule) cells' ≡ drop (cells_of rule) cells
  pub kept : is_err r ≡ false → (rest : List Margin) (rows : List Row) → Holds sm rule n (cells ++ rest) rows → Holds sm rule (n + 1) (cells' ++ rest) (rows ++ (row sm rule rm poll ∷ []))

-- step: the ground that refuses it, if one does, and then everything is as it was; else one row more
pub record Stepped {S Reading Margin : Type 0} (model : S → ScaleModel Reading Margin) (rm : RecordModel Reading) (poll : ℕ) (w : Watch S) (cells : List Margin) (w' : Watch S) (cells' : List Margin) (r : Result (Unit {0}) WatchFault) : Type 0 where
  pub answer : r ≡ checked (refusal (model w.scale) w.rule rm poll (length cells) w.rows.count)
  pub refused : is_err r ≡ true → (w' ≡ w) × (cells' ≡ cells)
  pub counted : w'.rows.count ≡ cond (is_err r) w.rows.count (w.rows.count + 1)
  pub advances : Advances model w cells w' cells' (after_step (model w.scale) w.rule rm poll (length cells))

-- play: the rows of the polls before the first refusal, and that refusal; where it takes none, everything is as it was
pub record Played {S Reading Margin : Type 0} (model : S → ScaleModel Reading Margin) (rm : RecordModel Reading) (first last : ℕ) (w : Watch S) (cells : List Margin) (w' : Watch S) (cells' : List Margin) (r : Play) : Type 0 where
  pub took : r.rows ≡ play_rows (model w.scale) w.rule rm (length cells) w.rows.count first (polls_to first last)
  pub stopped : r.fault ≡ play_fault (model w.scale) w.rule rm (length cells) w.rows.count first (polls_to first last)
  pub untouched : r.rows ≡ 0 → (w' ≡ w) × (cells' ≡ cells)
  pub counted : w'.rows.count ≡ w.rows.count + r.rows
  pub advances : Advances model w cells w' cells' (after_play (model w.scale) w.rule rm first last (length cells))

-- ask: the reply for whatever rows the watch and the cells stand for, with any cells behind
abbrev pub Asked : {S Reading Margin : Type 0} → (S → ScaleModel Reading Margin) → Watch S → List Margin → Result (Answer Margin) WatchFault → Type 0
Asked {Margin = Margin} model w cells r =
    (rest : List Margin) (rows : List Row) → Holds (model w.scale) w.rule w.rows.count (cells ++ rest) rows → meant (model w.scale).whole r ≡ reply (model w.scale) w.rule rows (length cells)
