-- A play of a grid through a watch into a list of margins, as C is told of it. Assumes nothing.
--     Listed        the margins of the polls that have all their rows, as far as the list goes
--     Played        the rows before the first refusal, that refusal, and their margins
--     GridPlayed    a play for the rule that a list of entries makes
use Rattle.std.specs.Prelude.{◌≡◌, ℕ, ◌-◌, min, List, map, length, take, drop, ℤ, Some, Option, MatchResult, MatchOption}
use Rattle.entries.specs.declared.entry.Entry.{Entry}
use Rattle.formulas.specs.Formula.{horizon}
use Rattle.formulas.specs.Margin.{margin, polls}
use Rattle.layout.specs.Rows.{cells_of}
use Rattle.records.specs.Faults.{record_ground}
use Rattle.records.specs.Grid.{grid_fault, grid_record}
use Rattle.records.specs.Model.{RecordModel}
use Rattle.rules.specs.Assemble.{assemble}
use Rattle.rules.specs.Faults.{rule_ground}
use Rattle.rules.specs.Rules.{zone, formula, listed}
use Rattle.rules.specs.declared.rule.Rule.{Rule}
use Rattle.scales.specs.Model.{ScaleModel}
use Rattle.watches.specs.Calls.{play_fault, play_rows}
use Rattle.watches.specs.Readings.{steps_at}
use Rattle.firmware.specs.Refusals.{refused, watch_refusal}
use Rattle.firmware.specs.declared.plays.Play.{Play}
use Rattle.firmware.specs.declared.refusals.Refusal.{Refusal}

-- the first n places of a list tell exactly the rule's margins at polls 0 to n - 1 of the record, where n is the number of polls that
-- have all their rows, or the length of the list if that is less; the places behind them stay
pub record Listed {Reading Margin Told : Type 0} (sm : ScaleModel Reading Margin) (whole : Told → Option ℤ) (rule : Rule) (rm : RecordModel Reading) (rows : ℕ) (list list' : List Told) (n : ℕ) : Type 0 where
  pub count : n ≡ min (rows - horizon (formula rule)) (length list)
  pub margins : map whole (take n list') ≡ map (λ t. Some (margin sm.mark (zone rule) (formula rule) (steps_at sm rm) t)) (polls 0 n)
  pub behind : drop n list' ≡ drop n list

-- a watch of the rule takes every poll of the record as a row, up to the first refusal
pub record Played {Reading Margin Told : Type 0} (sm : ScaleModel Reading Margin) (whole : Told → Option ℤ) (rule : Rule) (rm : RecordModel Reading) (cells cells' : List ℤ) (list list' : List Told) (r : Play) : Type 0 where
  pub rows : r.rows ≡ play_rows sm rule rm (length cells) 0 0 rm.polls
  pub refusal : r.refusal ≡ watch_refusal (play_fault sm rule rm (length cells) 0 0 rm.polls)
  pub listed : Listed sm whole rule rm r.rows list list' r.margins
  pub same_length : length cells' ≡ length cells
  pub behind : drop (cells_of rule) cells' ≡ drop (cells_of rule) cells
  pub untouched : r.rows ≡ 0 → cells' ≡ cells

-- what a play comes to that takes no row, for a refusal of the rule or the grid
abbrev pub nothing_played : Refusal → Play
nothing_played why = record { refusal = why; rows = 0; margins = 0 }

-- and then all is as it was
pub record Unplayed {Told : Type 0} (why : Refusal) (cells cells' : List ℤ) (list list' : List Told) (r : Play) : Type 0 where
  pub answer : r ≡ nothing_played why
  pub same_cells : cells' ≡ cells
  pub same_list : list' ≡ list

-- the rule that the entries make in the zone plays the grid; where there is no rule or no grid, nothing is played
abbrev pub GridPlayed : {Reading Margin Told : Type 0} → ScaleModel Reading Margin → (Told → Option ℤ) → List ℕ → List Entry → ℕ → ℕ → List Reading → List ℤ → List ℤ → List Told → List Told → Play → Type 0
GridPlayed sm whole hs es heads count xs cells cells' list list' r =
    MatchResult (assemble hs es)
    (λ φ. MatchOption (grid_fault heads count (length xs))
    ((rule : Rule) × (listed rule ≡ es) × (zone rule ≡ hs) × Played sm whole rule (grid_record heads count xs) cells cells' list list' r)
    (λ f. Unplayed (refused (record_ground f)) cells cells' list list' r))
    (λ f. Unplayed (refused (rule_ground f)) cells cells' list list' r)
