-- A play for the rule and the grid that were made of what C lends. Assumes nothing.
use Rattle.std.proofs.Common.{◌≡◌, ℕ, List, length, ℤ, Option, None, Ok, sym, subst}
use Rattle.std.specs.Prelude.{MatchResult, MatchOption}
use Rattle.entries.specs.declared.entry.Entry.{Entry}
use Rattle.records.specs.Faults.{record_ground}
use Rattle.records.specs.Grid.{grid_fault, grid_record}
use Rattle.records.specs.Model.{RecordModel}
use Rattle.rules.specs.Faults.{rule_ground}
use Rattle.rules.specs.Rules.{zone, listed}
use Rattle.rules.specs.declared.rule.Rule.{Rule}
use Rattle.scales.specs.Model.{ScaleModel}
use Rattle.firmware.specs.Plays.{Played, Unplayed, GridPlayed}
use Rattle.firmware.specs.Refusals.{refused}
use Rattle.firmware.specs.Made.{RuleOf}
use Rattle.firmware.specs.declared.plays.Play.{Play}

pub grid_played : {Reading Margin Told : Type 0} (sm : ScaleModel Reading Margin) (whole : Told → Option ℤ) (hs : List ℕ) (es : List Entry) (heads count : ℕ) (xs : List Reading) (cells cells' : List ℤ) (list list' : List Told) (r : Play) (rule : Rule) (rm : RecordModel Reading)
    → RuleOf hs es (Ok rule) → grid_fault heads count (length xs) ≡ None → rm ≡ grid_record heads count xs → Played sm whole rule rm cells cells' list list' r → GridPlayed sm whole hs es heads count xs cells cells' list list' r
grid_played sm whole hs es heads count xs cells cells' list list' r rule rm made fits is played =
    subst (λ a.
    MatchResult a (λ φ.
    MatchOption (grid_fault heads count (length xs)) ((rule : Rule) × (listed rule ≡ es) × (zone rule ≡ hs) × Played sm whole rule (grid_record heads count xs) cells cells' list list' r) (λ f. Unplayed (refused (record_ground f)) cells cells' list list' r))
    (λ f. Unplayed (refused (rule_ground f)) cells cells' list list' r)) (sym made.0)
    (subst (λ o. MatchOption o ((rule : Rule) × (listed rule ≡ es) × (zone rule ≡ hs) × Played sm whole rule (grid_record heads count xs) cells cells' list list' r) (λ f. Unplayed (refused (record_ground f)) cells cells' list list' r)) (sym fits)
    (rule, made.2, made.1, subst (λ m. Played sm whole rule m cells cells' list list' r) is played))
