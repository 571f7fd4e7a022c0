-- What a load leaves in the rule places. Assumes nothing.
--     RuleLine      what a place holds: a rule's number, its zone's, the zone's heads and the formula
--     lines         those of all rules of a sheet, in the sheet's order
--     Filled        the places hold the sheet's rules
use Rattle.std.specs.Prelude.{◌≡◌, ℕ, List, map, length, take, drop, Ok, Err, Result, MatchResult}
use Rattle.std.specs.List.{flat_map}
use Rattle.formulas.specs.Formula.{Formula}
use Rattle.rules.specs.Places.{place_means}
use Rattle.rules.specs.declared.place.RulePlace.{RulePlace}
use Rattle.sheets.specs.Outlines.{Outline, SheetZone, SheetRule, zones, rules}
use Rattle.sheets.specs.Reading.{read_into}
use Rattle.sheets.specs.declared.fault.SheetFault.{SheetFault}
use Rattle.sheets.specs.declared.loaded.Loaded.{Loaded}

pub record RuleLine : Type 0 where
  pub number : ℕ
  pub zone : ℕ
  pub heads : List ℕ
  pub formula : Formula

-- what a place holds
abbrev pub line : RulePlace → RuleLine
line p = record { number = p.rule_number; zone = p.zone_number; heads = (place_means p).1; formula = (place_means p).0 }

-- a rule of a zone
abbrev pub line_of : SheetZone → SheetRule → RuleLine
line_of z r = record { number = r.number; zone = z.number; heads = z.heads; formula = r.formula }

-- the rules of a zone
abbrev pub zone_lines : SheetZone → List RuleLine
zone_lines z = map (line_of z) z.rules

abbrev pub lines : List SheetZone → List RuleLine
lines zs = flat_map zone_lines zs

-- the first places hold the rules of the outline, and those behind them are as they were
pub record Filled (o : Outline) (before after : List RulePlace) : Type 0 where
  pub holds : map line (take (length (rules o)) after) ≡ lines (zones o)
  pub behind : drop (length (rules o)) after ≡ drop (length (rules o)) before
  pub same_length : length after ≡ length before

-- how many groups, zones and rules
abbrev pub counts : Outline → Loaded
counts o = record { groups = length o.groups; zones = length (zones o); rules = length (rules o) }

-- what is read, and the places filled with its rules; or the first fault, and the places as they were
abbrev pub Loads : List ℕ → List RulePlace → List RulePlace → Result Loaded SheetFault → Type 0
Loads xs before after result = MatchResult result
    (λ l. (o : Outline) × (read_into xs (length before) ≡ Ok o) × (l ≡ counts o) × Filled o before after)
    (λ f. (read_into xs (length before) ≡ Err f) × (after ≡ before))
