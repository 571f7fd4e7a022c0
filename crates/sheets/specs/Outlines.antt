-- What a sheet says: its head total, and groups of zones of rules. Assumes nothing.
--     Outline       all that a sheet says
--     zones         its zones, in the sheet's order
--     rules         its rules, in the sheet's order
--     in_a_zone     a head stands in one of the zones
use Rattle.std.specs.Prelude.{ℕ, Bool, List}
use Rattle.std.specs.List.{flat_map, list_any}
use Rattle.formulas.specs.Formula.{Formula, among}

-- a rule: its number, and its formula
pub record SheetRule : Type 0 where
  pub number : ℕ
  pub formula : Formula

-- a zone: its number, its heads, and its rules
pub record SheetZone : Type 0 where
  pub number : ℕ
  pub heads : List ℕ
  pub rules : List SheetRule

-- a group: the bytes of its name, and its zones
pub record SheetGroup : Type 0 where
  pub name : List ℕ
  pub zones : List SheetZone

-- a sheet: how many heads the card has, and its groups
pub record Outline : Type 0 where
  pub total : ℕ
  pub groups : List SheetGroup

-- the zones of all groups
abbrev pub zones_of : List SheetGroup → List SheetZone
zones_of gs = flat_map (λ g. g.zones) gs

-- the rules of all zones
abbrev pub rules_of : List SheetZone → List SheetRule
rules_of zs = flat_map (λ z. z.rules) zs

-- one of the zones has the head
abbrev pub in_a_zone : ℕ → List SheetZone → Bool
in_a_zone h zs = list_any (λ z. among h z.heads) zs

abbrev pub zones : Outline → List SheetZone
zones o = zones_of o.groups

abbrev pub rules : Outline → List SheetRule
rules o = rules_of (zones o)
