-- Which sheets are lawful. Assumes nothing.
--     Lawful        every number is in range, and every head stands in just one zone
use Rattle.std.specs.Prelude.{◌≡◌, ℕ, ◌<◌, ◌≤◌, cond, List, length, nat_lt, ◌==◌}
use Rattle.std.specs.List.{AllByRecursion, count_by}
use Rattle.formulas.specs.Formula.{among}
use Rattle.entries.specs.Heads.{Rising}
use Rattle.rules.specs.Lawful as formula
use Rattle.sheets.specs.Outlines.{Outline, SheetGroup, SheetZone, SheetRule, zones, rules}
use Rattle.sheets.specs.Spelling.{spell}

-- a rule's number has two bytes, and its formula is lawful among the heads of its own zone
abbrev pub LawfulRule : List ℕ → SheetRule → Type 0
LawfulRule heads r = (r.number < 65536) × formula.Lawful heads r.formula

-- a zone's number has two bytes; it has 1 to 32 heads, which rise; its rules are lawful
pub record LawfulZone (z : SheetZone) : Type 0 where
  pub numbered : z.number < 65536
  pub some_heads : 1 ≤ length z.heads
  pub few_heads : length z.heads ≤ 32
  pub rising : Rising z.heads
  pub rules : AllByRecursion (LawfulRule z.heads) z.rules

-- a character of a name is one of the bytes 32 to 126
abbrev pub NameByte : ℕ → Type 0
NameByte b = (32 ≤ b) × (b ≤ 126)

-- a name has 1 to 24 characters; the zones are lawful
pub record LawfulGroup (g : SheetGroup) : Type 0 where
  pub named : 1 ≤ length g.name
  pub short : length g.name ≤ 24
  pub characters : AllByRecursion NameByte g.name
  pub zones : AllByRecursion LawfulZone g.zones

-- in how many of the zones a head stands
abbrev pub zones_with : ℕ → List SheetZone → ℕ
zones_with h zs = count_by (λ z. among h z.heads) zs

-- how many of the zones have a number
abbrev pub zones_numbered : ℕ → List SheetZone → ℕ
zones_numbered n zs = count_by (λ z. z.number == n) zs

-- how many of the rules have a number
abbrev pub rules_numbered : ℕ → List SheetRule → ℕ
rules_numbered n rs = count_by (λ r. r.number == n) rs

-- the sizes as numbers, so that the constants of the code are held to them
pub record Lawful (o : Outline) : Type 0 where
  pub some_heads : 1 ≤ o.total
  pub few_heads : o.total ≤ 64
  pub few_groups : length o.groups ≤ 16
  pub few_zones : length (zones o) ≤ 32
  pub few_rules : length (rules o) ≤ 64
  pub groups : AllByRecursion LawfulGroup o.groups
  -- each head below the total stands in exactly one zone, and no other head in any
  pub zoned : (h : ℕ) → zones_with h (zones o) ≡ cond (nat_lt h o.total) 1 0
  -- each zone has a number of its own
  pub zone_numbers : (n : ℕ) → zones_numbered n (zones o) ≤ 1
  -- each rule has a number of its own
  pub rule_numbers : (n : ℕ) → rules_numbered n (rules o) ≤ 1
  -- all of it is spelled in at most 16,384 bytes
  pub short : length (spell o) ≤ 16384
