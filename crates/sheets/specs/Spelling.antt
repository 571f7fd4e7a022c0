-- How a sheet is spelled in bytes. Assumes nothing.
--     record_bytes  a record: the length of its payload and its kind, two bytes each, low byte first, and the payload
--     spell         the bytes of a whole sheet
use Rattle.std.specs.Prelude.{ℕ, List, ◌∷◌, ◌++◌, length, ℤ}
use Rattle.std.specs.Int.{w16, w32, to_le_bytes, cast_unsigned}
use Rattle.std.specs.List.{flat_map}
use Rattle.scales.specs.Limits.{sense_number}
use Rattle.formulas.specs.Formula.{Formula, head_test, zone_test, complement, either, both, window}
use Rattle.sheets.specs.Outlines.{Outline, SheetGroup, SheetZone, SheetRule}

-- a number in two bytes, the low one first
abbrev pub word : ℕ → List ℕ
word n = to_le_bytes w16 n

-- a limit in four bytes, the lowest first
abbrev pub limit_bytes : ℤ → List ℕ
limit_bytes l = to_le_bytes w32 (cast_unsigned w32 l)

abbrev pub record_bytes : ℕ → List ℕ → List ℕ
record_bytes kind payload = word (length payload) ++ (word kind ++ payload)

-- the fields of a formula, and then the formulas that it takes
abbrev pub formula_bytes : Formula → List ℕ
formula_bytes (head_test h s l) = record_bytes 16 (h ∷ sense_number s ∷ limit_bytes l)
formula_bytes (zone_test k s l) = record_bytes 17 (k ∷ sense_number s ∷ limit_bytes l)
formula_bytes (complement φ) = record_bytes 18 (formula_bytes φ)
formula_bytes (either φ ψ) = record_bytes 19 (formula_bytes φ ++ formula_bytes ψ)
formula_bytes (both φ ψ) = record_bytes 20 (formula_bytes φ ++ formula_bytes ψ)
formula_bytes (window a b p φ) = record_bytes 21 (word a ++ (word b ++ (word p ++ formula_bytes φ)))

-- the rule's number, and its formula
abbrev pub rule_bytes : SheetRule → List ℕ
rule_bytes r = record_bytes 4 (word r.number ++ formula_bytes r.formula)

-- the zone's number, how many heads, the heads, and its rules
abbrev pub zone_bytes : SheetZone → List ℕ
zone_bytes z = record_bytes 3 (word z.number ++ (length z.heads ∷ (z.heads ++ flat_map rule_bytes z.rules)))

-- the length of the name, the name, and its zones
abbrev pub group_bytes : SheetGroup → List ℕ
group_bytes g = record_bytes 2 (length g.name ∷ (g.name ++ flat_map zone_bytes g.zones))

-- the head total, and the groups
abbrev pub spell : Outline → List ℕ
spell o = record_bytes 1 (o.total ∷ flat_map group_bytes o.groups)
