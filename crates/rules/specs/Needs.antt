-- How many cells a watch of a formula needs. Assumes nothing.
use Rattle.std.specs.Prelude.{ℕ, zero, suc, ◌+◌, ◌*◌, Bool, true, false, cond, ◌||◌, List, length}
use Rattle.formulas.specs.Formula.{Formula, head_test, zone_test, complement, either, both, window, width, horizon}
use Rattle.rules.specs.Spelling.{entries}

-- the widths of all windows
abbrev pub widths : Formula → ℕ
widths (head_test h s l) = 0
widths (zone_test k s l) = 0
widths (complement φ) = widths φ
widths (either φ ψ) = widths φ + widths ψ
widths (both φ ψ) = widths φ + widths ψ
widths (window a b p φ) = widths φ + width a b

-- the width of the window that a formula is, if it is one
abbrev pub top_width : Formula → ℕ
top_width (head_test h s l) = 0
top_width (zone_test k s l) = 0
top_width (complement φ) = 0
top_width (either φ ψ) = 0
top_width (both φ ψ) = 0
top_width (window a b p φ) = width a b

-- of the formulas that f gives to the first n entries
abbrev pub widths_to : (ℕ → Formula) → ℕ → ℕ
widths_to f zero = 0
widths_to f (suc n) = widths_to f n + top_width (f n)

abbrev pub zone_tested : Formula → Bool
zone_tested (head_test h s l) = false
zone_tested (zone_test k s l) = true
zone_tested (complement φ) = zone_tested φ
zone_tested (either φ ψ) = zone_tested φ || zone_tested ψ
zone_tested (both φ ψ) = zone_tested φ || zone_tested ψ
zone_tested (window a b p φ) = zone_tested φ

-- entries × (horizon + 1), the width of each window, and the zone's heads if there is a zone test
abbrev pub need : List ℕ → Formula → ℕ
need zone φ = entries φ * (horizon φ + 1) + widths φ + cond (zone_tested φ) (length zone) 0
