-- The margin of a formula at a poll, and its verdict. Assumes nothing.
--     Signal        the steps of each head at each poll
--     margin        by how much a formula holds of a signal at a poll, each test by the mark of its difference
--     verdict       the margin where each test only says yes, 1, or no, -1
--     Formed        the formulas whose windows run forwards and whose K count one of their stretch
use Rattle.std.specs.Prelude.{ℕ, ◌+◌, ◌≤◌, List, map, length, ℤ, neg_ℤ}
use Rattle.std.specs.List.{range_with_len}
use Rattle.std.specs.Int.{int_max, int_min}
use Rattle.scales.specs.declared.limit.Sense.{Sense}
use Rattle.scales.specs.Tests.{difference}
use Rattle.scales.specs.Verdict.{verdict_mark}
use Rattle.runs.specs.Highest.{kth}
use Rattle.runs.specs.Rank.{rank}
use Rattle.formulas.specs.Formula.{Formula, head_test, zone_test, complement, either, both, window, width}

-- poll, then head
abbrev pub Signal : Type 0
Signal = ℕ → ℕ → ℤ

-- the margin of a reading of r steps against the limit l
abbrev pub test : (ℤ → ℤ) → Sense → ℤ → ℤ → ℤ
test mark sense l r = mark (difference sense r l)

-- n polls from poll s on
unfoldable pub polls : ℕ → ℕ → List ℕ
polls s n = range_with_len s n

-- a zone test is the K-th highest test over the heads of the zone, a complement the negated margin, either the higher of two and
-- both the lower, and a window the K-th highest margin of its polls, K being the rank of its share
unfoldable pub margin : (ℤ → ℤ) → List ℕ → Formula → Signal → ℕ → ℤ
margin mark zone (head_test h s l) x t = test mark s l (x t h)
margin mark zone (zone_test k s l) x t = kth k (map (λ h. test mark s l (x t h)) zone)
margin mark zone (complement φ) x t = neg_ℤ (margin mark zone φ x t)
margin mark zone (either φ ψ) x t = int_max (margin mark zone φ x t) (margin mark zone ψ x t)
margin mark zone (both φ ψ) x t = int_min (margin mark zone φ x t) (margin mark zone ψ x t)
margin mark zone (window a b p φ) x t = kth (rank p (width a b)) (map (λ u. margin mark zone φ x u) (polls (t + a) (width a b)))

-- the margin under the verdict mark: yes, 1, where a mark holds and no, -1, elsewhere
abbrev pub verdict : (ℤ → ℤ) → List ℕ → Formula → Signal → ℕ → ℤ
verdict mark = margin (verdict_mark mark)

-- windows run forwards and have a share from 1 to 1,000 thousandths; K goes from 1 to the number of the zone's heads
abbrev pub Formed : List ℕ → Formula → Type 0
Formed zone (head_test h s l) = Unit {0}
Formed zone (zone_test k s l) = (1 ≤ k) × (k ≤ length zone)
Formed zone (complement φ) = Formed zone φ
Formed zone (either φ ψ) = Formed zone φ × Formed zone ψ
Formed zone (both φ ψ) = Formed zone φ × Formed zone ψ
Formed zone (window a b p φ) = (a ≤ b) × (1 ≤ p) × (p ≤ 1000) × Formed zone φ
