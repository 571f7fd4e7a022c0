-- What margins and verdicts mean, in the words of logic. Assumes nothing.
--     holds         whether a formula holds: tests, not, or, and, and shares of polls and of heads
--     HoldsBy      whether a formula holds by a margin of at least r
--     Meaning       a margin is the greatest by which the formula holds, and a verdict says whether it does
use Rattle.std.specs.Prelude.{◌≡◌, ℕ, ◌+◌, ◌*◌, ◌≤◌, Bool, true, cond, not, ◌&&◌, ◌||◌, ◌⊎◌, List, ℤ, pos, negsuc, neg_ℤ, ◌≤ℤ◌, count_by, int_le, nat_le}
use Rattle.formulas.specs.Formula.{Formula, head_test, zone_test, complement, either, both, window, width, horizon, reads}
use Rattle.formulas.specs.Margin.{Signal, test, polls, margin, verdict}

-- a test holds if its mark is 0 or more, a zone test if K heads pass at least, a window if 1,000 × the number of its polls at which
-- its formula holds is p × their number at least
unfoldable pub holds : (ℤ → ℤ) → List ℕ → Formula → Signal → ℕ → Bool
holds mark zone (head_test h s l) x t = int_le (pos 0) (test mark s l (x t h))
holds mark zone (zone_test k s l) x t = nat_le k (count_by (λ h. int_le (pos 0) (test mark s l (x t h))) zone)
holds mark zone (complement φ) x t = not (holds mark zone φ x t)
holds mark zone (either φ ψ) x t = holds mark zone φ x t || holds mark zone ψ x t
holds mark zone (both φ ψ) x t = holds mark zone φ x t && holds mark zone ψ x t
holds mark zone (window a b p φ) x t = nat_le (p * width a b) (1000 * count_by (λ u. holds mark zone φ x u) (polls (t + a) (width a b)))

-- a formula holds by r: so does its test, K heads of the zone, one of two formulas or both, or p thousandths of a window's polls;
-- a complement holds by r where its formula fails by r
abbrev pub HoldsBy : (ℤ → ℤ) → List ℕ → Formula → Signal → ℕ → ℤ → Type 0
HoldsBy mark zone (head_test h s l) x t r = r ≤ℤ test mark s l (x t h)
HoldsBy mark zone (zone_test k s l) x t r = k ≤ count_by (λ h. int_le r (test mark s l (x t h))) zone
HoldsBy mark zone (complement φ) x t r = margin mark zone φ x t ≤ℤ neg_ℤ r
HoldsBy mark zone (either φ ψ) x t r = (r ≤ℤ margin mark zone φ x t) ⊎ (r ≤ℤ margin mark zone ψ x t)
HoldsBy mark zone (both φ ψ) x t r = (r ≤ℤ margin mark zone φ x t) × (r ≤ℤ margin mark zone ψ x t)
HoldsBy mark zone (window a b p φ) x t r = p * width a b ≤ 1000 * count_by (λ u. int_le r (margin mark zone φ x u)) (polls (t + a) (width a b))

-- m is the greatest whole number with P
pub record Greatest (P : ℤ → Type 0) (m : ℤ) : Type 0 where
  pub reached : P m
  pub highest : (r : ℤ) → P r → r ≤ℤ m

-- two signals agree on the heads that φ reads at the polls that it looks at from poll t
abbrev pub AlikeFor : List ℕ → Formula → ℕ → Signal → Signal → Type 0
AlikeFor zone φ t x y = (u h : ℕ) → t ≤ u → u ≤ t + horizon φ → reads zone φ h ≡ true → x u h ≡ y u h

pub record Meaning (mark : ℤ → ℤ) (zone : List ℕ) (φ : Formula) : Type 0 where
  -- the margin is the greatest by which the formula holds
  pub greatest : (x : Signal) (t : ℕ) → Greatest (HoldsBy mark zone φ x t) (margin mark zone φ x t)
  -- the verdict is 1 where the formula holds and -1 where it does not
  pub truth : (x : Signal) (t : ℕ) → verdict mark zone φ x t ≡ cond (holds mark zone φ x t) (pos 1) (negsuc 0)
  -- the margin depends only on the heads read and on the polls from t to t + horizon
  pub local : (t : ℕ) (x y : Signal) → AlikeFor zone φ t x y → margin mark zone φ x t ≡ margin mark zone φ y t
