-- Which formulas a rule may have in a zone of heads. Assumes nothing.
use Rattle.std.specs.Prelude.{◌≡◌, ℕ, ◌≤◌, true, List, length, unsigned_abs}
use Rattle.formulas.specs.Formula.{Formula, head_test, zone_test, complement, either, both, window, among, horizon}
use Rattle.rules.specs.Spelling.{entries}

-- every value is in range, and every head test names a head of the zone
abbrev pub Ranged : List ℕ → Formula → Type 0
Ranged zone (head_test h s l) = (unsigned_abs l ≤ 1048576) × (among h zone ≡ true)
Ranged zone (zone_test k s l) = (1 ≤ k) × (k ≤ length zone) × (unsigned_abs l ≤ 1048576)
Ranged zone (complement φ) = Ranged zone φ
Ranged zone (either φ ψ) = Ranged zone φ × Ranged zone ψ
Ranged zone (both φ ψ) = Ranged zone φ × Ranged zone ψ
Ranged zone (window a b p φ) = ((a ≤ b) × (b ≤ 1439) × (1 ≤ p) × (p ≤ 1000)) × Ranged zone φ

-- the sizes as numbers, so that the constants of the code are held to them
pub record Lawful (zone : List ℕ) (φ : Formula) : Type 0 where
  -- the zone has 1 to 32 heads
  pub some_heads : 1 ≤ length zone
  pub few_heads : length zone ≤ 32
  -- at most 24 entries spell the formula
  pub few_entries : entries φ ≤ 24
  pub ranged : Ranged zone φ
  -- neither it nor a part of it looks more than 4,095 polls ahead
  pub near : horizon φ ≤ 4095
