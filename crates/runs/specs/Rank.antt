-- The rank K of a window: how many of its polls make up its share. Assumes nothing.
use Rattle.std.specs.Prelude.{ℕ, ◌+◌, ◌*◌, ◌/◌, ◌≤◌}

-- a share of p thousandths of w polls, rounded up to a whole number of polls
abbrev pub rank : ℕ → ℕ → ℕ
rank p w = (p * w + 999) / 1000

-- k is the least whole number with 1,000 × k ≥ p × w
pub record Least (p w k : ℕ) : Type 0 where
  pub enough : p * w ≤ 1000 * k
  pub least : (j : ℕ) → p * w ≤ 1000 * j → k ≤ j
