-- Laws of the rank of a window. Assumes nothing.
use Rattle.std.proofs.Common.{ℕ, ◌*◌, ◌≤◌, mul-le-mul_right, arith}
use Rattle.runs.specs.Rank.{rank, Least}

pub rank_least : (p w : ℕ) → Least p w (rank p w)
rank_least p w = record { enough = omega arith; least = λ j h. omega arith }

-- n polls make up the share exactly if they are at least the rank
pub rank_enough : (p w n : ℕ) → rank p w ≤ n → p * w ≤ 1000 * n
rank_enough p w n h = omega arith

pub enough_rank : (p w n : ℕ) → p * w ≤ 1000 * n → rank p w ≤ n
enough_rank p w n h = omega arith

-- a share of 1 to 1,000 thousandths takes one of the polls at least, and no more than there are
pub rank_some : (p w : ℕ) → 1 ≤ p → 1 ≤ w → 1 ≤ rank p w
rank_some p w lo h = omega (arith, mul-le-mul_right w lo)

pub rank_fits : (p w : ℕ) → p ≤ 1000 → rank p w ≤ w
rank_fits p w h = omega (arith, mul-le-mul_right w h)
