-- What a cell stands for is never below the range. Assumes nothing.
use Rattle.std.proofs.Common.{◌≡◌, ℕ, ℤ, pos, arith}
use lib.Signed.{lt_z}
use Rattle.std.specs.Int.{int_min}
use Rattle.std.proofs.lemmas.Int.{ints}
use Rattle.scales.specs.Order.{clipped}

pub upper_end : (most : ℕ) (a b : ℤ) → lt_z (clipped most b) (int_min a (pos most)) ≡ lt_z (clipped most b) (clipped most a)
upper_end most a b = grind (arith, ints)
