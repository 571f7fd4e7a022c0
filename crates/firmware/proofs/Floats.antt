-- The float of a whole number of 256ths. Assumes nothing.
use Rattle.std.proofs.Common.{◌≡◌, Bool, true, false, cond, ℤ, Some, None, ◌≤◌, T, nat_abs, unsigned_abs, ap, arith, lit≤}
use lib.Ieee.{Float, binary32, div, of_int}
use Rattle.scales.specs.Grid.{on_grid, grid_whole, grid_steps}
use Rattle.scales.proofs.GridValues.{scale, grid_value, size_signed, over_256}

pub near : (x : Float) → T (on_grid 2097152 x) → unsigned_abs (grid_whole x) ≤ 2097152
near x h = let v = grid_value 2097152 x h in omega (arith, v.small, ap nat_abs v.is, size_signed v.sign v.size)

exactly : (b : Bool) (x z : ℤ) → T b → x ≡ z → cond b (Some x) None ≡ Some z
exactly true x z h is = ap Some is
exactly false x z h is = absurd h

pub float_is : (z : ℤ) → nat_abs z ≤ 2097152 → grid_steps 2097152 (div binary32 (of_int binary32 z) scale) ≡ Some z
float_is z h = let x = div binary32 (of_int binary32 z) scale in let e = over_256 2097152 (lit≤ tt) z h in exactly (on_grid 2097152 x) (grid_whole x) z e.0 e.1
