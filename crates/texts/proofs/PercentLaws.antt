-- The float of so many steps is just they over 256. Assumes nothing.
use Rattle.std.proofs.Common.{◌≡◌, ◌^◌, ◌<◌, T, ℤ, pos, nat_abs, sym, refl, ◌∙◌, subst, arith}
use lib.Ieee.{Float, binary32, div, of_int, of_bits, round}
use Rattle.scales.specs.Grid.{grid_whole, on_grid}
use Rattle.scales.proofs.GridValues.{scale, divided, below_zero, of_int_lem, signed_size, value_on_grid, Exact}
use Rattle.texts.specs.Decimals.{percent_of}

scale_is : of_int binary32 (pos 256) ≡ scale
unfolding of_int of_bits round
scale_is = refl

exact : (z : ℤ) → nat_abs z < 2 ^ 24 → Exact 16777215 (percent_of z) z
exact z h =
    let v = divided (of_int binary32 z) (below_zero z) (nat_abs z) h (of_int_lem z (omega arith)) in
    let w = value_on_grid (div binary32 (of_int binary32 z) scale) (below_zero z) (nat_abs z) 16777215 v (omega arith) in
    let P : Float → Type 0 = λ y. Exact 16777215 (div binary32 (of_int binary32 z) y) z in
    subst P (sym scale_is) (w.0, w.1 ∙ signed_size z)

pub percent_on : (z : ℤ) → nat_abs z < 2 ^ 24 → T (on_grid 16777215 (div binary32 (of_int binary32 z) (of_int binary32 (pos 256))))
percent_on z h = (exact z h).0

pub percent_is : (z : ℤ) → nat_abs z < 2 ^ 24 → grid_whole (div binary32 (of_int binary32 z) (of_int binary32 (pos 256))) ≡ z
percent_is z h = (exact z h).1
