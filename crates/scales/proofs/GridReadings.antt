-- Which floats are whole numbers of 256ths: z is what 256 times the reading was taken for, and y is z/256. Assumes nothing.
use Rattle.std.proofs.Common.{◌≡◌, ℕ, ◌<◌, ◌≤◌, Bool, true, false, cond, T, ℤ, nat_abs, Some, None, sym, refl, ap, ◌∙◌, subst, leb, lit≤, arith}
use mathlib.Core.Bool.{false≢true}
use lib.Ieee.{Float, eq}
use lib.Ieee.Exact.{HasValue}
use Rattle.std.proofs.lemmas.Bool.{leb-false}
use Rattle.scales.specs.declared.obscuration.grid.OnGrid.{OnGrid}
use Rattle.scales.specs.Grid.{signed, grid_whole, on_grid, grid_steps}
use Rattle.scales.proofs.GridValues.{grid_value, size_signed, value_on_grid, wider}
use Rattle.scales.proofs.GridTests.{eq_in, eq_out}

some_where_on : (b : Bool) (z : ℤ) → T b → Some z ≡ cond b (Some z) None
some_where_on true z t = refl
some_where_on false z t = absurd t

module _ (most : ℕ) (room : most ≤ 2097152) (x : Float) (z : ℤ) (scaled : T (on_grid 2097152 x) → z ≡ grid_whole x) where
  none_unless : (b : Bool) → (T b → ⊥) → None ≡ cond b (Some (grid_whole x)) None
  none_unless true f = absurd (f tt)
  none_unless false f = refl

  pub too_far : most < nat_abs z → None ≡ grid_steps most x
  too_far far = none_unless (on_grid most x) (λ on.
      let v = grid_value most x on in
      let e = scaled (wider most 2097152 x room on) ∙ v.is in
      omega (arith, far, v.small, ap nat_abs e ∙ size_signed v.sign v.size))

  module _ (y : Float) (on : T (on_grid most y)) (is : grid_whole y ≡ z) where
    not_level : eq y x ≡ false → None ≡ grid_steps most x
    not_level e = none_unless (on_grid most x) (λ lawful.
        let v = grid_value most y on in
        let w = grid_value most x lawful in
        let same : signed v.sign v.size ≡ signed w.sign w.size = sym v.is ∙ is ∙ scaled (wider most 2097152 x room lawful) ∙ w.is in
        let size : v.size ≡ w.size = sym (size_signed v.sign v.size) ∙ ap nat_abs same ∙ size_signed w.sign w.size in
        false≢true (sym e ∙ eq_in y x v.sign w.sign v.size v.has (subst (λ (k : ℕ). HasValue x w.sign k 256) (sym size) w.has) (same ∙ ap (signed w.sign) (sym size))))

-- a reading of too many steps has none
pub no_steps : (x : Float) (z : ℤ) → (T (on_grid 2097152 x) → z ≡ grid_whole x) → false ≡ leb (nat_abs z) 1048576 → None ≡ grid_steps 1048576 x
no_steps x z scaled far = too_far 1048576 (lit≤ tt) x z scaled (leb-false (nat_abs z) 1048576 (sym far))

-- nor has one that is not the float of its steps
pub other_float : (x : Float) (z : ℤ) (y : OnGrid 1048576) → (T (on_grid 2097152 x) → z ≡ grid_whole x) → grid_whole y.value ≡ z → false ≡ eq y.value x → None ≡ grid_steps 1048576 x
other_float x z y scaled is e = not_level 1048576 (lit≤ tt) x z scaled y.value y.grid is (sym e)

-- one that is that float is on the grid
pub same_on : (x : Float) (y : OnGrid 1048576) → true ≡ eq y.value x → T (on_grid 1048576 x)
same_on x y e =
    let v = grid_value 1048576 y.value y.grid in
    let w = eq_out y.value x v.sign v.size v.has (sym e) in
    (value_on_grid x w.0 v.size 1048576 w.1 v.small).0

-- and has its whole number as steps
pub on_steps : (x : Float) → T (on_grid 1048576 x) → Some (grid_whole x) ≡ grid_steps 1048576 x
on_steps x on = some_where_on (on_grid 1048576 x) (grid_whole x) on
