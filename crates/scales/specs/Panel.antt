-- The scale that a panel shows, one digit and its sign, over another scale. Assumes nothing.
use Rattle.std.specs.Prelude.{ℕ, ◌≤◌, min, ℤ}
use Rattle.std.proofs.Common.{arith}
use Rattle.std.proofs.lemmas.Int.{clamps, ints}
use Rattle.scales.specs.Model.{ScaleModel, distance}
use Rattle.scales.specs.Order.{clipped}
use Rattle.scales.specs.declared.bounded.Bounded.{Bounded}

-- the lower mark clipped to -9 to 9
abbrev pub panel_mark : (ℤ → ℤ) → ℤ → ℤ
panel_mark mark z = clipped 9 (mark z)

-- the lesser of the lower reach and 18
abbrev pub panel_reach : (ℕ → ℕ) → ℕ → ℕ
panel_reach reach d = min (reach d) 18

pub clip_close : (x y : ℤ) (d : ℕ) → distance x y ≤ d → distance (clipped 9 x) (clipped 9 y) ≤ min d 18
clip_close x y d near = omega (arith, ints, clamps)

-- the steps are the lower scale's
abbrev pub panel : {R M : Type 0} → ScaleModel R M → ScaleModel R (Bounded 9)
panel lower = record {
  steps = lower.steps;
  whole = λ m. m.value;
  mark = panel_mark lower.mark;
  reach = panel_reach lower.reach;
  close = λ x y d near. clip_close (lower.mark x) (lower.mark y) (lower.reach d) (lower.close x y d near);
}
