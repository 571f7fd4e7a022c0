-- What a scale means. Assumes nothing.
use Rattle.std.specs.Prelude.{◌≡◌, ℕ, ◌≤◌, ℤ, ◌-ℤ◌, Option, unsigned_abs}

-- how far two whole numbers lie apart
abbrev pub distance : ℤ → ℤ → ℕ
distance x y = unsigned_abs (x -ℤ y)

pub record ScaleModel (Reading Margin : Type 0) : Type 0 where
  -- the steps of a reading, a whole number; none where it is unlawful
  pub steps : Reading → Option ℤ
  -- the whole number that a margin stands for
  pub whole : Margin → ℤ
  -- the whole number of the margin that a difference in steps comes to
  pub mark : ℤ → ℤ
  -- how far apart the marks of two differences can be that are at most d apart
  pub reach : ℕ → ℕ
  pub close : (x y : ℤ) (d : ℕ) → distance x y ≤ d → distance (mark x) (mark y) ≤ reach d

-- a scale measures if its mark is the difference itself
abbrev pub Measures : {R M : Type 0} → ScaleModel R M → Type 0
Measures scale = (z : ℤ) → scale.mark z ≡ z
