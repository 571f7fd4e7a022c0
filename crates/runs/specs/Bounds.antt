-- Margins between which another lies, where they are known. Assumes nothing.
use Rattle.std.specs.Prelude.{◌≡◌, ◌⊎◌, ℤ, ◌≤ℤ◌, Option, Some}

-- m is not above the lower bound, or not below the upper one
abbrev pub Outside : {M : Type 0} → (M → ℤ) → Option M → Option M → M → Type 0
Outside {M} whole low high m = ((l : M) × (low ≡ Some l) × (whole m ≤ℤ whole l)) ⊎ ((h : M) × (high ≡ Some h) × (whole h ≤ℤ whole m))
