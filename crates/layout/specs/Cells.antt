-- Rings of margins and ordered runs in one stretch of cells. Assumes nothing.
--     Outside       only one part of the cells may differ
--     Ring          the latest margins of a formula, each at its place in a ring
--     Run           the latest margins of a formula, highest first
use Rattle.std.specs.Prelude.{◌≡◌, ℕ, ◌+◌, ◌-◌, ◌%◌, ◌<◌, ◌≤◌, Bool, List, map, length, take, drop, ℤ, slice_index_or}
use Rattle.std.specs.List.{between}
use Rattle.formulas.specs.Margin.{polls}
use Rattle.runs.specs.Cells.{wholes, InOrder}
use Rattle.runs.specs.Highest.{tally}

-- only the cells from a on, up to e, may differ
pub record Outside {M : Type 0} (a e : ℕ) (xs ys : List M) : Type 0 where
  pub long : length ys ≡ length xs
  pub before : take a ys ≡ take a xs
  pub behind : drop e ys ≡ drop e xs

-- the latest `used` of f 0 to f (c - 1)
abbrev pub latest : (ℕ → ℤ) → ℕ → ℕ → List ℤ
latest f c used = map f (polls (c - used) used)

-- n rows are taken; the row p + h worked out f p, which stands at the place of that row in the ring from `base` on
pub record Ring {M : Type 0} (whole : M → ℤ) (f : ℕ → ℤ) (h size base n : ℕ) (cells : List M) : Type 0 where
  pub held : (p : ℕ) (c : M) → p + h < n → n ≤ p + h + size → whole (slice_index_or cells (base + (p + h) % size) c) ≡ f p

-- of f 0 to f (c - 1), the latest `used` lie highest first in the w cells from `from` on
pub record Run {M : Type 0} (whole : M → ℤ) (f : ℕ → ℤ) (from w used c : ℕ) (cells : List M) : Type 0 where
  pub order : InOrder whole used (between from (from + w) cells)
  -- the same whole numbers, each as often
  pub alike : (p : ℤ → Bool) → tally p (wholes whole used (between from (from + w) cells)) ≡ tally p (latest f c used)
