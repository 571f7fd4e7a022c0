-- Cells that firmware lends: 32-bit numbers, of which any may stand in a cell. Assumes nothing.
use Rattle.std.specs.Prelude.{ℕ, ℤ}
use Rattle.scales.specs.Model.{ScaleModel}
use Rattle.scales.specs.Order.{clipped}

-- the largest size of an obscuration margin, in steps
abbrev pub most_steps : ℕ
most_steps = 2097152

-- a cell stands for its number, clipped to -most to most, a range that holds all margins of the scale
abbrev pub cell_whole : ℕ → ℤ → ℤ
cell_whole most z = clipped most z

-- the lower scale, with cells in the place of its margins
abbrev pub in_cells : {R M : Type 0} → ℕ → ScaleModel R M → ScaleModel R ℤ
in_cells most lower = record {
  steps = lower.steps;
  whole = cell_whole most;
  mark = lower.mark;
  reach = lower.reach;
  close = lower.close;
}
