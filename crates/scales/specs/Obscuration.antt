-- The scale of obscuration in percent per metre, in steps of 1/256. Assumes nothing.
use Rattle.std.specs.Prelude.{Float}
use Rattle.scales.specs.Grid.{grid_steps, grid_whole}
use Rattle.scales.specs.Model.{ScaleModel}
use Rattle.scales.specs.declared.obscuration.grid.OnGrid.{OnGrid}

-- a reading is lawful if 256 times it is a whole number from -1,048,576 to 1,048,576, its steps; mark and reach are as
-- for counts
abbrev pub obscuration : ScaleModel Float (OnGrid 2097152)
obscuration = record {
  steps = grid_steps 1048576;
  whole = λ m. grid_whole m.value;
  mark = λ z. z;
  reach = λ d. d;
  close = λ x y d near. near;
}
