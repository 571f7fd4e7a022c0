-- The scale of counts. Assumes nothing.
use Rattle.std.specs.Prelude.{cond, ◌&&◌, ℤ, pos, Some, None, Option, int_le}
use Rattle.scales.specs.Model.{ScaleModel}
use Rattle.scales.specs.declared.bounded.Bounded.{Bounded}

-- a count is its own steps, and lawful from 0 to 65,535
abbrev pub count_steps : ℤ → Option ℤ
count_steps reading = cond (int_le (pos 0) reading && int_le reading (pos 65535)) (Some reading) None

-- the mark is the difference, and the reach of d is d
abbrev pub counts : ScaleModel ℤ (Bounded 1114111)
counts = record {
  steps = count_steps;
  whole = λ m. m.value;
  mark = λ z. z;
  reach = λ d. d;
  close = λ x y d near. near;
}
