-- What a test of a reading comes to. Assumes nothing.
use Rattle.std.specs.Prelude.{ℤ, ◌-ℤ◌, Option}
use Rattle.std.specs.Option.{option_map}
use Rattle.scales.specs.Model.{ScaleModel}
use Rattle.scales.specs.declared.limit.Sense.{Sense}
use Rattle.scales.specs.declared.limit.Sense.TheVariants.{AtLeast, AtMost}
use Rattle.scales.specs.declared.limit.Test.{Test}

-- by how much the steps of a reading keep to a limit, in the sense of the test
abbrev pub difference : Sense → ℤ → ℤ → ℤ
difference AtLeast steps limit = steps -ℤ limit
difference AtMost steps limit = limit -ℤ steps

-- the whole number of the margin of a test: the mark of the difference, and none for an unlawful reading
abbrev pub tested : {R M : Type 0} → ScaleModel R M → R → Test → Option ℤ
tested scale reading test = option_map (λ steps. scale.mark (difference test.sense steps test.limit.value)) (scale.steps reading)
