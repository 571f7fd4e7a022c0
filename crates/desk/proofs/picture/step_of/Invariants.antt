use Rattle.std.proofs.Common.{◌≡◌, drop}
use Rattle.desk.specs.Ticks.{step_in}
use Rattle.desk.proofs.picture.step_of.Given as goal

abbrev pub invariant-loop-step : goal.invariant-loop-step
invariant-loop-step l = step_in (drop l.step-index l.fn.steps) l.fn.span ≡ step_in l.fn.steps l.fn.span
