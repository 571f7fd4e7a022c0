-- The decimals from here on come out even, at so many steps. Assumes nothing.
use Rattle.std.proofs.Common.{◌≡◌, ◌-◌, ◌*◌, ◌^◌, ◌<◌, ◌≤◌, length, drop}
use Rattle.std.specs.Str.Parse.{digits_value}
use Rattle.texts.proofs.decimals.decimal_steps.Given as goal

abbrev pub invariant-loop-at : goal.invariant-loop-at
invariant-loop-at l = record {
  within : l.at ≤ length l.decimals;
  below : l.steps < 256;
  even : l.steps * 10 ^ (length l.decimals - l.at) ≡ 256 * digits_value 10 (drop l.at l.decimals);
}

abbrev pub decreases-loop-at : goal.decreases-loop-at
decreases-loop-at l = l.at
