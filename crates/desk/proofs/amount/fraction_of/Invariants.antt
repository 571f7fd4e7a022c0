use Rattle.std.proofs.Common.{◌≡◌, ◌*◌, ◌^◌, ◌≤◌}
use Rattle.desk.specs.Amounts.{shortest, decimals_of}
use Rattle.desk.proofs.amount.fraction_of.Given as goal

abbrev pub invariant-loop-places : goal.invariant-loop-places
invariant-loop-places l = (l.digits * 256 ≡ l.parts * 10 ^ l.places) × (l.places ≤ 8) × (shortest l.digits l.places ≡ decimals_of l.parts)

abbrev pub decreases-loop-places : goal.decreases-loop-places
decreases-loop-places l = l.places
