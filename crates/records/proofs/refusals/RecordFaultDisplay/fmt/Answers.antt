-- Each fault of a record is written with its ground and its words. Assumes nothing.
use Rattle.std.proofs.Common.{◌≡◌, ap, ◌∙◌}
use Rattle.records.specs.Faults.{record_ground, ground_six}
use Rattle.records.proofs.refusals.RecordFaultDisplay.fmt.Goals as goal

pub returns-in-ReadingsDoNotFill-clause-writes : goal.returns-in-ReadingsDoNotFill-clause-writes
returns-in-ReadingsDoNotFill-clause-writes g c =
    let e : c.ground-ground.result ≡ ground_six = c.ground-ground.ensures ∙ ap record_ground c.in-ReadingsDoNotFill.is in
    rw c.in-ReadingsDoNotFill.is (rw e at c.write-in-ReadingsDoNotFill.ensures.writes)
