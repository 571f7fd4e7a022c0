use Rattle.std.proofs.Common.{◌≡◌, ap, ◌∙◌}
use Rattle.watches.specs.Faults.{watch_ground, at_whole, at_reading}
use Rattle.watches.proofs.refusals.WatchFaultDisplay.fmt.Goals as goal

pub returns-in-Full-clause-writes : goal.returns-in-Full-clause-writes
returns-in-Full-clause-writes g c =
    let e : c.ground-ground.result ≡ at_whole 9 = c.ground-ground.ensures ∙ ap watch_ground c.in-Full.is in
    simp c.in-Full.is (simp e at c.write-in-Full.ensures.writes)

pub returns-in-Unlawful-clause-writes : goal.returns-in-Unlawful-clause-writes
returns-in-Unlawful-clause-writes g c =
    let e : c.ground-ground.result ≡ at_reading 12 c.in-Unlawful.head c.in-Unlawful.poll = c.ground-ground.ensures ∙ ap watch_ground c.in-Unlawful.is in
    simp c.in-Unlawful.is (simp e at c.write-in-Unlawful.ensures.writes)
