-- Each fault of a log is written with its ground and its words. Assumes nothing.
use Rattle.std.proofs.Common.{◌≡◌, ap, ◌∙◌}
use Rattle.logs.specs.Faults.{log_ground, ground_seven}
use Rattle.logs.proofs.refusals.LogFaultDisplay.fmt.Goals as goal

pub returns-in-PollOutside-clause-writes : goal.returns-in-PollOutside-clause-writes
returns-in-PollOutside-clause-writes g c =
    let e : c.ground-ground.result ≡ ground_seven c.in-PollOutside.entry = c.ground-ground.ensures ∙ ap log_ground c.in-PollOutside.is in
    simp c.in-PollOutside.is (simp e at c.write-in-PollOutside.ensures.writes)

pub returns-in-HeadOutside-clause-writes : goal.returns-in-HeadOutside-clause-writes
returns-in-HeadOutside-clause-writes g c =
    let e : c.ground-ground.result ≡ ground_seven c.in-HeadOutside.entry = c.ground-ground.ensures ∙ ap log_ground c.in-HeadOutside.is in
    simp c.in-HeadOutside.is (simp e at c.write-in-HeadOutside.ensures.writes)

pub returns-in-PollFalls-clause-writes : goal.returns-in-PollFalls-clause-writes
returns-in-PollFalls-clause-writes g c =
    let e : c.ground-ground.result ≡ ground_seven c.in-PollFalls.entry = c.ground-ground.ensures ∙ ap log_ground c.in-PollFalls.is in
    simp c.in-PollFalls.is (simp e at c.write-in-PollFalls.ensures.writes)

pub returns-in-HeadTwice-clause-writes : goal.returns-in-HeadTwice-clause-writes
returns-in-HeadTwice-clause-writes g c =
    let e : c.ground-ground.result ≡ ground_seven c.in-HeadTwice.entry = c.ground-ground.ensures ∙ ap log_ground c.in-HeadTwice.is in
    simp c.in-HeadTwice.is (simp e at c.write-in-HeadTwice.ensures.writes)
