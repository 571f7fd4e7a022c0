use Rattle.std.proofs.Common.{◌≡◌, ℕ, Option}
use Rattle.entries.specs.Heads.{head_total}
use Rattle.entries.specs.Iter.{heads_left}
use Rattle.watches.specs.Readings.{reads_head, reading_fault, first_fault}
use Rattle.watches.specs.declared.refusals.WatchFault.{WatchFault}
use Rattle.watches.proofs.HeadFaults.{among_these}
use Rattle.watches.proofs.source.Source.check_row.Given as goal

-- no head so far has a fault
abbrev pub invariant-loop-head : goal.invariant-loop-head
invariant-loop-head g l =
    let fault : ℕ → Option WatchFault = λ h. reading_fault (g.S.Scale.model l.self.scale.now) h l.poll ((g.R.Record.model l.self.record.now).at h l.poll) in
    first_fault (reads_head l.self.rule.now) fault head_total ≡ among_these fault (heads_left l.head-iterator)
