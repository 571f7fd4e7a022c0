use Rattle.std.proofs.Common.{ℕ, Option}
use Rattle.watches.specs.Readings.{reads_head, reading_fault}
use Rattle.watches.specs.declared.refusals.WatchFault.{WatchFault}
use Rattle.watches.proofs.HeadFaults.{is_first}
use Rattle.watches.proofs.source.Source.check_row.Goals as goal

pub loop-head-init : goal.loop-head-init
loop-head-init g c =
    let s = c.args.self.now in
    let fault : ℕ → Option WatchFault = λ h. reading_fault (g.S.Scale.model s.scale.now) h c.args.poll ((g.R.Record.model s.record.now).at h c.args.poll) in
    let reads = c.reads-head-items in
    is_first fault (reads_head s.rule.now) reads.result.bits reads.result.few reads.ensures _ c.into_iter-head-iterator.ensures.into_iter_gives
