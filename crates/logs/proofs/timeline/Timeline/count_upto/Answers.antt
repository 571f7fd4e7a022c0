-- The polls never fall, so the early entries stand first. Assumes nothing.
use Rattle.std.proofs.Common.{leb, leb-true, leb-false, arith, rules}
use Rattle.std.proofs.lemmas.List.Sorted.{IsPartitionPoint-from_clause, IsPartitionedBy-leb, IsNonDecreasingBy-from_default}
use Rattle.logs.specs.declared.entries.LogEntry.{LogEntry}
use Rattle.logs.specs.Lookup.{blank}
use Rattle.logs.proofs.timeline.Timeline.count_upto.Goals as goal

pub returns : goal.returns
returns c =
    let es = c.args.self.now.entries.now in
    let parted = IsPartitionedBy-leb (λ (e : LogEntry). e.poll) es c.args.poll (IsNonDecreasingBy-from_default (λ (e : LogEntry). e.poll) es blank c.args.self.now.rising) in
    let point = IsPartitionPoint-from_clause (λ (e : LogEntry). leb e.poll c.args.poll) es c.partition_point.result c.partition_point.ensures.partitioned parted (λ a r q k. search rules) in
    record {
      within = c.partition_point.ensures.bound;
      early = λ k lt. leb-true _ _ (point.0 k blank (omega arith) lt);
      late = λ k le lt. leb-false _ _ (point.1 k blank le lt);
    }
