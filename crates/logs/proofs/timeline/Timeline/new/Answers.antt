-- Entries that passed the check keep what a timeline says of them. Assumes nothing.
use Rattle.std.proofs.Common.{◌≡◌, [], None}
use Rattle.records.specs.Limits.{numbers_fault}
use Rattle.records.proofs.ModelLaws.{no_fault}
use Rattle.logs.proofs.OrderLaws.{rises, all_placed}
use Rattle.logs.proofs.LogLaws.{kept}
use Rattle.logs.proofs.timeline.Timeline.new.Goals as goal

pub invariant_of-result : goal.invariant_of-result
invariant_of-result c =
    let s = c.in_ok-size.size in
    let es = c.args.entries.now in
    let fit : numbers_fault s.heads s.polls ≡ None = cc (c.in_ok-size.ensures.fault, c.in_ok-size.ensures.heads, c.in_ok-size.ensures.polls) in
    let ok = no_fault _ c.in_ok-check_entries.ensures in
    record {
      lawful = kept s.heads s.polls es fit ok;
      below = λ i lt. (all_placed s.heads s.polls 0 [] es ok i lt).1;
      rising = rises s.heads s.polls 0 [] es ok;
      indexed = λ m e. cc;
    }
