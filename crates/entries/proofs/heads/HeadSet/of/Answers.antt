use Rattle.std.proofs.Common.{arith}
use Rattle.entries.proofs.Adding.{listed_more}
use Rattle.entries.proofs.heads.HeadSet.of.Goals as goal

pub loop-head-preserved : goal.loop-head-preserved
loop-head-preserved c = listed_more _ _ c.args.heads.now c.loop-head.head-index (omega arith) c.loop-head.invariant c.in_ok-set.ensures
