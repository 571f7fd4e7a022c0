use Rattle.std.proofs.Common.{take}
use Rattle.entries.specs.Heads.{heads, SameHeads}
use Rattle.entries.proofs.heads.HeadSet.of.Given as goal

abbrev pub invariant-loop-head : goal.invariant-loop-head
invariant-loop-head l = SameHeads (heads l.set.bits) (take l.head-index l.heads)
