-- The row has the marks before entry from + i. Assumes nothing.
use Rattle.std.proofs.Common.{◌≡◌, ◌+◌, length}
use Rattle.logs.specs.Marks.{IsRow}
use Rattle.records.specs.Model.{most_heads}
use Rattle.logs.proofs.timeline.Timeline.absorb.Given as goal

abbrev pub invariant-loop-i : goal.invariant-loop-i
invariant-loop-i l = IsRow most_heads l.self.entries.now (l.from + l.i) l.row × (length l.row ≡ most_heads)
