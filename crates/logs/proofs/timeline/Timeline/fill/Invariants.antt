-- The rows before b are right, and the row is that of the entries before row b. Assumes nothing.
use Rattle.std.proofs.Common.{◌≡◌, ℕ, ◌+◌, ◌*◌, ◌<◌, min, length, get_or}
use Rattle.records.specs.Model.{most_heads}
use Rattle.logs.specs.Marks.{mark, IsRow}
use Rattle.logs.proofs.timeline.Timeline.fill.Given as goal

abbrev pub invariant-loop-b : goal.invariant-loop-b
invariant-loop-b l =
    ((b h : ℕ) → b < l.b → h < l.self.size.heads → get_or l.marks (b * l.self.size.heads + h) 0 ≡ mark h l.self.entries.now (b * 256))
    × IsRow most_heads l.self.entries.now (min (l.b * 256) (length l.self.entries.now)) l.row
    × (length l.row ≡ most_heads)
