-- What is read so far, and that what is left gives the rest; the bytes left fall. Assumes nothing.
use Rattle.std.proofs.Common.{length}
use Rattle.sheets.specs.Layout.{stretch}
use Rattle.sheets.specs.Parts.{group as group_of}
use Rattle.sheets.specs.Standing.{InSheet}
use Rattle.sheets.proofs.ToEndLoop.{Going}
use Rattle.sheets.proofs.reader.Reader.groups.Given as goal

abbrev pub invariant-loop-left : goal.invariant-loop-left
invariant-loop-left l = Going InSheet group_of (stretch l.fn.holder) l.fn.self (stretch l.left) l.self

abbrev pub decreases-loop-left : goal.decreases-loop-left
decreases-loop-left l = length l.left.bytes.now
