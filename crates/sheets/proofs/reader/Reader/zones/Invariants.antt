-- What is read so far, and that what is left gives the rest; the bytes left fall. Assumes nothing.
use Rattle.std.proofs.Common.{ℕ, List, length}
use Rattle.sheets.specs.Layout.{stretch}
use Rattle.sheets.specs.Outlines.{SheetZone}
use Rattle.sheets.specs.Parts.{zone as zone_of}
use Rattle.sheets.specs.Standing.{InGroup}
use Rattle.sheets.proofs.ToEndLoop.{Going}
use Rattle.sheets.proofs.reader.Reader.zones.Given as goal

abbrev pub invariant-loop-left : goal.invariant-loop-left
invariant-loop-left l = (total groups : ℕ) (before : List SheetZone) → Going (InGroup total groups before) (zone_of total before) (stretch l.fn.holder) l.fn.self (stretch l.left) l.self

abbrev pub decreases-loop-left : goal.decreases-loop-left
decreases-loop-left l = length l.left.bytes.now
