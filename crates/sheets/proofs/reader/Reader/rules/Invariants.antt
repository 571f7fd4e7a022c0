-- What is read so far, and that what is left gives the rest; the bytes left fall. Assumes nothing.
use Rattle.std.proofs.Common.{ℕ, List, length}
use Rattle.sheets.specs.Layout.{stretch}
use Rattle.sheets.specs.Outlines.{SheetZone}
use Rattle.sheets.specs.Parts.{rule as rule_of}
use Rattle.sheets.specs.Standing.{InZone}
use Rattle.sheets.proofs.ToEndLoop.{Going}
use Rattle.sheets.proofs.reader.Reader.rules.Given as goal

abbrev pub invariant-loop-left : goal.invariant-loop-left
invariant-loop-left l = (total groups : ℕ) (before : List SheetZone) → Going (InZone total groups before l.zone) (rule_of before) (stretch l.fn.holder) l.fn.self (stretch l.left) l.self

abbrev pub decreases-loop-left : goal.decreases-loop-left
decreases-loop-left l = length l.left.bytes.now
