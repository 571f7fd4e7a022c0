use Rattle.std.proofs.Common.{◌≡◌, drop, max}
use Rattle.desk.specs.Frames.{fall_over, rise_over}
use Rattle.desk.proofs.plot.frame_of.Given as goal

abbrev pub invariant-loop-column : goal.invariant-loop-column
invariant-loop-column l = (max l.above (rise_over (drop l.column-index l.fn.columns)) ≡ rise_over l.fn.columns) × (max l.below (fall_over (drop l.column-index l.fn.columns)) ≡ fall_over l.fn.columns)
