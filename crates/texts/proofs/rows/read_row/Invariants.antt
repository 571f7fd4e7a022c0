-- So far no fault has come, and the readings that have been read stand behind the others. Assumes nothing.
use Rattle.std.proofs.Common.{◌≡◌, ◌+◌, ◌-◌, ◌++◌, length, replicate, flat_map}
use Rattle.texts.specs.Fields.{ahead, left, defect_of}
use Rattle.texts.specs.Grids.{row_fault, row_readings, number_in}
use Rattle.texts.proofs.rows.read_row.Given as goal

abbrev pub invariant-loop-head : goal.invariant-loop-head
invariant-loop-head g l = let written = g.T.Written.written in record {
  fault : ahead l.fields (replicate (l.heads - l._head) (defect_of written)) ≡ row_fault written l.heads l.fn.line.number l.fn.line.text.now;
  readings : l.readings.items ++ flat_map (number_in written) (left l.fields) ≡ l.fn.readings.items ++ row_readings written l.fn.line.text.now;
  filled : length l.readings.items ≡ length l.fn.readings.items + l._head;
}
