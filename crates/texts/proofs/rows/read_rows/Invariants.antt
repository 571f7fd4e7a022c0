-- So far no fault has come, and the readings that have been read stand behind the others. Assumes nothing.
use Rattle.std.proofs.Common.{◌≡◌, ◌+◌, ◌*◌, ◌≤◌, ◌++◌, length}
use Rattle.records.specs.Model.{most_polls}
use Rattle.texts.specs.Parts.{lines}
use Rattle.texts.specs.Grids.{rows_fault, readings_in}
use Rattle.texts.proofs.rows.read_rows.Given as goal

abbrev pub decreases-loop-line : goal.decreases-loop-line
decreases-loop-line g l = length l.lines.rest.now

abbrev pub invariant-loop-line : goal.invariant-loop-line
invariant-loop-line g l = let written = g.T.Written.written in record {
  number : l.lines.read ≡ l.polls;
  few : l.polls ≤ most_polls;
  fault : rows_fault written l.heads (l.polls + 1) (lines l.lines.rest.now) ≡ rows_fault written l.heads 1 (lines l.text);
  readings : l.readings.items ++ readings_in written (lines l.lines.rest.now) ≡ l.fn.readings.items ++ readings_in written (lines l.text);
  polls : l.polls + length (lines l.lines.rest.now) ≡ length (lines l.text);
  filled : length l.readings.items ≡ length l.fn.readings.items + l.heads * l.polls;
}
