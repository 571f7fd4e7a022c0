-- So far no fault has come, and the entries that have been read stand behind the others. Assumes nothing.
use Rattle.std.proofs.Common.{◌≡◌, ◌+◌, ◌++◌, length, map}
use Rattle.texts.specs.Parts.{lines}
use Rattle.texts.specs.Logs.{entries_fault, entries_in, entry_of}
use Rattle.texts.proofs.log_text.read_entries.Given as goal

abbrev pub decreases-loop-line : goal.decreases-loop-line
decreases-loop-line g l = length l.text.rest.now

abbrev pub invariant-loop-line : goal.invariant-loop-line
invariant-loop-line g l =
    let written = g.T.Written.written in
    let spelled = g.T.Word.spelled in
    record {
      fault : entries_fault written (l.text.read + 1) (lines l.text.rest.now) ≡ entries_fault written (l.fn.text.read + 1) (lines l.fn.text.rest.now);
      entries : map (entry_of spelled) l.entries.items ++ entries_in written (lines l.text.rest.now) ≡ map (entry_of spelled) l.fn.entries.items ++ entries_in written (lines l.fn.text.rest.now);
    }
