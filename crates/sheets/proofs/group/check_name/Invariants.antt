-- The characters passed have no fault: what is left gives the answer. Assumes nothing.
use Rattle.std.proofs.Common.{◌≡◌, drop}
use Rattle.sheets.specs.Parts.{name_bytes}
use Rattle.sheets.proofs.group.check_name.Given as goal

abbrev pub invariant-loop-byte : goal.invariant-loop-byte
invariant-loop-byte l = name_bytes l.at l.name ≡ name_bytes l.at (drop l.byte-index l.name)
