-- So far all are digits, and the value is what they write, or the highest. Assumes nothing.
use Rattle.std.proofs.Common.{◌≡◌, take, min, true}
use Rattle.std.specs.Str.{all_ascii_digits}
use Rattle.std.specs.Str.Parse.{digits_value}
use Rattle.texts.specs.Numbers.{highest_read}
use Rattle.texts.proofs.numbers.numeral.Given as goal

abbrev pub invariant-loop-byte : goal.invariant-loop-byte
invariant-loop-byte l = (all_ascii_digits (take l.byte-index l.text) ≡ true) × (l.value ≡ min (digits_value 10 (take l.byte-index l.text)) highest_read)
