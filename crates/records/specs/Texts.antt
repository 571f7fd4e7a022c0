-- How the faults of a record read. Assumes nothing.
use Rattle.std.specs.Prelude.{ℕ, List, ◌++◌, codes, decimal}
use Rattle.faults.specs.Texts.{ground_text}
use Rattle.records.specs.Model.{most_heads, most_polls}
use Rattle.records.specs.Faults.{record_ground}
use Rattle.records.specs.declared.refusals.RecordFault.{RecordFault}
use Rattle.records.specs.declared.refusals.RecordFault.TheVariants.{HeadsOutOfRange, TooManyPolls, ReadingsDoNotFill}

-- what is wrong, after the ground
abbrev pub record_words : RecordFault → List ℕ
record_words (HeadsOutOfRange heads) = decimal heads ++ (codes " heads, where a record has 1 to " ++ decimal most_heads)
record_words (TooManyPolls polls) = decimal polls ++ (codes " polls, where a record has at most " ++ decimal most_polls)
record_words (ReadingsDoNotFill readings heads polls) = decimal readings ++ (codes " readings do not fill " ++ (decimal heads ++ (codes " heads by " ++ (decimal polls ++ codes " polls"))))

abbrev pub record_fault_text : RecordFault → List ℕ
record_fault_text fault = ground_text (record_ground fault) ++ (codes ": " ++ record_words fault)
