-- What a log's text spells, and what refuses it. Assumes nothing.
use Rattle.std.specs.Prelude.{ℕ, ◌+◌, cond, List, [], ◌∷◌, codes, drop, flat_map, Some, None, Ok, Option, Result, nat_eq}
use Rattle.std.specs.Cmp.Lexicographic.{pointwise}
use Rattle.std.specs.Option.{option_or}
use Rattle.logs.specs.declared.entries.LogEntry.{LogEntry}
use Rattle.texts.specs.Parts.{fields}
use Rattle.texts.specs.Numbers.{natural_read}
use Rattle.texts.specs.Fields.{at, given, defect_of, fields_fault}
use Rattle.texts.specs.declared.refusals.Defect.{Defect}
use Rattle.texts.specs.declared.refusals.Defect.TheVariants.{EmptyFile, NotLog}
use Rattle.texts.specs.declared.refusals.TextFault.{TextFault}

-- two numbers from 0 on and a reading, where all three are there
abbrev pub three : {T : Type 0} → Result ℕ Defect → Result ℕ Defect → Result T Defect → List (ℕ × ℕ × T)
three (Ok a) (Ok b) (Ok c) = (a, b, c) ∷ []
three _ _ _ = []

-- those that three fields write
abbrev pub three_in : {T : Type 0} → (List ℕ → Result T Defect) → List (List ℕ) → List (ℕ × ℕ × T)
three_in written (a ∷ b ∷ c ∷ []) = three (given natural_read a) (given natural_read b) (given written c)
three_in written _ = []

-- the first word of a log
abbrev pub log_test : List ℕ → Option Defect
log_test field = cond (pointwise nat_eq field (codes "log")) None (Some NotLog)

-- an entry as poll, head and the reading that its word spells
abbrev pub entry_of : {T : Type 0} → (ℕ → T) → LogEntry → ℕ × ℕ × T
entry_of spelled e = (e.poll, e.head, spelled e.word)

module _ {T : Type 0} (written : List ℕ → Result T Defect) where
  -- the first line: the word log, heads, polls and the standing reading, parted by spaces (32)
  abbrev pub head_fault : List ℕ → Option TextFault
  head_fault line = fields_fault 1 4 1 (log_test ∷ defect_of natural_read ∷ defect_of natural_read ∷ defect_of written ∷ []) (fields 32 line)

  -- what it says of heads, polls and the standing reading
  abbrev pub head_in : List ℕ → List (ℕ × ℕ × T)
  head_in line = three_in written (drop 1 (fields 32 line))

  -- an entry: poll, head and reading, parted by commas (44)
  abbrev pub entry_fault : ℕ → List ℕ → Option TextFault
  entry_fault number line = fields_fault number 3 1 (defect_of natural_read ∷ defect_of natural_read ∷ defect_of written ∷ []) (fields 44 line)

  -- what it says
  abbrev pub entry_in : List ℕ → List (ℕ × ℕ × T)
  entry_in line = three_in written (fields 44 line)

  -- the first fault of the entries, from a line's number on
  abbrev pub entries_fault : ℕ → List (List ℕ) → Option TextFault
  entries_fault number [] = None
  entries_fault number (line ∷ rest) = option_or (entry_fault number line) (entries_fault (number + 1) rest)

  -- what the entries say, one after another
  abbrev pub entries_in : List (List ℕ) → List (ℕ × ℕ × T)
  entries_in lines = flat_map entry_in lines

  -- an empty file, the first line's fault, or the first fault of the entries behind it
  abbrev pub log_lines_fault : List (List ℕ) → Option TextFault
  log_lines_fault [] = Some (at 1 1 EmptyFile)
  log_lines_fault (first ∷ rest) = option_or (head_fault first) (entries_fault 2 rest)
