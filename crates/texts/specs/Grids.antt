-- What a grid's text spells, and what refuses it. Assumes nothing.
use Rattle.std.specs.Prelude.{◌≡◌, ℕ, ◌+◌, ◌<◌, ◌≤◌, min, cond, List, [], ◌∷◌, length, map, replicate, flat_map, Some, None, Ok, Err, Option, Result, nat_lt, option_to_list}
use Rattle.std.specs.Option.{option_or}
use Rattle.std.specs.Result.{result_ok}
use Rattle.records.specs.Model.{most_heads, most_polls}
use Rattle.texts.specs.Parts.{fields}
use Rattle.texts.specs.Fields.{at, given, defect_of, fields_fault}
use Rattle.texts.specs.declared.refusals.Defect.{Defect}
use Rattle.texts.specs.declared.refusals.Defect.TheVariants.{EmptyFile, TooManyLines}
use Rattle.texts.specs.declared.refusals.TextFault.{TextFault}
use Rattle.texts.specs.declared.refusals.ReadError.{ReadError}
use Rattle.texts.specs.declared.refusals.ReadError.TheVariants.{Text, Memory}

-- what is read has no fault, what is refused has just this one, and memory may run out on the way
abbrev pub FaultIs : {X : Type 0} → Option TextFault → Result X ReadError → Type 0
FaultIs fault (Ok x) = fault ≡ None
FaultIs fault (Err (Text found)) = fault ≡ Some found
FaultIs fault (Err Memory) = Unit {0}

module _ {T : Type 0} (written : List ℕ → Result T Defect) where
  -- a line of a grid is a reading for each head, parted by commas (44)
  abbrev pub row_fault : ℕ → ℕ → List ℕ → Option TextFault
  row_fault heads number line = fields_fault number heads 1 (replicate heads (defect_of written)) (fields 44 line)

  -- it is a line for each poll, of which a record has only so many
  abbrev pub line_fault : ℕ → ℕ → List ℕ → Option TextFault
  line_fault heads number line = cond (nat_lt most_polls number) (Some (at number 1 TooManyLines)) (row_fault heads number line)

  -- the first fault of the lines, from a number on
  abbrev pub rows_fault : ℕ → ℕ → List (List ℕ) → Option TextFault
  rows_fault heads number [] = None
  rows_fault heads number (line ∷ rest) = option_or (line_fault heads number line) (rows_fault heads (number + 1) rest)

  -- the number that a field writes
  abbrev pub number_in : List ℕ → List T
  number_in field = option_to_list (result_ok (given written field))

  -- the readings of a line
  abbrev pub row_readings : List ℕ → List T
  row_readings line = flat_map number_in (fields 44 line)

  -- the readings of all lines, one line after another
  abbrev pub readings_in : List (List ℕ) → List T
  readings_in lines = flat_map row_readings lines

-- how many heads a line has readings for, but no more than a record may have
abbrev pub fields_beside : List ℕ → ℕ
fields_beside line = min (length (fields 44 line)) most_heads

-- the heads are those of the first line
abbrev pub heads_in : List (List ℕ) → ℕ
heads_in [] = 0
heads_in (first ∷ rest) = fields_beside first

-- an empty file, or the first fault of its lines
abbrev pub grid_lines_fault : {T : Type 0} → (List ℕ → Result T Defect) → List (List ℕ) → Option TextFault
grid_lines_fault written [] = Some (at 1 1 EmptyFile)
grid_lines_fault written (first ∷ rest) = rows_fault written (heads_in (first ∷ rest)) 1 (first ∷ rest)

module _ {T : Type 0} (written : List ℕ → Result T Defect) where
  -- the fields of the line write just these readings, one for each head
  abbrev pub IsRow : ℕ → List ℕ → List T → Type 0
  IsRow heads line row = (map (given written) (fields 44 line) ≡ map Ok row) × (length row ≡ heads)

  -- each line writes its row
  abbrev pub AreRows : ℕ → List (List ℕ) → List (List T) → Type 0
  AreRows heads [] [] = Unit {0}
  AreRows heads (line ∷ lines) (row ∷ rows) = IsRow heads line row × AreRows heads lines rows
  AreRows heads _ _ = ⊥

  -- the lines are a grid: a row of readings for each poll, as many as a record may have
  pub record IsGrid (lines : List (List ℕ)) (heads polls : ℕ) (readings : List T) : Type 0 where
    pub rows : List (List T)
    pub each : AreRows heads lines rows
    pub polls_are : polls ≡ length rows
    pub readings_are : readings ≡ flat_map (λ row. row) rows
    pub some_poll : 0 < polls
    pub few_polls : polls ≤ most_polls
    pub few_heads : heads ≤ most_heads

-- no grid has these lines
abbrev pub IsNoGrid : {T : Type 0} → (List ℕ → Result T Defect) → List (List ℕ) → Type 0
IsNoGrid {T} written lines = (heads polls : ℕ) (readings : List T) → IsGrid written lines heads polls readings → ⊥

-- refused for the text itself
abbrev pub IsRefused : {X : Type 0} → Result X ReadError → Type 0
IsRefused (Err (Text fault)) = Unit {0}
IsRefused _ = ⊥
