-- What refuses a line. Assumes nothing.
use Rattle.std.specs.Prelude.{ℕ, ◌+◌, ◌-◌, List, [], ◌∷◌, length, Some, None, Err, Option, Result}
use Rattle.std.specs.Option.{option_or, option_map}
use Rattle.std.specs.Result.{result_err}
use Rattle.texts.specs.Parts.{fields}
use Rattle.texts.specs.declared.fields.Fields.{Fields}
use Rattle.texts.specs.declared.refusals.Defect.{Defect}
use Rattle.texts.specs.declared.refusals.Defect.TheVariants.{Missing, TooFew, TooMany}
use Rattle.texts.specs.declared.refusals.TextFault.{TextFault}

-- a defect at a place
abbrev pub at : ℕ → ℕ → Defect → TextFault
at line column defect = record { line = line; column = column; defect = defect }

-- a number is missing where nothing stands
abbrev pub given : {X : Type 0} → (List ℕ → Result X Defect) → List ℕ → Result X Defect
given written [] = Err Missing
given written (byte ∷ bytes) = written (byte ∷ bytes)

-- what is wrong with a field that is to be such a number
abbrev pub defect_of : {X : Type 0} → (List ℕ → Result X Defect) → List ℕ → Option Defect
defect_of written field = result_err (given written field)

-- The first fault of the fields of a line, from a column on, where `wanted` fields are to stand in the line and these tests
-- are still to come: a field's own defect where it begins, a field too many where it begins, or the line's end where one
-- more is to stand.
abbrev pub fields_fault : ℕ → ℕ → ℕ → List (List ℕ → Option Defect) → List (List ℕ) → Option TextFault
fields_fault line wanted column [] [] = None
fields_fault line wanted column [] (field ∷ rest) = Some (at line column (TooMany wanted))
fields_fault line wanted column (test ∷ tests) [] = Some (at line (column - 1) (TooFew wanted))
fields_fault line wanted column (test ∷ tests) (field ∷ rest) =
    option_or (option_map (at line column) (test field)) (fields_fault line wanted (column + length field + 1) tests rest)

-- the fields of a line that are still to be read
abbrev pub fields_in : ℕ → Option (List ℕ) → List (List ℕ)
fields_in mark None = []
fields_in mark (Some text) = fields mark text

abbrev pub left : Fields → List (List ℕ)
left f = fields_in f.mark (option_map (λ text. text.now) f.rest)

-- the first fault that is still to come
abbrev pub ahead : Fields → List (List ℕ → Option Defect) → Option TextFault
ahead f tests = fields_fault f.line f.wanted f.column tests (left f)
