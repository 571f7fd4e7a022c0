-- The steps of 1/256 that a decimal number writes, and the float of them. Assumes nothing.
use Rattle.std.specs.Prelude.{◌≡◌, ℕ, T, ◌*◌, ◌/◌, ◌%◌, ◌^◌, cond, ◌&&◌, List, [], ◌∷◌, ◌++◌, length, ℤ, pos, Some, None, Ok, Err, Option, Result, ok_or, ◌==◌, nat_lt}
use Rattle.std.specs.Str.Parse.{digits_value, starts_with_minus}
use Rattle.std.specs.Float.{Float, binary32}
use Rattle.std.specs.Float.Ieee.{div, of_int}
use Rattle.scales.specs.Grid.{signed, on_grid, grid_whole}
use Rattle.texts.specs.Parts.{fields}
use Rattle.texts.specs.Numbers.{is_numeral, unsigned, with_ok}
use Rattle.texts.specs.declared.refusals.Defect.{Defect}
use Rattle.texts.specs.declared.refusals.Defect.TheVariants.{NotDecimal, OffSteps, OutOfRange}

-- n / unit, where it comes out even
abbrev pub even : ℕ → ℕ → Option ℕ
even n unit = cond (n % unit == 0) (Some (n / unit)) None

-- as many steps as 32-bit floats tell apart
abbrev pub in_step_range : ℕ → Result ℕ Defect
in_step_range steps = cond (nat_lt steps (2 ^ 24)) (Ok steps) (Err OutOfRange)

-- so many steps, unless they came out uneven
abbrev pub steps_or : Option ℕ → Result ℕ Defect
steps_or None = Err OffSteps
steps_or (Some steps) = in_step_range steps

-- the steps of decimals alone
abbrev pub part_read : List ℕ → Result ℕ Defect
part_read decimals = cond (is_numeral decimals) (ok_or (even (256 * digits_value 10 decimals) (10 ^ length decimals)) OffSteps) (Err NotDecimal)

-- digits, or digits, a point (46) and decimals: the steps are 256 times the number
abbrev pub size_in : List (List ℕ) → Result ℕ Defect
size_in (whole ∷ []) = cond (is_numeral whole) (in_step_range (256 * digits_value 10 whole)) (Err NotDecimal)
size_in (whole ∷ decimals ∷ []) =
    cond (is_numeral whole && is_numeral decimals) (steps_or (even (256 * digits_value 10 (whole ++ decimals)) (10 ^ length decimals))) (Err NotDecimal)
size_in _ = Err NotDecimal

-- the steps of the number, and its sign apart
abbrev pub size_read : List ℕ → Result ℕ Defect
size_read text = size_in (fields 46 text)

-- the steps, with their sign
abbrev pub steps_read : List ℕ → Result ℤ Defect
steps_read text = with_ok (signed (starts_with_minus text)) (size_read (unsigned text))

-- the float of so many steps: they, divided by 256
abbrev pub percent_of : ℤ → Float
percent_of steps = div binary32 (of_int binary32 steps) (of_int binary32 (pos 256))

-- the float of the steps that the text writes
abbrev pub percent_read : List ℕ → Result Float Defect
percent_read text = with_ok percent_of (steps_read text)

-- 256 times the reading is just the number of steps that the text writes
abbrev pub IsExact : List ℕ → Float → Type 0
IsExact text reading = (steps_read text ≡ Ok (grid_whole reading)) × T (on_grid 16777215 reading)
