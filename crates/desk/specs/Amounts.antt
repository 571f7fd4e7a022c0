-- Margins and their units as text. Assumes nothing.
--     unit_text     a unit
--     shortest      a decimal fraction with no nought at its end
--     amount_text   so many steps in a unit
use Rattle.std.specs.Prelude.{ℕ, zero, suc, ◌-◌, ◌*◌, ◌/◌, ◌%◌, ◌^◌, ◌==◌, List, [], ◌++◌, ℤ, codes, decimal, unsigned_abs, if◌then◌else◌}
use Rattle.std.specs.Fmt.{format_spec, sign_text, signed_decimal, styled_decimal}
use Rattle.std.specs.Int.{is_negative}
use Rattle.desk.specs.declared.amount.Amount.{Amount}
use Rattle.desk.specs.declared.amount.Fraction.{Fraction}
use Rattle.desk.specs.declared.amount.Unit.{Unit}
use Rattle.desk.specs.declared.amount.Unit.TheVariants.{Count, PercentPerMetre}

abbrev pub unit_text : Unit → List ℕ
unit_text Count = codes "counts"
unit_text PercentPerMetre = codes "percent per metre"

-- so many digits behind the point, without the noughts at their end
unfoldable pub shortest : ℕ → ℕ → Fraction
shortest digits zero = record { digits = digits; places = 0 }
shortest digits (suc k) = if digits % 10 == 0 then shortest (digits / 10) k else record { digits = digits; places = suc k }

-- the decimals of 256ths: eight make every one exact
abbrev pub decimals_of : ℕ → Fraction
decimals_of parts = shortest (parts * 390625) 8

-- a point and the decimals, with noughts before them up to their places; nothing where there are none
abbrev pub fraction_text : Fraction → List ℕ
fraction_text f = if f.places == 0 then [] else codes "." ++ styled_decimal (format_spec 32 0 4 f.places (2 ^ 64 - 1)) f.digits

abbrev pub amount_of : Unit → ℤ → Amount
amount_of unit steps = record { steps = steps; unit = unit }

-- counts as they stand; 256ths as a decimal number, which is exact
abbrev pub steps_text : Unit → ℤ → List ℕ
steps_text Count steps = signed_decimal steps
steps_text PercentPerMetre steps = sign_text (is_negative steps) ++ (decimal (unsigned_abs steps / 256) ++ fraction_text (decimals_of (unsigned_abs steps % 256)))

abbrev pub amount_text : Amount → List ℕ
amount_text amount = steps_text amount.unit amount.steps
