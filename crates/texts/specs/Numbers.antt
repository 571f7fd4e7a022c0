-- The whole number that a text writes. Assumes nothing.
use Rattle.std.specs.Prelude.{ℕ, ◌+◌, ◌-◌, ◌^◌, Bool, cond, ◌&&◌, List, length, drop, ℤ, Ok, Err, Result, nat_lt}
use Rattle.std.specs.Str.{all_ascii_digits}
use Rattle.std.specs.Str.Parse.{digits_value, starts_with_minus}
use Rattle.scales.specs.Grid.{signed}
use Rattle.texts.specs.declared.refusals.Defect.{Defect}
use Rattle.texts.specs.declared.refusals.Defect.TheVariants.{NotWhole, NotNatural, OutOfRange}

-- one digit or more, and nothing else
abbrev pub is_numeral : List ℕ → Bool
is_numeral text = nat_lt 0 (length text) && all_ascii_digits text

-- the text without the minus that may begin it
abbrev pub unsigned : List ℕ → List ℕ
unsigned text = drop (cond (starts_with_minus text) 1 0) text

-- the highest number that 64 bits hold
abbrev pub highest_read : ℕ
highest_read = 2 ^ 64 - 1

-- digits that write a number below 2 ^ 32
abbrev pub natural_read : List ℕ → Result ℕ Defect
natural_read text = cond (is_numeral text) (cond (nat_lt (digits_value 10 text) (2 ^ 32)) (Ok (digits_value 10 text)) (Err OutOfRange)) (Err NotNatural)

-- n or -n, from -2 ^ 31 to 2 ^ 31 - 1
abbrev pub in_count_range : Bool → ℕ → Result ℤ Defect
in_count_range minus n = cond (nat_lt n (cond minus (2 ^ 31 + 1) (2 ^ 31))) (Ok (signed minus n)) (Err OutOfRange)

-- digits, and a minus before them or not
abbrev pub count_read : List ℕ → Result ℤ Defect
count_read text = cond (is_numeral (unsigned text)) (in_count_range (starts_with_minus text) (digits_value 10 (unsigned text))) (Err NotWhole)

-- what f makes of a number that was read
abbrev pub with_ok : {X Y : Type 0} → (X → Y) → Result X Defect → Result Y Defect
with_ok f (Ok x) = Ok (f x)
with_ok f (Err defect) = Err defect
