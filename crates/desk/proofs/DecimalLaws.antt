-- A decimal fraction with one place fewer. Assumes nothing.
use Rattle.std.proofs.Common.{◌≡◌, ℕ, zero, suc, ◌-◌, ◌*◌, ◌/◌, ◌%◌, ◌^◌, ◌<◌, Bool, true, false, List, [], ◌++◌, codes, refl, sym, ap, ◌∙◌, arith}
use Rattle.std.specs.Prelude.{if◌then◌else◌, ◌==◌}
use Rattle.std.specs.Prelude.{ℤ, decimal, unsigned_abs}
use Rattle.std.specs.Fmt.{format_spec, sign_text, styled_decimal}
use Rattle.std.specs.Int.{is_negative}
use Rattle.desk.specs.Amounts.{shortest, decimals_of, fraction_text, steps_text}
use Rattle.desk.specs.declared.amount.Fraction.{Fraction}
use Rattle.desk.specs.declared.amount.Unit.{Unit}
use Rattle.desk.specs.declared.amount.Unit.TheVariants.{Count, PercentPerMetre}

pub one_place_fewer : (digits parts places : ℕ) → 0 < places → digits % 10 ≡ 0 → digits * 256 ≡ parts * 10 ^ places → digits / 10 * 256 ≡ parts * 10 ^ (places - 1)
one_place_fewer digits parts zero some last e = absurd (omega arith)
one_place_fewer digits parts (suc k) some last e =
    let before : suc k - 1 ≡ k = omega arith in
    let power : 10 ^ suc k ≡ 10 * 10 ^ k = grind arith in
    let product : parts * 10 ^ suc k ≡ 10 * (parts * 10 ^ k) = ap (λ p. parts * p) power ∙ grind arith in
    let same : digits / 10 * 256 ≡ parts * 10 ^ k = omega arith in
    same ∙ ap (λ p. parts * 10 ^ p) (sym before)

pub nought_dropped : (digits places : ℕ) → 0 < places → digits % 10 ≡ 0 → shortest digits places ≡ shortest (digits / 10) (places - 1)
unfolding shortest
nought_dropped digits zero some last = absurd (omega arith)
nought_dropped digits (suc k) some last =
    let before : suc k - 1 ≡ k = omega arith in
    let one : shortest digits (suc k) ≡ shortest (digits / 10) k = ap (λ d. if d == 0 then shortest (digits / 10) k else record { digits = digits; places = suc k }) last in
    one ∙ ap (shortest (digits / 10)) (sym before)

pub none_left : (digits places : ℕ) → (0 < places → digits % 10 ≡ 0 → ⊥) → record { digits = digits; places = places } ≡ shortest digits places
unfolding shortest
none_left digits zero last = refl
none_left digits (suc k) last = by (digits % 10 == 0) refl
  where
    by : (b : Bool) → (digits % 10 == 0) ≡ b → record { digits = digits; places = suc k } ≡ (if b then shortest (digits / 10) k else record { digits = digits; places = suc k })
    by true e = absurd (last (omega arith) (grind (arith, e)))
    by false e = refl

some_decimals : (f : Fraction) → (f.places ≡ 0 → ⊥) → fraction_text f ≡ codes "." ++ styled_decimal (format_spec 32 0 4 f.places (2 ^ 64 - 1)) f.digits
some_decimals f some = by (f.places == 0) refl
  where
    by : (b : Bool) → (f.places == 0) ≡ b → (if b then [] else codes "." ++ styled_decimal (format_spec 32 0 4 f.places (2 ^ 64 - 1)) f.digits) ≡ codes "." ++ styled_decimal (format_spec 32 0 4 f.places (2 ^ 64 - 1)) f.digits
    by true e = absurd (some (grind (arith, e)))
    by false e = refl

-- the pieces that are written of a decimal number are its text
pub percent_text : (unit : Unit) (steps : ℤ) (size : ℕ) (sign decimals : List ℕ) (f : Fraction) → (unit ≡ Count → ⊥) → size ≡ unsigned_abs steps → sign ≡ sign_text (is_negative steps) → f ≡ decimals_of (size % 256) → (f.places ≡ 0 → ⊥)
    → decimals ≡ styled_decimal (format_spec 32 0 4 f.places (2 ^ 64 - 1)) f.digits → sign ++ (decimal (size / 256) ++ (codes "." ++ decimals)) ≡ steps_text unit steps
percent_text Count steps size sign decimals f other size_is sign_is is some decimals_are = absurd (other refl)
percent_text PercentPerMetre steps size sign decimals f other size_is sign_is is some decimals_are =
    ap (λ t. sign ++ (decimal (size / 256) ++ (codes "." ++ t))) decimals_are
    ∙ ap (λ t. sign ++ (decimal (size / 256) ++ t)) (sym (some_decimals f some))
    ∙ ap (λ t. t ++ (decimal (size / 256) ++ fraction_text f)) sign_is
    ∙ ap (λ g. sign_text (is_negative steps) ++ (decimal (size / 256) ++ fraction_text g)) is
    ∙ ap (λ k. sign_text (is_negative steps) ++ (decimal (k / 256) ++ fraction_text (decimals_of (k % 256)))) size_is
