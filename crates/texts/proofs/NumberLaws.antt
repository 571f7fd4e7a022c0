-- What digits write. Assumes nothing.
use Rattle.std.proofs.Common.{◌≡◌, ◌⊎◌, inl, inr, ℕ, zero, suc, ◌+◌, ◌<◌, Bool, true, false, ◌&&◌, ltb, List, [], ◌∷◌, length, get_or, take, refl, ap, add-one, arith}
use Rattle.std.specs.Char.{is_ascii_digit}
use Rattle.std.specs.Str.{all_ascii_digits}
use Rattle.std.proofs.lemmas.Bool.{cases_Bool, both_ways}
use Rattle.std.proofs.lemmas.Bool.Decides.{nat_tests}
use Rattle.texts.specs.Numbers.{is_numeral}

both_more : (x y z : Bool) → (y ≡ true → z ≡ true) → (x && y) ≡ true → (x && z) ≡ true
both_more true y z f e = f e
both_more false y z f e = e

pub neither_false : (x y : Bool) → y ≡ false → (x && y) ≡ false
neither_false true y e = e
neither_false false y e = refl

one_more : (bs : List ℕ) (i : ℕ) → i < length bs → all_ascii_digits (take i bs) ≡ true → is_ascii_digit (get_or bs i 0) ≡ true → all_ascii_digits (take (suc i) bs) ≡ true
one_more [] i lt a d = absurd (omega arith)
one_more (b ∷ bs) zero lt a d = ap (λ x. x && true) d
one_more (b ∷ bs) (suc i) lt a d = both_more (is_ascii_digit b) _ _ (λ e. one_more bs i (omega arith) e d) a

pub digits_more : (bs : List ℕ) (i : ℕ) → i < length bs → all_ascii_digits (take i bs) ≡ true → is_ascii_digit (get_or bs i 0) ≡ true → all_ascii_digits (take (i + 1) bs) ≡ true
digits_more bs i lt a d = rw add-one (one_more bs i lt a d)

pub not_digits : (bs : List ℕ) (i : ℕ) → i < length bs → is_ascii_digit (get_or bs i 0) ≡ false → all_ascii_digits bs ≡ false
not_digits [] i lt d = absurd (omega arith)
not_digits (b ∷ bs) zero lt d = ap (λ x. x && all_ascii_digits bs) d
not_digits (b ∷ bs) (suc i) lt d = neither_false (is_ascii_digit b) _ (not_digits bs i (omega arith) d)

pub not_numeral : (bs : List ℕ) (i : ℕ) → i < length bs → is_ascii_digit (get_or bs i 0) ≡ false → is_numeral bs ≡ false
not_numeral bs i lt d = neither_false (ltb 0 (length bs)) _ (not_digits bs i lt d)

pub numeral : (bs : List ℕ) → 0 < length bs → all_ascii_digits bs ≡ true → is_numeral bs ≡ true
numeral bs lt d = grind (arith, nat_tests)

pub digit_at : (bs : List ℕ) (i : ℕ) → i < length bs → all_ascii_digits bs ≡ true → is_ascii_digit (get_or bs i 0) ≡ true
digit_at bs i lt d = by (cases_Bool (is_ascii_digit (get_or bs i 0)))
  where
    by : (is_ascii_digit (get_or bs i 0) ≡ true) ⊎ (is_ascii_digit (get_or bs i 0) ≡ false) → is_ascii_digit (get_or bs i 0) ≡ true
    by (inl yes') = yes'
    by (inr no') = absurd (both_ways _ (not_digits bs i lt no') d)
