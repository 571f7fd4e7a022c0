-- The steps of a number with a point. Assumes nothing.
use Rattle.std.proofs.Common.{◌≡◌, ℕ, ◌+◌, ◌*◌, ◌/◌, ◌%◌, ◌^◌, ◌<◌, ◌≤◌, min, ◌⊎◌, inl, inr, Bool, true, false, cond, eqb, ltb, List, [], ◌∷◌, length, Some, None, Ok, Err, Result, ok_or, sym, refl, ap, ◌∙◌, arith}
use Rattle.std.specs.Char.{is_ascii_digit}
use Rattle.std.specs.Str.{all_ascii_digits}
use Rattle.std.specs.Str.Parse.{digits_value}
use Rattle.std.specs.List.{onto_first}
use Rattle.std.proofs.Math.Nat.{add-mul-div_right, add-mul-mod_self_right}
use Rattle.std.proofs.lemmas.Bool.{cond-true, cond-false, cases_Bool, and_parts, and_from, le-ltb, cases_lt}
use Rattle.std.proofs.lemmas.Bool.Decides.{nat_tests}
use Rattle.std.proofs.lemmas.List.Splits.{join_with_byte-slice_split}
use Rattle.std.specs.List.{join_with_byte}
use Rattle.texts.specs.Parts.{fields}
use Rattle.texts.specs.Numbers.{is_numeral, highest_read}
use Rattle.texts.specs.Decimals.{even, in_step_range, steps_or, part_read, size_in, size_read}
use Rattle.texts.specs.declared.refusals.Defect.{Defect}
use Rattle.texts.specs.declared.refusals.Defect.TheVariants.{NotDecimal, OffSteps}
use Rattle.texts.proofs.DecimalLaws.{written_append, ten_power}
use Rattle.texts.proofs.PartLaws.{some_parts}
use Rattle.texts.proofs.NumberLaws.{neither_false}

-- what follows on steps of decimals
abbrev pub then_range : ℕ → Result ℕ Defect → Result ℕ Defect
then_range percent (Ok part) = in_step_range (256 * percent + part)
then_range percent (Err defect) = Err defect

-- digits have no point
no_point : (b : ℕ) → is_ascii_digit b ≡ true → eqb b 46 ≡ false
no_point b d = grind (arith, nat_tests)

undotted : (ds : List ℕ) → all_ascii_digits ds ≡ true → fields 46 ds ≡ ds ∷ []
undotted [] e = refl
undotted (d ∷ ds) e =
    let p = and_parts (is_ascii_digit d) (all_ascii_digits ds) e in
    cond-false _ _ _ (no_point d p.0) ∙ ap (onto_first d) (undotted ds p.1)

-- the steps of the whole and of the decimals
spread_even : (a v unit : ℕ) → 0 < unit → even (256 * (a * unit + v)) unit ≡ even (256 * v + 256 * a * unit) unit
spread_even a v unit some = let e : 256 * (a * unit + v) ≡ 256 * v + 256 * a * unit = omega arith in ap (λ n. even n unit) e

even_sum : (a v unit : ℕ) → 0 < unit → steps_or (even (256 * v + 256 * a * unit) unit) ≡ then_range a (ok_or (even (256 * v) unit) OffSteps)
even_sum a v unit some =
    ap (λ k. steps_or (cond (eqb k 0) (Some ((256 * v + 256 * a * unit) / unit)) None)) (add-mul-mod_self_right (256 * v) (256 * a) unit)
    ∙ ap (λ k. steps_or (cond (eqb (256 * v % unit) 0) (Some k) None)) (add-mul-div_right (256 * v) (256 * a) some ∙ comm)
    ∙ by (eqb (256 * v % unit) 0)
  where
    comm : 256 * v / unit + 256 * a ≡ 256 * a + 256 * v / unit
    comm = omega arith

    by : (b : Bool) → steps_or (cond b (Some (256 * a + 256 * v / unit)) None) ≡ then_range a (ok_or (cond b (Some (256 * v / unit)) None) OffSteps)
    by true = refl
    by false = refl

-- a number with a point
one_part : (ds q : List ℕ) → fields 46 ds ≡ q ∷ [] → q ≡ ds
one_part ds q e = sym (ap (join_with_byte 46) e) ∙ join_with_byte-slice_split 46 ds

no_numeral : (whole : List ℕ) (parts : List (List ℕ)) (ds : List ℕ) → fields 46 ds ≡ parts → is_numeral ds ≡ false → is_numeral whole ≡ true → size_in (whole ∷ parts) ≡ Err NotDecimal
no_numeral whole [] ds e n w = let s = some_parts (λ b. eqb b 46) ds in let f : [] ≡ s.0 ∷ s.1 = sym e ∙ s.2 in cc
no_numeral whole (q ∷ []) ds e n w = cond-false _ _ _ (neither_false (is_numeral whole) (is_numeral q) (ap is_numeral (one_part ds q e) ∙ n))
no_numeral whole (q ∷ r ∷ rs) ds e n w = refl

pub sized : (text whole ds : List ℕ) → fields 46 text ≡ whole ∷ fields 46 ds → is_numeral whole ≡ true → size_read text ≡ then_range (digits_value 10 whole) (part_read ds)
sized text whole ds e w = ap size_in e ∙ by (cases_Bool (is_numeral ds))
  where
    by : (is_numeral ds ≡ true) ⊎ (is_numeral ds ≡ false) → size_in (whole ∷ fields 46 ds) ≡ then_range (digits_value 10 whole) (part_read ds)
    by (inl yes') =
        let digits = and_parts (ltb 0 (length ds)) (all_ascii_digits ds) yes' in
        let unit = 10 ^ length ds in
        let some = ten_power (length ds) in
        let a = digits_value 10 whole in
        let v = digits_value 10 ds in
        ap (λ parts. size_in (whole ∷ parts)) (undotted ds digits.1)
        ∙ cond-true _ _ _ (and_from _ _ w yes')
        ∙ ap (λ n. steps_or (even (256 * n) unit)) (written_append whole ds)
        ∙ ap steps_or (spread_even a v unit some)
        ∙ even_sum a v unit some
        ∙ ap (then_range a) (sym (cond-true _ _ _ yes'))
    by (inr no') = no_numeral whole (fields 46 ds) ds refl no' w ∙ ap (then_range (digits_value 10 whole)) (sym (cond-false _ _ _ no'))

-- a number that is more than 64 bits hold is out of range as the highest that they hold
pub clipped_range : (n part : ℕ) → part < 256 → in_step_range (256 * min n highest_read + part) ≡ in_step_range (256 * n + part)
clipped_range n part small = by (cases_lt n (highest_read + 1))
  where
    by : (n < highest_read + 1) ⊎ (highest_read + 1 ≤ n) → in_step_range (256 * min n highest_read + part) ≡ in_step_range (256 * n + part)
    by (inl low) = let e : min n highest_read ≡ n = omega arith in ap (λ k. in_step_range (256 * k + part)) e
    by (inr high) = cond-false _ _ _ (le-ltb (256 * min n highest_read + part) (2 ^ 24) (omega arith)) ∙ sym (cond-false _ _ _ (le-ltb (256 * n + part) (2 ^ 24) (omega arith)))

-- what was found by a test
pub found : (b : Bool) (n p : ℕ) → Some p ≡ cond b (Some n) None → (b ≡ true) × (p ≡ n)
found true n p e = (refl, cc)
found false n p e = cc
