-- The first head of a set is its lowest bit, and the set without that bit has the heads after it. Assumes nothing.
use Rattle.std.proofs.Common.{◌≡◌, ◌≢◌, ℕ, zero, suc, ◌-◌, ◌/◌, ◌^◌, ◌<◌, cond, eqb, [], ◌∷◌, ◌++◌, refl, sym, ap, ◌∙◌, ap₂, ⊎_elim, arith}
use lib.Bits.{bit_and, and_self}
use mir.Syntax.{w64}
use Rattle.std.specs.Int.{bit_at, trailing_zeros}
use Rattle.std.proofs.lemmas.Nat.{and_shr, and_le_l}
use Rattle.std.proofs.lemmas.Nat.Bits.{bit_at_lowest, bit_at-suc, bit_at-zero, bit_at_and, bit_at-trailing_zeros}
use Rattle.std.proofs.lemmas.Bool.{cases_eq}
use Rattle.entries.specs.Heads.{head_total, heads_below, heads}

-- ---- `n & (n - 1)` has the bits of n but the lowest
-- t is the place of n's lowest bit
abbrev IsLowest : ℕ → ℕ → Type 0
IsLowest n t = (bit_at n t ≡ 1) × ((i : ℕ) → i < t → bit_at n i ≡ 0)

half_lowest : (n t : ℕ) → IsLowest n (suc t) → IsLowest (n / 2) t
half_lowest n t is = (sym (bit_at-suc n t) ∙ is.0, λ i l. sym (bit_at-suc n i) ∙ is.1 (suc i) (omega arith))

-- the bits from place 1 on, where m is half of n - 1
upper : (n m i : ℕ) → (n - 1) / 2 ≡ m → bit_at (bit_and n (n - 1)) (suc i) ≡ bit_at (bit_and (n / 2) m) i
upper n m i e = bit_at-suc _ i ∙ ap (λ k. bit_at k i) (and_shr n (n - 1) 1 ∙ ap (bit_and (n / 2)) e)

upper_even : (n t i : ℕ) → IsLowest n (suc t) → bit_at (bit_and n (n - 1)) (suc i) ≡ bit_at (bit_and (n / 2) (n / 2 - 1)) i
upper_even n t i is = upper n (n / 2 - 1) i (omega (arith, bit_at_lowest n, is.1 0 (omega arith)))

cleared : (n t : ℕ) → IsLowest n t → bit_at (bit_and n (n - 1)) t ≡ 0
cleared n zero is = bit_at_and n (n - 1) 0 ∙ omega (arith, is.0, bit_at_lowest n, bit_at_lowest (n - 1))
cleared n (suc t) is = upper_even n t t is ∙ cleared (n / 2) t (half_lowest n t is)

kept : (n t i : ℕ) → IsLowest n t → i ≢ t → bit_at (bit_and n (n - 1)) i ≡ bit_at n i
kept n zero zero is apart = absurd (apart refl)
kept n zero (suc i) is apart = upper n (n / 2) i (omega (arith, bit_at_lowest n, is.0)) ∙ ap (λ k. bit_at k i) (and_self (n / 2)) ∙ sym (bit_at-suc n i)
kept n (suc t) zero is apart = bit_at_and n (n - 1) 0 ∙ omega (arith, is.1 0 (omega arith))
kept n (suc t) (suc i) is apart = upper_even n t i is ∙ kept (n / 2) t i (half_lowest n t is) (λ e. apart (ap suc e)) ∙ sym (bit_at-suc n i)

-- ---- the heads
none_below : (z n : ℕ) → ((i : ℕ) → i < n → bit_at z i ≡ 0) → heads_below z n ≡ []
unfolding heads_below
none_below z zero none = refl
none_below z (suc n) none = ap₂ (λ gs b. gs ++ cond (eqb b 1) (n ∷ []) []) (none_below z n (λ i l. none i (omega arith))) (none n (omega arith))

module _ (z t : ℕ) (is : IsLowest z t) where
  first_below : (n : ℕ) → t < n → heads_below z n ≡ t ∷ heads_below (bit_and z (z - 1)) n
  unfolding heads_below
  first_below zero l = absurd (omega arith)
  first_below (suc n) l = ⊎_elim here (λ (d : n ≡ t → ⊥). later d (first_below n (omega arith))) (cases_eq n t)
    where
      here : n ≡ t → heads_below z (suc n) ≡ t ∷ heads_below (bit_and z (z - 1)) (suc n)
      here e =
          rw e (ap₂ (λ gs b. gs ++ cond (eqb b 1) (t ∷ []) []) (none_below z t is.1) is.0
          ∙ sym (ap₂ (λ gs b. t ∷ (gs ++ cond (eqb b 1) (t ∷ []) [])) (none_below _ t (λ i m. kept z t i is (omega arith) ∙ is.1 i m)) (cleared z t is)))

      later : (n ≡ t → ⊥) → heads_below z n ≡ t ∷ heads_below (bit_and z (z - 1)) n → heads_below z (suc n) ≡ t ∷ heads_below (bit_and z (z - 1)) (suc n)
      later d before = ap₂ (λ gs b. gs ++ cond (eqb b 1) (n ∷ []) []) before (sym (kept z t n is d))

pub no_heads : (z : ℕ) → z ≡ 0 → heads z ≡ []
unfolding heads
no_heads z e = rw e (none_below 0 head_total (λ i l. bit_at-zero i))

pub first_head : (z : ℕ) → 0 < z → z < 2 ^ head_total → heads z ≡ trailing_zeros w64 z ∷ heads (bit_and z (z - 1))
unfolding heads
first_head z some small = let t = bit_at-trailing_zeros w64 z some small in first_below z (trailing_zeros w64 z) (t.1, t.2) head_total t.0

pub fewer_fit : (z : ℕ) → z < 2 ^ head_total → bit_and z (z - 1) < 2 ^ head_total
fewer_fit z small = omega (arith, and_le_l z (z - 1))
