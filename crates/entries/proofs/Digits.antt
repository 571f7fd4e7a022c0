-- The first head from one on, as the lowest bit of those shifted down. Assumes nothing.
use Rattle.std.proofs.Common.{◌≡◌, ℕ, ◌+◌, ◌-◌, ◌/◌, ◌%◌, ◌^◌, ◌<◌, ◌≤◌, false, eqb, ltb, None, sym, refl, ap, ◌∙◌, ⊎_elim, arith}
use lib.Count.{count_trailing_zeros}
use Rattle.std.specs.Bool.{then_some}
use Rattle.std.specs.Int.{bit_at, trailing_zeros}
use Rattle.std.proofs.lemmas.Nat.{shr-shr}
use Rattle.std.proofs.lemmas.Nat.Bits.{bit_at-zero, bit_at-trailing_zeros}
use Rattle.std.proofs.Math.Nat.{div-le_self}
use Rattle.std.proofs.lemmas.Bool.{cases_eq, cases_lt, both_ways, lt-ltb}
use mir.Syntax.{w64}
use Rattle.formulas.specs.Formula.{among}
use Rattle.entries.specs.Heads.{head_total, has, heads, first_from}
use Rattle.entries.proofs.Listing.{among_heads, low_head, rising, first_none, first_is}

none_of_zero : (h : ℕ) → then_some (ltb (trailing_zeros w64 0) 64) (h + trailing_zeros w64 0) ≡ None
unfolding count_trailing_zeros
none_of_zero h = refl

module _ (z from : ℕ) (small : z < 2 ^ head_total) where
  -- a head from `from` on, by the bits that are shifted down
  ahead : (h : ℕ) → from ≤ h → among h (heads z) ≡ eqb (bit_at (z / 2 ^ from) (h - from)) 1
  ahead h le =
      let at : from + (h - from) ≡ h = omega arith in
      among_heads z h small ∙ sym (ap (λ n. eqb (n % 2) 1) (shr-shr z from (h - from)) ∙ ap (has z) at)

  clear : (h : ℕ) → from ≤ h → bit_at (z / 2 ^ from) (h - from) ≡ 0 → among h (heads z) ≡ false
  clear h le e = ahead h le ∙ ap (λ n. eqb n 1) e

  -- the first head at or after `from`, as `trailing_zeros` finds it
  pub next_is : from < head_total → then_some (ltb (trailing_zeros w64 (z / 2 ^ from)) 64) (from + trailing_zeros w64 (z / 2 ^ from)) ≡ first_from from (heads z)
  next_is near = ⊎_elim empty found (cases_eq (z / 2 ^ from) 0)
    where
      empty : z / 2 ^ from ≡ 0 → then_some (ltb (trailing_zeros w64 (z / 2 ^ from)) 64) (from + trailing_zeros w64 (z / 2 ^ from)) ≡ first_from from (heads z)
      empty e =
          rw e (none_of_zero _ ∙ sym (first_none from (heads z) (λ h m.
          ⊎_elim (λ (q : h < from). q) (λ (q : from ≤ h). absurd (both_ways _ (clear h q (ap (λ n. bit_at n (h - from)) e ∙ bit_at-zero (h - from))) m)) (cases_lt h from))))

      found : (z / 2 ^ from ≡ 0 → ⊥) → then_some (ltb (trailing_zeros w64 (z / 2 ^ from)) 64) (from + trailing_zeros w64 (z / 2 ^ from)) ≡ first_from from (heads z)
      found d =
          let n = z / 2 ^ from in
          let t = bit_at-trailing_zeros w64 n (omega arith) (omega (arith, div-le_self z (2 ^ from))) in
          let g = from + trailing_zeros w64 n in
          let at : g - from ≡ trailing_zeros w64 n = omega arith in
          ap (λ b. then_some b g) (lt-ltb _ _ t.0)
          ∙ sym (first_is from g (heads z) (rising z)
          (ahead g (omega arith) ∙ ap (λ m. eqb (bit_at n m) 1) at ∙ ap (λ m. eqb m 1) t.1)
          (omega arith)
          (λ h m le. ⊎_elim (λ (q : h < g). absurd (both_ways _ (clear h le (t.2 (h - from) (omega arith))) m)) (λ (q : g ≤ h). q) (cases_lt h g)))

pub next_past : (z from : ℕ) → z < 2 ^ head_total → head_total ≤ from → None ≡ first_from from (heads z)
next_past z from small far = sym (first_none from (heads z) (λ h e. omega (arith, low_head z h small e)))
