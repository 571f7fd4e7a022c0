-- The bits of a set of heads: each one alone, and how many are set. Assumes nothing.
use Rattle.std.proofs.Common.{◌≡◌, ℕ, zero, suc, ◌+◌, ◌*◌, ◌/◌, ◌%◌, ◌^◌, ◌<◌, ◌≤◌, max, false, cond, ◌||◌, eqb, [], ◌∷◌, length, sym, refl, ap, ◌∙◌, subst, ap₂, ⊎_elim, mod-eq_of_lt, add_comm, one-add, arith, length-append}
use lib.Bits.{bit_or}
use lib.Count.{ones, ones_cat}
use Rattle.std.proofs.lemmas.Nat.{mod-pow-add, mod_below, pow_pos}
use Rattle.std.proofs.lemmas.Nat.Bits.{bit_at_above, bit_at_or, bit_at-lt, bit_at-pow_same, bit_at-pow_other}
use Rattle.std.proofs.lemmas.Bool.{cases_eq, eq-eqb, ne_eqb}
use Rattle.std.proofs.lemmas.Bool.Decides.{nat_tests}
use Rattle.entries.specs.Heads.{head_total, has, heads_below, heads}

pub beyond : (z h : ℕ) → z < 2 ^ head_total → head_total ≤ h → has z h ≡ false
beyond z h small far = ap (λ n. eqb n 1) (bit_at_above z head_total h small far)

bit_length : (b n : ℕ) → b < 2 → ones b ≡ length (cond (eqb b 1) (n ∷ []) [])
unfolding ones
bit_length zero n h = refl
bit_length (suc zero) n h = refl
bit_length (suc (suc b)) n h = absurd (omega arith)

ones_below : (z k : ℕ) → ones (z % 2 ^ k) ≡ length (heads_below z k)
unfolding heads_below
ones_below z zero = let e : z % 2 ^ 0 ≡ 0 = omega (arith, mod_below z 1 (omega arith)) in rw e (bit_length 0 0 (omega arith))
ones_below z (suc k) =
    let split : z % 2 ^ suc k ≡ (z / 2 ^ k % 2) * 2 ^ k + z % 2 ^ k = subst (λ n. z % 2 ^ n ≡ (z / 2 ^ k % 2) * 2 ^ k + z % 2 ^ k) (one-add k) (mod-pow-add z 1 k) in
    rw split (
    ones_cat k (z / 2 ^ k % 2) (z % 2 ^ k) (mod_below z (2 ^ k) (pow_pos k))
    ∙ add_comm _ _
    ∙ ap₂ (λ a b. a + b) (ones_below z k) (bit_length (z / 2 ^ k % 2) k (bit_at-lt z k))
    ∙ sym (length-append (heads_below z k) _)
    )

pub ones_size : (z : ℕ) → z < 2 ^ head_total → ones z ≡ length (heads z)
unfolding heads
ones_size z h = let e : z % 2 ^ head_total ≡ z = mod-eq_of_lt h in rw e at (ones_below z head_total)

-- the heads of two sets
either_bit : (b c : ℕ) → b < 2 → c < 2 → eqb (max b c) 1 ≡ (eqb b 1 || eqb c 1)
either_bit b c p q = grind (arith, nat_tests)

pub joined : (y z j : ℕ) → has (bit_or y z) j ≡ (has y j || has z j)
joined y z j = ap (λ n. eqb n 1) (bit_at_or y z j) ∙ either_bit _ _ (bit_at-lt y j) (bit_at-lt z j)

-- one head alone
pub power_bit : (h j : ℕ) → has (2 ^ h) j ≡ eqb h j
power_bit h j =
    ⊎_elim
    (λ (e : j ≡ h). rw e (ap (λ n. eqb n 1) (bit_at-pow_same h) ∙ sym (eq-eqb h h refl)))
    (λ (d : j ≡ h → ⊥). ap (λ n. eqb n 1) (bit_at-pow_other h j d) ∙ sym (ne_eqb h j (λ e. d (sym e))))
    (cases_eq j h)
