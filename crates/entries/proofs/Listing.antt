-- The heads of a set as a list: which are among them, in what order, and the first from one on. Assumes nothing.
use Rattle.std.proofs.Common.{◌≡◌, ℕ, zero, suc, ◌/◌, ◌^◌, ◌<◌, ◌≤◌, Bool, true, false, cond, ◌&&◌, ◌||◌, eqb, ltb, List, [], ◌∷◌, ◌++◌, Some, None, sym, refl, ap, ◌∙◌, subst, ap₂, ⊎_elim, arith}
use lib.Bits.{bit_and}
use mathlib.Core.Bool.{or_assoc, or-false}
use Rattle.std.proofs.ByRecursion.{All-push, All-weaker}
use Rattle.std.proofs.lemmas.Bool.{cases_order, cases_lt, both_ways, eq-eqb, ne_eqb, eqb-true, le-leb, lt-leb, lt-ltb, le-ltb, or_cases, or_right, cond-true, cond-false}
use Rattle.std.proofs.lemmas.Nat.Bits.{shr_and_one}
use Rattle.std.proofs.lemmas.Bool.Decides.{nat_tests}
use Rattle.std.specs.List.{AllByRecursion}
use Rattle.formulas.specs.Formula.{among}
use Rattle.entries.specs.Heads.{head_total, has, heads_below, heads, first_from, Rising}
use Rattle.entries.proofs.Bits.{beyond}

pub among-append : (h : ℕ) (gs hs : List ℕ) → among h (gs ++ hs) ≡ (among h gs || among h hs)
among-append h [] hs = refl
among-append h (g ∷ gs) hs = ap (λ b. eqb g h || b) (among-append h gs hs) ∙ sym (or_assoc (eqb g h) (among h gs) (among h hs))

-- ---- which heads are among them
one_among : (n h : ℕ) (b : Bool) → among h (cond b (n ∷ []) []) ≡ (eqb n h && b)
one_among n h true = grind (arith, nat_tests)
one_among n h false = grind (arith, nat_tests)

one_more : (z n h : ℕ) → ((ltb h n && has z h) || (eqb n h && has z n)) ≡ (ltb h (suc n) && has z h)
one_more z n h = ⊎_elim here (⊎_elim low high) (cases_order h n)
  where
    here : h ≡ n → ((ltb h n && has z h) || (eqb n h && has z n)) ≡ (ltb h (suc n) && has z h)
    here e = rw (le-ltb h n (omega arith), lt-ltb h (suc n) (omega arith), eq-eqb n h (sym e)) (ap (has z) (sym e))

    low : h < n → ((ltb h n && has z h) || (eqb n h && has z n)) ≡ (ltb h (suc n) && has z h)
    low l = rw (lt-ltb h n l, lt-ltb h (suc n) (omega arith), ne_eqb n h (omega arith)) (or-false (has z h))

    high : n < h → ((ltb h n && has z h) || (eqb n h && has z n)) ≡ (ltb h (suc n) && has z h)
    high l = rw (le-ltb h n (omega arith), le-ltb h (suc n) (omega arith), ne_eqb n h (omega arith)) refl

among_below : (z n h : ℕ) → among h (heads_below z n) ≡ (ltb h n && has z h)
unfolding heads_below
among_below z zero h = rw (le-ltb h 0 (omega arith)) refl
among_below z (suc n) h =
    among-append h (heads_below z n) (cond (has z n) (n ∷ []) [])
    ∙ ap₂ ◌||◌ (among_below z n h) (one_among n h (has z n))
    ∙ one_more z n h

pub among_heads : (z h : ℕ) → z < 2 ^ head_total → among h (heads z) ≡ has z h
unfolding heads
among_heads z h small = among_below z head_total h ∙ ⊎_elim low high (cases_lt h head_total)
  where
    low : h < head_total → (ltb h head_total && has z h) ≡ has z h
    low l = rw (lt-ltb h head_total l) refl

    high : head_total ≤ h → (ltb h head_total && has z h) ≡ has z h
    high l = rw (le-ltb h head_total l) (sym (beyond z h small l))

-- what `contains` finds
pub bit_tells : (z h : ℕ) → z < 2 ^ head_total → eqb (bit_and (z / 2 ^ h) 1) 1 ≡ among h (heads z)
bit_tells z h small = ap (λ n. eqb n 1) (shr_and_one z h) ∙ sym (among_heads z h small)

pub none_past : (z h : ℕ) → z < 2 ^ head_total → head_total ≤ h → ltb h head_total ≡ among h (heads z)
none_past z h small far = le-ltb h head_total far ∙ sym (among_heads z h small ∙ beyond z h small far)

-- what holds of each of them holds of one
pub all_among : (P : ℕ → Type 0) (gs : List ℕ) (h : ℕ) → AllByRecursion P gs → among h gs ≡ true → P h
all_among P [] h a e = absurd (both_ways _ refl e)
all_among P (g ∷ gs) h a e = ⊎_elim (λ q. subst P (eqb-true g h q) a.0) (λ q. all_among P gs h a.1 q) (or_cases (eqb g h) (among h gs) e)

-- ---- they rise
one_below : (n : ℕ) (b : Bool) (gs : List ℕ) → AllByRecursion (λ g. g < n) gs → AllByRecursion (λ g. g < suc n) (gs ++ cond b (n ∷ []) [])
one_below n true gs a = All-push (λ g. g < suc n) gs n (All-weaker (λ g. g < n) (λ g. g < suc n) (λ g l. omega arith) gs a) (omega arith)
one_below n false [] a = tt
one_below n false (g ∷ gs) a = (omega (arith, a.0), one_below n false gs a.1)

all_below : (z n : ℕ) → AllByRecursion (λ g. g < n) (heads_below z n)
unfolding heads_below
all_below z zero = tt
all_below z (suc n) = one_below n (has z n) (heads_below z n) (all_below z n)

-- every head of a set is below the total
pub all_low : (z : ℕ) → AllByRecursion (λ h. h < head_total) (heads z)
unfolding heads
all_low z = all_below z head_total

pub low_head : (z h : ℕ) → z < 2 ^ head_total → among h (heads z) ≡ true → h < head_total
low_head z h small e = all_among (λ g. g < head_total) (heads z) h (all_low z) e

one_rising : (n : ℕ) (b : Bool) (gs : List ℕ) → AllByRecursion (λ g. g < n) gs → Rising gs → Rising (gs ++ cond b (n ∷ []) [])
one_rising n true [] a r = (tt, tt)
one_rising n false [] a r = tt
one_rising n true (g ∷ gs) a r = (All-push (λ h. g < h) gs n r.0 a.0, one_rising n true gs a.1 r.1)
one_rising n false (g ∷ gs) a r = (left gs r.0, one_rising n false gs a.1 r.1)
  where
    left : (hs : List ℕ) → AllByRecursion (λ h. g < h) hs → AllByRecursion (λ h. g < h) (hs ++ [])
    left [] q = tt
    left (h ∷ hs) q = (q.0, left hs q.1)

rising_below : (z n : ℕ) → Rising (heads_below z n)
unfolding heads_below
rising_below z zero = tt
rising_below z (suc n) = one_rising n (has z n) (heads_below z n) (all_below z n) (rising_below z n)

pub rising : (z : ℕ) → Rising (heads z)
unfolding heads
rising z = rising_below z head_total

-- ---- the first from n on
pub first_none : (n : ℕ) (gs : List ℕ) → ((h : ℕ) → among h gs ≡ true → h < n) → first_from n gs ≡ None
first_none n [] f = refl
first_none n (g ∷ gs) f =
    let low : g < n = f g (rw (eq-eqb g g refl) refl) in
    cond-false _ _ _ (lt-leb n g low) ∙ first_none n gs (λ h e. f h (or_right (eqb g h) (among h gs) e))

pub first_is : (n g : ℕ) (gs : List ℕ) → Rising gs → among g gs ≡ true → n ≤ g → ((h : ℕ) → among h gs ≡ true → n ≤ h → g ≤ h) → first_from n gs ≡ Some g
first_is n g [] r e le least = absurd (both_ways _ refl e)
first_is n g (x ∷ gs) r e le least =
    ⊎_elim
    (λ (q : x < n).
    let rest : among g gs ≡ true = ⊎_elim (λ f. absurd (omega (arith, eqb-true x g f))) (λ f. f) (or_cases (eqb x g) (among g gs) e) in
    cond-false _ _ _ (lt-leb n x q) ∙ first_is n g gs r.1 rest le (λ h f. least h (or_right (eqb x h) (among h gs) f)))
    (λ (q : n ≤ x).
    let top : g ≤ x = least x (rw (eq-eqb x x refl) refl) q in
    cond-true _ _ _ (le-leb n x q)
    ∙ ap Some (⊎_elim (λ f. eqb-true x g f) (λ f. absurd (omega (arith, all_among (λ h. x < h) gs g r.0 f))) (or_cases (eqb x g) (among g gs) e)))
    (cases_lt x n)
