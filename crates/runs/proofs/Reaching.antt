-- The K-th highest reaches p just where K of the numbers do, and so moves no further than they do. Assumes nothing.
use Rattle.std.proofs.Common.{◌≡◌, ℕ, ◌≤◌, List, [], ◌∷◌, map, length, ℤ, pos, ◌+ℤ◌, ◌-ℤ◌, neg_ℤ, ◌≤ℤ◌, ◌<ℤ◌, refl, arith}
use lib.Signed.{le_z, lt_z}
use Rattle.std.specs.List.{AllZip}
use Rattle.std.proofs.lemmas.List.Elements.{length_all_zip}
use Rattle.std.proofs.lemmas.Int.{ints, by_lt_z}
use Rattle.scales.specs.Model.{distance}
use Rattle.runs.specs.Highest.{at_least, above, Kth, kth}
use Rattle.runs.proofs.Tallies.{tally_mono, hit_mono}
use Rattle.runs.proofs.Kths.{kth_exists}
use Rattle.runs.proofs.Pairwise.{each_like, each_back}

-- fewer reach a higher number
pub at_least_falls : (p q : ℤ) → p ≤ℤ q → (xs : List ℤ) → at_least q xs ≤ at_least p xs
at_least_falls p q h xs = tally_mono (le_z q) (le_z p) (λ x e. grind (arith, ints)) xs

-- what reaches q exceeds all below q
pub at_least_above : (p q : ℤ) → p <ℤ q → (xs : List ℤ) → at_least q xs ≤ above p xs
at_least_above p q h xs = tally_mono (le_z q) (lt_z p) (λ x e. grind (arith, ints)) xs

-- the K-th highest is the greatest number that at least K of them reach
pub kth_greatest : (k : ℕ) (xs : List ℤ) (m : ℤ) → Kth k xs m → (k ≤ at_least m xs) × ((r : ℤ) → k ≤ at_least r xs → r ≤ℤ m)
kth_greatest k xs m h = (h.reached, λ r e. by_lt_z m r (λ l. absurd (omega (arith, h.few, at_least_above m r l xs))) (λ l. l))

-- p ≤ kth k xs exactly if k ≤ at_least p xs
pub kth_reaches : (k : ℕ) (xs : List ℤ) (p : ℤ) → 1 ≤ k → k ≤ length xs → p ≤ℤ kth k xs → k ≤ at_least p xs
kth_reaches k xs p lo hi h = omega (arith, (kth_exists k xs lo hi).reached, at_least_falls p (kth k xs) h xs)

pub reaches_kth : (k : ℕ) (xs : List ℤ) (p : ℤ) → 1 ≤ k → k ≤ length xs → k ≤ at_least p xs → p ≤ℤ kth k xs
reaches_kth k xs p lo hi h = (kth_greatest k xs (kth k xs) (kth_exists k xs lo hi)).1 p h

-- each that reaches p goes with one that reaches q
at_least_carries : (p q : ℤ) (xs ys : List ℤ) → AllZip (λ x y. p ≤ℤ x → q ≤ℤ y) xs ys → at_least p xs ≤ at_least q ys
at_least_carries p q [] [] e = omega arith
at_least_carries p q [] (y ∷ ys) e = absurd e
at_least_carries p q (x ∷ xs) [] e = absurd e
at_least_carries p q (x ∷ xs) (y ∷ ys) e =
    let f = e.0 in
    omega (arith, at_least_carries p q xs ys e.1, hit_mono (le_z p x) (le_z q y) (λ t. let l : p ≤ℤ x = omega (arith, ints) in let r = f l in grind (arith, ints)))

pub kth_carries : (k : ℕ) (p q : ℤ) (xs ys : List ℤ) → 1 ≤ k → k ≤ length xs → AllZip (λ x y. p ≤ℤ x → q ≤ℤ y) xs ys → p ≤ℤ kth k xs → q ≤ℤ kth k ys
kth_carries k p q xs ys lo hi e h =
    reaches_kth k ys q lo (omega (arith, length_all_zip (λ x y. p ≤ℤ x → q ≤ℤ y) xs ys e)) (omega (arith, kth_reaches k xs p lo hi h, at_least_carries p q xs ys e))

-- no number of xs lies more than c above that of ys
pub kth_within : (k : ℕ) (c : ℤ) (xs ys : List ℤ) → 1 ≤ k → k ≤ length xs → AllZip (λ x y. x ≤ℤ (y +ℤ c)) xs ys → kth k xs ≤ℤ (kth k ys +ℤ c)
kth_within k c xs ys lo hi e =
    let p = kth k xs in
    let h : (p -ℤ c) ≤ℤ kth k ys = kth_carries k p (p -ℤ c) xs ys lo hi (each_like (λ x y. x ≤ℤ (y +ℤ c)) (λ x y. p ≤ℤ x → (p -ℤ c) ≤ℤ y) xs ys (λ x y l r. omega (arith, ints)) e) (omega (arith, ints)) in
    omega (arith, ints)

pub kth_monotone : (k : ℕ) (xs ys : List ℤ) → 1 ≤ k → k ≤ length xs → AllZip ◌≤ℤ◌ xs ys → kth k xs ≤ℤ kth k ys
kth_monotone k xs ys lo hi e =
    let h : kth k xs ≤ℤ (kth k ys +ℤ pos 0) = kth_within k (pos 0) xs ys lo hi (each_like ◌≤ℤ◌ (λ x y. x ≤ℤ (y +ℤ pos 0)) xs ys (λ x y l. omega (arith, ints)) e) in
    omega (arith, ints)

pub kth_near : (k c : ℕ) (xs ys : List ℤ) → 1 ≤ k → k ≤ length xs → AllZip (λ x y. distance x y ≤ c) xs ys → distance (kth k xs) (kth k ys) ≤ c
kth_near k c xs ys lo hi e =
    let near : ℤ → ℤ → Type 0 = λ x y. distance x y ≤ c in
    let up = kth_within k (pos c) xs ys lo hi (each_like near (λ x y. x ≤ℤ (y +ℤ pos c)) xs ys (λ x y l. omega (arith, ints)) e) in
    let down = kth_within k (pos c) ys xs lo (omega (arith, length_all_zip near xs ys e)) (each_like (λ y x. near x y) (λ y x. y ≤ℤ (x +ℤ pos c)) ys xs (λ y x l. omega (arith, ints)) (each_back near xs ys e)) in
    omega (arith, ints)

pub kth_moves : (k : ℕ) (c : ℤ) (xs ys : List ℤ) → 1 ≤ k → k ≤ length xs → AllZip (λ x y. y ≡ x +ℤ c) xs ys → kth k ys ≡ kth k xs +ℤ c
kth_moves k c xs ys lo hi e =
    let moved : ℤ → ℤ → Type 0 = λ x y. y ≡ x +ℤ c in
    let up = kth_within k (neg_ℤ c) xs ys lo hi (each_like moved (λ x y. x ≤ℤ (y +ℤ neg_ℤ c)) xs ys (λ x y l. omega (arith, ints)) e) in
    let down = kth_within k c ys xs lo (omega (arith, length_all_zip moved xs ys e)) (each_like (λ y x. moved x y) (λ y x. y ≤ℤ (x +ℤ c)) ys xs (λ y x l. omega (arith, ints)) (each_back moved xs ys e)) in
    omega (arith, ints)

each_moved : (c : ℤ) (xs : List ℤ) → AllZip (λ x y. y ≡ x +ℤ c) xs (map (λ x. x +ℤ c) xs)
each_moved c [] = tt
each_moved c (x ∷ xs) = (refl, each_moved c xs)

pub kth_shift : (k : ℕ) (c : ℤ) (xs : List ℤ) → 1 ≤ k → k ≤ length xs → kth k (map (λ x. x +ℤ c) xs) ≡ kth k xs +ℤ c
kth_shift k c xs lo hi = kth_moves k c xs (map (λ x. x +ℤ c) xs) lo hi (each_moved c xs)
