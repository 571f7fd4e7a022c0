-- The K-th highest: it exists, it is one, and it depends only on how often each number stands in the stretch. Assumes nothing.
use Rattle.std.proofs.Common.{◌≡◌, ℕ, ◌+◌, ◌-◌, ◌<◌, ◌≤◌, Bool, true, false, cond, ltb, leb, ◌⊎◌, List, [], ◌∷◌, ◌++◌, length, get_or, ℤ, pos, Some, None, Option, sym, refl, ap, ◌∙◌, ⊎_elim, arith}
use lib.Signed.{lt_z, le_z}
use Rattle.std.proofs.lemmas.Int.{ints}
use Rattle.std.proofs.lemmas.Bool.{cases_Bool, cond-true, cond-false, both_ways, leb-true, ltb-true, le-leb, lt-ltb, and_parts, and_from}
use Rattle.std.specs.List.{find}
use Rattle.std.specs.Ordering.{int_eq}
use Rattle.std.proofs.lemmas.Bool.Decides.{Decides-int_eq}
use Rattle.runs.specs.Highest.{hit, tally, at_least, above, Kth, is_kth, highest, kth}
use Rattle.runs.specs.Order.{Descending, copies, put_in, take_out}
use Rattle.runs.proofs.Tallies.{tally-append, tally_le_length, kth_unique, kth_descending}
use Rattle.runs.proofs.Ordered.{eq_self, eq_not, tally_yes, tally_no, tally-put_in, descending_put_in, tally-take_out}

-- the two forms of the definition
pub kth_from_test : (k : ℕ) (xs : List ℤ) (m : ℤ) → is_kth k xs m ≡ true → Kth k xs m
kth_from_test k xs m e =
    let b = and_parts (leb k (at_least m xs)) (ltb (above m xs) k) e in
    record { reached = leb-true k (at_least m xs) b.0; few = ltb-true (above m xs) k b.1 }

pub test_from_kth : (k : ℕ) (xs : List ℤ) (m : ℤ) → Kth k xs m → is_kth k xs m ≡ true
test_from_kth k xs m h = and_from (leb k (at_least m xs)) (ltb (above m xs) k) (le-leb k (at_least m xs) h.reached) (lt-ltb (above m xs) k h.few)

-- what is reached is exceeded or met
sum : (a b s t : Bool) → a ≡ s → b ≡ t → hit s + hit t ≡ hit a + hit b
sum a b s t e f = cc

hit_parts : (m x : ℤ) → hit (le_z m x) ≡ hit (lt_z m x) + hit (int_eq m x)
hit_parts m x =
    ⊎_elim
    (λ e. let l : le_z m x ≡ true = grind (arith, ints) in let o : int_eq m x ≡ false = eq_not m x (λ q. absurd (omega (arith, ints))) in ap hit l ∙ sum (lt_z m x) (int_eq m x) true false e o)
    (λ e. ⊎_elim
    (λ q. let s = (Decides-int_eq m x).0 q in let l : le_z m x ≡ true = grind (arith, ints) in ap hit l ∙ sum (lt_z m x) (int_eq m x) false true e q)
    (λ q. let l : le_z m x ≡ false = ⊎_elim (λ t. absurd (both_ways (int_eq m x) q (let s : m ≡ x = omega (arith, ints) in ap (int_eq m) (sym s) ∙ eq_self m))) (λ f. f) (cases_Bool (le_z m x)) in ap hit l ∙ sum (lt_z m x) (int_eq m x) false false e q)
    (cases_Bool (int_eq m x)))
    (cases_Bool (lt_z m x))

pub at_least_is : (m : ℤ) (xs : List ℤ) → at_least m xs ≡ above m xs + copies m xs
at_least_is m [] = refl
at_least_is m (x ∷ xs) = omega (arith, at_least_is m xs, hit_parts m x)

-- the first that passes passes, and there is one if some pass
abbrev Passes : (ℤ → Bool) → List ℤ → Option ℤ → Type 0
Passes p xs None = tally p xs ≡ 0
Passes p xs (Some m) = (p m ≡ true) × (0 < tally p xs)

passes_no : (p : ℤ → Bool) (x : ℤ) (xs : List ℤ) (o : Option ℤ) → p x ≡ false → Passes p xs o → Passes p (x ∷ xs) o
passes_no p x xs None e h = tally_no p x xs e ∙ h
passes_no p x xs (Some m) e h = (h.0, omega (arith, tally_no p x xs e, h.1))

pub first_passes : (p : ℤ → Bool) (xs : List ℤ) → Passes p xs (find p xs)
first_passes p [] = refl
first_passes p (x ∷ xs) =
    ⊎_elim
    (λ e. let y : Passes p (x ∷ xs) (Some x) = (e, omega (arith, tally_yes p x xs e)) in rw (cond-true (p x) (Some x) (find p xs) e) y)
    (λ e. let y = passes_no p x xs (find p xs) e (first_passes p xs) in rw (cond-false (p x) (Some x) (find p xs) e) y)
    (cases_Bool (p x))

-- a number that stands in the stretch and passes is counted
pub passing_counted : (p : ℤ → Bool) (m : ℤ) (xs : List ℤ) → p m ≡ true → 0 < copies m xs → 0 < tally p xs
passing_counted p m xs e h =
    let some : ltb 0 (copies m xs) ≡ true = lt-ltb 0 (copies m xs) h in
    let c = tally-take_out p m xs in
    let a : cond (ltb 0 (copies m xs)) (hit (p m)) 0 ≡ 1 = cond-true (ltb 0 (copies m xs)) (hit (p m)) 0 some ∙ ap hit e in
    omega (arith, c, a)

kth-copies : (k : ℕ) (xs : List ℤ) (m : ℤ) → Kth k xs m → 0 < copies m xs
kth-copies k xs m h = omega (arith, at_least_is m xs, h.reached, h.few)

found_kth : (k : ℕ) (xs : List ℤ) (m : ℤ) (o : Option ℤ) → Kth k xs m → Passes (is_kth k xs) xs o → o ≡ Some m
found_kth k xs m None h p = absurd (omega (arith, p, passing_counted (is_kth k xs) m xs (test_from_kth k xs m h) (kth-copies k xs m h)))
found_kth k xs m (Some n) h p = ap Some (kth_unique k xs n m (kth_from_test k xs n p.0) h)

-- `highest` answers the K-th highest, and nothing else
pub highest_is : (k : ℕ) (xs : List ℤ) (m : ℤ) → Kth k xs m → highest k xs ≡ Some m
unfolding highest
highest_is k xs m h = found_kth k xs m (find (is_kth k xs) xs) h (first_passes (is_kth k xs) xs)

some_kth : (k : ℕ) (xs : List ℤ) (m : ℤ) (o : Option ℤ) → Passes (is_kth k xs) xs o → o ≡ Some m → Kth k xs m
some_kth k xs m None p e = let z : ◌≡◌ {A = ℕ} 0 1 = cc in absurd (omega arith)
some_kth k xs m (Some n) p e = let s : n ≡ m = cc in rw (← s) (kth_from_test k xs n p.0)

pub kth_from_highest : (k : ℕ) (xs : List ℤ) (m : ℤ) → highest k xs ≡ Some m → Kth k xs m
unfolding highest
kth_from_highest k xs m e = some_kth k xs m (find (is_kth k xs) xs) (first_passes (is_kth k xs) xs) e

-- two stretches in which every test passes as often have the same K-th highest
abbrev pub Alike : List ℤ → List ℤ → Type 0
Alike xs ys = (p : ℤ → Bool) → tally p xs ≡ tally p ys

pub kth_alike : (k : ℕ) (xs ys : List ℤ) (m : ℤ) → Alike xs ys → Kth k xs m → Kth k ys m
kth_alike k xs ys m a h = record { reached = omega (arith, a (le_z m), h.reached); few = omega (arith, a (lt_z m), h.few) }

alike_options : (o r : Option ℤ) → ((m : ℤ) → o ≡ Some m → r ≡ Some m) → ((m : ℤ) → r ≡ Some m → o ≡ Some m) → o ≡ r
alike_options None None f g = refl
alike_options None (Some n) f g = g n refl
alike_options (Some m) r f g = sym (f m refl)

pub highest_alike : (k : ℕ) (xs ys : List ℤ) → Alike xs ys → highest k xs ≡ highest k ys
highest_alike k xs ys a =
    alike_options (highest k xs) (highest k ys)
    (λ m e. highest_is k ys m (kth_alike k xs ys m a (kth_from_highest k xs m e)))
    (λ m e. highest_is k xs m (kth_alike k ys xs m (λ p. sym (a p)) (kth_from_highest k ys m e)))

-- the same from the numbers of copies alone
copies_cons : (z x : ℤ) (xs ys : List ℤ) → copies z (x ∷ xs) ≡ copies z ys → 0 < copies x ys → copies z xs ≡ copies z (take_out x ys)
copies_cons z x xs ys e h =
    let c = tally-take_out (int_eq z) x ys in
    let a : cond (ltb 0 (copies x ys)) (hit (int_eq z x)) 0 ≡ hit (int_eq z x) = cond-true (ltb 0 (copies x ys)) (hit (int_eq z x)) 0 (lt-ltb 0 (copies x ys) h) in
    omega (arith, c, a, e)

no_copies : (ys : List ℤ) → ((z : ℤ) → 0 ≡ copies z ys) → ys ≡ []
no_copies [] h = refl
no_copies (y ∷ ys) h = absurd (omega (arith, h y, tally_yes (int_eq y) y ys (eq_self y)))

pub alike_from_copies : (xs ys : List ℤ) → ((z : ℤ) → copies z xs ≡ copies z ys) → Alike xs ys
alike_from_copies [] ys h p = ap (tally p) (sym (no_copies ys h))
alike_from_copies (x ∷ xs) ys h p =
    let some : 0 < copies x ys = omega (arith, h x, tally_yes (int_eq x) x xs (eq_self x)) in
    let rest = alike_from_copies xs (take_out x ys) (λ z. copies_cons z x xs ys (h z) some) p in
    let c = tally-take_out p x ys in
    let a : cond (ltb 0 (copies x ys)) (hit (p x)) 0 ≡ hit (p x) = cond-true (ltb 0 (copies x ys)) (hit (p x)) 0 (lt-ltb 0 (copies x ys) some) in
    omega (arith, rest, c, a)

-- every stretch has a descending one alike
abbrev pub sorted : List ℤ → List ℤ
sorted [] = []
sorted (x ∷ xs) = put_in x (sorted xs)

pub sorted_alike : (xs : List ℤ) → Alike xs (sorted xs)
sorted_alike [] p = refl
sorted_alike (x ∷ xs) p = omega (arith, sorted_alike xs p, tally-put_in p x (sorted xs))

pub sorted_descending : (xs : List ℤ) → Descending (sorted xs)
sorted_descending [] = tt
sorted_descending (x ∷ xs) = descending_put_in x (sorted xs) (sorted_descending xs)

tally_all : (xs : List ℤ) → tally (λ _. true) xs ≡ length xs
tally_all [] = refl
tally_all (x ∷ xs) = omega (arith, tally_all xs)

pub length_alike : (xs ys : List ℤ) → Alike xs ys → length xs ≡ length ys
length_alike xs ys a = sym (tally_all xs) ∙ a (λ _. true) ∙ tally_all ys

-- there is a K-th highest for each K from 1 to the number of numbers
pub sorted_kth : (k : ℕ) (xs : List ℤ) → 0 < k → k ≤ length xs → Kth k xs (get_or (sorted xs) (k - 1) (pos 0))
sorted_kth k xs k0 kn =
    let a = sorted_alike xs in
    kth_alike k (sorted xs) xs (get_or (sorted xs) (k - 1) (pos 0)) (λ p. sym (a p))
    (kth_descending k (sorted xs) (sorted_descending xs) k0 (omega (arith, length_alike xs (sorted xs) a)))

-- and none for another
pub highest_none : (k : ℕ) (xs : List ℤ) → (k ≡ 0) ⊎ (length xs < k) → highest k xs ≡ None
highest_none k xs out = none_from (highest k xs) (λ m e. let h = kth_from_highest k xs m e in let l = tally_le_length (le_z m) xs in ⊎_elim (λ z. omega (arith, h.few)) (λ z. omega (arith, h.reached)) out)
  where
    none_from : (o : Option ℤ) → ((m : ℤ) → o ≡ Some m → ⊥) → o ≡ None
    none_from None h = refl
    none_from (Some m) h = absurd (h m refl)

-- in a descending stretch the K-th stands in the K-th place
pub highest_descending : (k : ℕ) (xs : List ℤ) → Descending xs → 0 < k → k ≤ length xs → highest k xs ≡ Some (get_or xs (k - 1) (pos 0))
highest_descending k xs d k0 kn = highest_is k xs (get_or xs (k - 1) (pos 0)) (kth_descending k xs d k0 kn)

pub kth_is : (k : ℕ) (xs : List ℤ) (m : ℤ) → Kth k xs m → kth k xs ≡ m
unfolding kth
kth_is k xs m h = rw (highest_is k xs m h) refl

pub kth_exists : (k : ℕ) (xs : List ℤ) → 1 ≤ k → k ≤ length xs → Kth k xs (kth k xs)
kth_exists k xs lo hi = let h = sorted_kth k xs lo hi in rw (kth_is k xs (get_or (sorted xs) (k - 1) (pos 0)) h) h

-- one out at the front and one in at the back: what a window keeps as it goes on by a poll
pub slides : (old new : ℤ) (mid before after : List ℤ) → Alike before (old ∷ mid) → ((p : ℤ → Bool) → hit (p old) + tally p after ≡ hit (p new) + tally p before) → Alike after (mid ++ (new ∷ []))
slides old new mid before after a c p = omega (arith, a p, c p, tally-append p mid (new ∷ []))
