-- Laws of the counts, and the K-th highest of a stretch that lies highest first. Assumes nothing.
use Rattle.std.proofs.Common.{◌≡◌, ℕ, zero, suc, ◌+◌, ◌-◌, ◌<◌, ◌≤◌, Bool, true, false, List, [], ◌∷◌, ◌++◌, length, get_or, ℤ, pos, ◌≤ℤ◌, refl, ⊎_elim, arith}
use lib.Signed.{lt_z, le_z}
use Rattle.std.proofs.lemmas.Int.{ints}
use Rattle.std.proofs.lemmas.Bool.{cases_Bool, both_ways}
use Rattle.std.specs.List.{AllByRecursion}
use Rattle.runs.specs.Highest.{hit, tally, Kth}
use Rattle.runs.specs.Order.{Descending}

pub hit_mono : (a b : Bool) → (a ≡ true → b ≡ true) → hit a ≤ hit b
hit_mono true b h = rw (h refl) (omega arith)
hit_mono false b h = omega arith

pub hit_le_one : (b : Bool) → hit b ≤ 1
hit_le_one true = omega arith
hit_le_one false = omega arith

pub tally-append : (p : ℤ → Bool) (xs ys : List ℤ) → tally p (xs ++ ys) ≡ tally p xs + tally p ys
tally-append p [] ys = omega arith
tally-append p (x ∷ xs) ys = omega (arith, tally-append p xs ys)

-- a weaker test passes as often at least
pub tally_mono : (p q : ℤ → Bool) → ((x : ℤ) → p x ≡ true → q x ≡ true) → (xs : List ℤ) → tally p xs ≤ tally q xs
tally_mono p q h [] = omega arith
tally_mono p q h (x ∷ xs) =
    let rest = tally_mono p q h xs in
    let here : hit (p x) ≤ hit (q x) = hit_mono (p x) (q x) (h x) in
    omega arith

pub tally_le_length : (p : ℤ → Bool) (xs : List ℤ) → tally p xs ≤ length xs
tally_le_length p [] = omega arith
tally_le_length p (x ∷ xs) =
    let rest = tally_le_length p xs in
    let here = hit_le_one (p x) in
    omega arith

-- at most one whole number is the K-th highest
pub kth_not_below : (k : ℕ) (xs : List ℤ) (m n : ℤ) → Kth k xs m → Kth k xs n → lt_z m n ≡ false
kth_not_below k xs m n a b =
    ⊎_elim
    (λ e. absurd (omega (arith, a.few, b.reached, tally_mono (le_z n) (lt_z m) (λ x h. grind (arith, ints)) xs)))
    (λ e. e)
    (cases_Bool (lt_z m n))

pub kth_unique : (k : ℕ) (xs : List ℤ) (m n : ℤ) → Kth k xs m → Kth k xs n → m ≡ n
kth_unique k xs m n a b =
    let l = kth_not_below k xs m n a b in
    let r = kth_not_below k xs n m b a in
    omega (arith, ints)

-- a test that every higher number passes too
abbrev pub Upward : (ℤ → Bool) → Type 0
Upward p = (x y : ℤ) → x ≤ℤ y → p x ≡ true → p y ≡ true

all-get_or-le : (x : ℤ) (xs : List ℤ) (i : ℕ) → i < length xs → AllByRecursion (λ y. y ≤ℤ x) xs → get_or xs i (pos 0) ≤ℤ x
all-get_or-le x [] i l a = absurd (omega arith)
all-get_or-le x (y ∷ xs) zero l a = a.0
all-get_or-le x (y ∷ xs) (suc i) l a = all-get_or-le x xs i (omega arith) a.1

pub tally_none : (p : ℤ → Bool) → Upward p → (x : ℤ) (xs : List ℤ) → p x ≡ false → AllByRecursion (λ y. y ≤ℤ x) xs → tally p xs ≡ 0
tally_none p up x [] e a = refl
tally_none p up x (y ∷ xs) e a =
    let rest = tally_none p up x xs e a.1 in
    ⊎_elim (λ t. absurd (both_ways (p x) e (up y x a.0 t))) (λ f. rw f (omega arith)) (cases_Bool (p y))

-- in a descending stretch those that pass stand in front
pub front_yes : (p : ℤ → Bool) → Upward p → (xs : List ℤ) (i : ℕ) → Descending xs → i < length xs → p (get_or xs i (pos 0)) ≡ true → i < tally p xs
front_yes p up [] i d l e = absurd (omega arith)
front_yes p up (x ∷ xs) zero d l e = rw e (omega arith)
front_yes p up (x ∷ xs) (suc i) d l e =
    let rest = front_yes p up xs i d.1 (omega arith) e in
    let here : p x ≡ true = up (get_or xs i (pos 0)) x (all-get_or-le x xs i (omega arith) d.0) e in
    rw here (omega arith)

pub front_no : (p : ℤ → Bool) → Upward p → (xs : List ℤ) (i : ℕ) → Descending xs → i < length xs → p (get_or xs i (pos 0)) ≡ false → tally p xs ≤ i
front_no p up [] i d l e = absurd (omega arith)
front_no p up (x ∷ xs) zero d l e = rw (e, tally_none p up x xs e d.0) (omega arith)
front_no p up (x ∷ xs) (suc i) d l e =
    let rest = front_no p up xs i d.1 (omega arith) e in
    let here = hit_le_one (p x) in
    omega arith

pub up_above : (m : ℤ) → Upward (lt_z m)
up_above m x y l e = grind (arith, ints)

pub up_at_least : (m : ℤ) → Upward (le_z m)
up_at_least m x y l e = grind (arith, ints)

-- the order statistic: in a descending stretch the K-th stands in the K-th place
pub kth_descending : (k : ℕ) (xs : List ℤ) → Descending xs → 0 < k → k ≤ length xs → Kth k xs (get_or xs (k - 1) (pos 0))
kth_descending k xs d k0 kn =
    let m = get_or xs (k - 1) (pos 0) in
    let r = front_yes (le_z m) (up_at_least m) xs (k - 1) d (omega arith) (grind (arith, ints)) in
    let f = front_no (lt_z m) (up_above m) xs (k - 1) d (omega arith) (grind (arith, ints)) in
    record { reached = omega arith; few = omega arith }
