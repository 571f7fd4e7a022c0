-- Laws of putting in and taking out, at stretches of whole numbers. Assumes nothing.
use Rattle.std.proofs.Common.{◌≡◌, suc, ◌+◌, ◌<◌, Bool, true, false, cond, ltb, List, [], ◌∷◌, ℤ, Some, slice_get, ◌≤ℤ◌, sym, refl, ap, ◌∙◌, ⊎_elim, arith}
use lib.Signed.{lt_z}
use Rattle.std.proofs.lemmas.Int.{ints}
use Rattle.std.proofs.lemmas.Bool.{cases_Bool, cond-true, cond-false, lt-ltb, le-ltb}
use Rattle.std.specs.List.{AllByRecursion, insert, remove}
use Rattle.std.specs.Ordering.{int_eq}
use Rattle.std.proofs.lemmas.Option.{none-some, same_Some}
use Rattle.std.proofs.lemmas.Bool.Decides.{Decides-int_eq}
use Rattle.std.proofs.ByRecursion.{All-weaker}
use Rattle.runs.specs.Highest.{hit, tally, above}
use Rattle.runs.specs.Order.{Descending, copies, put_in, take_out, Added, Taken}
use Rattle.runs.proofs.Tallies.{tally_none, up_above}

pub eq_self : (a : ℤ) → int_eq a a ≡ true
eq_self a = (Decides-int_eq a a).1 refl

pub eq_not : (a b : ℤ) → (a ≡ b → ⊥) → int_eq a b ≡ false
eq_not a b h = ⊎_elim (λ e. absurd (h ((Decides-int_eq a b).0 e))) (λ e. e) (cases_Bool (int_eq a b))

pub tally_yes : (p : ℤ → Bool) (x : ℤ) (xs : List ℤ) → p x ≡ true → tally p (x ∷ xs) ≡ suc (tally p xs)
tally_yes p x xs e = rw e (omega arith)

pub tally_no : (p : ℤ → Bool) (x : ℤ) (xs : List ℤ) → p x ≡ false → tally p (x ∷ xs) ≡ tally p xs
tally_no p x xs e = rw e (omega arith)

-- putting in
pub tally-put_in : (p : ℤ → Bool) (z : ℤ) (xs : List ℤ) → tally p (put_in z xs) ≡ hit (p z) + tally p xs
tally-put_in p z [] = refl
tally-put_in p z (x ∷ xs) =
    ⊎_elim
    (λ e. rw e (omega (arith, tally-put_in p z xs)))
    (λ e. rw e refl)
    (cases_Bool (lt_z z x))

all-put_in : (P : ℤ → Type 0) (z : ℤ) (xs : List ℤ) → P z → AllByRecursion P xs → AllByRecursion P (put_in z xs)
all-put_in P z [] h a = (h, tt)
all-put_in P z (x ∷ xs) h a =
    ⊎_elim
    (λ e. rw e (a.0, all-put_in P z xs h a.1))
    (λ e. rw e (h, a))
    (cases_Bool (lt_z z x))

pub descending_put_in : (z : ℤ) (xs : List ℤ) → Descending xs → Descending (put_in z xs)
descending_put_in z [] d = (tt, tt)
descending_put_in z (x ∷ xs) d =
    ⊎_elim
    (λ e. rw e (all-put_in (λ y. y ≤ℤ x) z xs (omega (arith, ints)) d.0, descending_put_in z xs d.1))
    (λ e. rw e (let le : x ≤ℤ z = omega (arith, ints) in (le, All-weaker (λ y. y ≤ℤ x) (λ y. y ≤ℤ z) (λ y h. omega (arith, ints)) xs d.0), d))
    (cases_Bool (lt_z z x))

-- the place is the number of those above
pub put_in_is : (z : ℤ) (xs : List ℤ) → Descending xs → put_in z xs ≡ insert xs (above z xs) z
put_in_is z [] d = refl
put_in_is z (x ∷ xs) d =
    ⊎_elim
    (λ e. cond-true (lt_z z x) (x ∷ put_in z xs) (z ∷ x ∷ xs) e ∙ ap (λ l. x ∷ l) (put_in_is z xs d.1) ∙ ap (λ n. insert (x ∷ xs) n z) (sym (tally_yes (lt_z z) x xs e)))
    (λ e. cond-false (lt_z z x) (x ∷ put_in z xs) (z ∷ x ∷ xs) e ∙ ap (λ n. insert (x ∷ xs) n z) (sym (tally_no (lt_z z) x xs e ∙ tally_none (lt_z z) (up_above z) x xs e d.0)))
    (cases_Bool (lt_z z x))

pub added : (z : ℤ) (before after : List ℤ) → Descending before → after ≡ insert before (above z before) z → Added z before after
added z before after d e =
    let is : after ≡ put_in z before = e ∙ sym (put_in_is z before d) in
    record { is = is; ordered = rw is (descending_put_in z before d); counts = λ p. rw is (tally-put_in p z before) }

-- taking out
pub tally-take_out : (p : ℤ → Bool) (z : ℤ) (xs : List ℤ) → tally p xs ≡ cond (ltb 0 (copies z xs)) (hit (p z)) 0 + tally p (take_out z xs)
tally-take_out p z [] = refl
tally-take_out p z (x ∷ xs) =
    ⊎_elim
    (λ e.
    let some : ltb 0 (copies z (x ∷ xs)) ≡ true = lt-ltb 0 (copies z (x ∷ xs)) (omega (arith, tally_yes (int_eq z) x xs e)) in
    let out : take_out z (x ∷ xs) ≡ xs = cond-true (int_eq z x) xs (x ∷ take_out z xs) e in
    let first = cond-true (ltb 0 (copies z (x ∷ xs))) (hit (p z)) 0 some in
    ap (λ n. hit (p n) + tally p xs) (sym ((Decides-int_eq z x).0 e)) ∙ ap (λ n. n + tally p xs) (sym first) ∙ ap (λ l. cond (ltb 0 (copies z (x ∷ xs))) (hit (p z)) 0 + tally p l) (sym out))
    (λ e.
    let out : take_out z (x ∷ xs) ≡ x ∷ take_out z xs = cond-false (int_eq z x) xs (x ∷ take_out z xs) e in
    let same : cond (ltb 0 (copies z (x ∷ xs))) (hit (p z)) 0 ≡ cond (ltb 0 (copies z xs)) (hit (p z)) 0 = ap (λ n. cond (ltb 0 n) (hit (p z)) 0) (tally_no (int_eq z) x xs e) in
    omega (arith, tally-take_out p z xs, same, ap (tally p) out))
    (cases_Bool (int_eq z x))

all-take_out : (P : ℤ → Type 0) (z : ℤ) (xs : List ℤ) → AllByRecursion P xs → AllByRecursion P (take_out z xs)
all-take_out P z [] a = tt
all-take_out P z (x ∷ xs) a =
    ⊎_elim
    (λ e. rw e a.1)
    (λ e. rw e (a.0, all-take_out P z xs a.1))
    (cases_Bool (int_eq z x))

pub descending_take_out : (z : ℤ) (xs : List ℤ) → Descending xs → Descending (take_out z xs)
descending_take_out z [] d = tt
descending_take_out z (x ∷ xs) d =
    ⊎_elim
    (λ e. rw e d.1)
    (λ e. rw e (all-take_out (λ y. y ≤ℤ x) z xs d.0, descending_take_out z xs d.1))
    (cases_Bool (int_eq z x))

-- where there is none, nothing is taken
pub take_out_none : (z : ℤ) (xs : List ℤ) → copies z xs ≡ 0 → take_out z xs ≡ xs
take_out_none z [] n = refl
take_out_none z (x ∷ xs) n =
    ⊎_elim
    (λ e. absurd (omega (arith, tally_yes (int_eq z) x xs e)))
    (λ e. cond-false (int_eq z x) xs (x ∷ take_out z xs) e ∙ ap (λ l. x ∷ l) (take_out_none z xs (omega (arith, tally_no (int_eq z) x xs e))))
    (cases_Bool (int_eq z x))

-- in a descending stretch the number stands behind those above it, or nowhere
pub take_out_is : (z : ℤ) (xs : List ℤ) → Descending xs → slice_get xs (above z xs) ≡ Some z → (take_out z xs ≡ remove xs (above z xs)) × (0 < copies z xs)
take_out_is z [] d s = absurd (none-some z s)
take_out_is z (x ∷ xs) d s =
    ⊎_elim
    (λ e.
    let n = tally_yes (lt_z z) x xs e in
    let deep = take_out_is z xs d.1 (ap (slice_get (x ∷ xs)) (sym n) ∙ s) in
    let other : int_eq z x ≡ false = eq_not z x (λ q. absurd (omega (arith, ints))) in
    (cond-false (int_eq z x) xs (x ∷ take_out z xs) other ∙ ap (λ l. x ∷ l) deep.0 ∙ ap (remove (x ∷ xs)) (sym n), omega (arith, deep.1, tally_no (int_eq z) x xs other)))
    (λ e.
    let n = tally_no (lt_z z) x xs e ∙ tally_none (lt_z z) (up_above z) x xs e d.0 in
    let here = same_Some x z (ap (slice_get (x ∷ xs)) (sym n) ∙ s) in
    let same : int_eq z x ≡ true = ap (int_eq z) here ∙ eq_self z in
    (cond-true (int_eq z x) xs (x ∷ take_out z xs) same ∙ ap (remove (x ∷ xs)) (sym n), omega (arith, tally_yes (int_eq z) x xs same)))
    (cases_Bool (lt_z z x))

all_not_copies : (z x : ℤ) (xs : List ℤ) → AllByRecursion (λ y. y ≤ℤ x) xs → lt_z x z ≡ true → copies z xs ≡ 0
all_not_copies z x [] a l = refl
all_not_copies z x (y ∷ xs) a l =
    let other : int_eq z y ≡ false = eq_not z y (λ q. absurd (omega (arith, ints, a.0))) in
    tally_no (int_eq z) y xs other ∙ all_not_copies z x xs a.1 l

-- where the one behind those above is another, there is none
pub copies_none : (z : ℤ) (xs : List ℤ) → Descending xs → (slice_get xs (above z xs) ≡ Some z → ⊥) → copies z xs ≡ 0
copies_none z [] d h = refl
copies_none z (x ∷ xs) d h =
    ⊎_elim
    (λ e.
    let n = tally_yes (lt_z z) x xs e in
    let other : int_eq z x ≡ false = eq_not z x (λ q. absurd (omega (arith, ints))) in
    tally_no (int_eq z) x xs other ∙ copies_none z xs d.1 (λ s. h (ap (slice_get (x ∷ xs)) n ∙ s)))
    (λ e.
    let n = tally_no (lt_z z) x xs e ∙ tally_none (lt_z z) (up_above z) x xs e d.0 in
    let apart : x ≡ z → ⊥ = λ q. h (ap (slice_get (x ∷ xs)) n ∙ ap Some q) in
    let other : int_eq z x ≡ false = eq_not z x (λ q. apart (sym q)) in
    let low : lt_z x z ≡ true = grind (arith, ints) in
    tally_no (int_eq z) x xs other ∙ all_not_copies z x xs d.0 low)
    (cases_Bool (lt_z z x))

-- the one behind those above is the number: it is taken
pub taken_yes : (z : ℤ) (before after : List ℤ) → Descending before → slice_get before (above z before) ≡ Some z → after ≡ remove before (above z before) → Taken z true before after
taken_yes z before after d s e =
    let t = take_out_is z before d s in
    let is : after ≡ take_out z before = e ∙ sym t.0 in
    let some = lt-ltb 0 (copies z before) t.1 in
    record {
      told = sym some;
      is = is;
      ordered = rw is (descending_take_out z before d);
      counts = λ p. tally-take_out p z before ∙ rw (some, is) refl;
    }

-- there is none: nothing is taken
pub taken_no : (z : ℤ) (before after : List ℤ) → Descending before → copies z before ≡ 0 → after ≡ before → Taken z false before after
taken_no z before after d none e = record {
  told = sym (le-ltb 0 (copies z before) (omega arith));
  is = e ∙ sym (take_out_none z before none);
  ordered = rw e d;
  counts = λ p. rw e (omega arith);
}
