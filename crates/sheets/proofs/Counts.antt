-- Counting in a list, and what holds of each element. Assumes nothing.
use Rattle.std.proofs.Common.{◌≡◌, ℕ, zero, suc, ◌+◌, ◌≤◌, Bool, true, false, cond, ◌||◌, eqb, List, [], ◌∷◌, ◌++◌, count_by, sym, refl, ap, ◌∙◌, subst, ⊎_elim, arith}
use Rattle.std.proofs.lemmas.Bool.{cases_Bool, or_left, or_right, eq-eqb, eqb-true}
use Rattle.std.proofs.lemmas.List.Sums.{sum_by-cons, sum_by-append}
use Rattle.std.specs.List.{AllByRecursion, list_any}
use Rattle.formulas.specs.Formula.{among}

module _ {X : Type 0} (p : X → Bool) where
  -- as much as it counts alone
  abbrev pub worth : X → ℕ
  worth x = cond (p x) 1 0

  pub count-append : (xs ys : List X) → count_by p (xs ++ ys) ≡ count_by p xs + count_by p ys
  count-append xs ys = sum_by-append worth xs ys

  pub count-one : (x : X) → count_by p (x ∷ []) ≡ worth x
  count-one x = sum_by-cons worth x [] ∙ omega arith

  pub count_push : (xs : List X) (x : X) → count_by p (xs ++ x ∷ []) ≡ count_by p xs + worth x
  count_push xs x = count-append xs (x ∷ []) ∙ ap (λ n. count_by p xs + n) (count-one x)

  -- none passes exactly where the count is 0
  pub none_counted : (xs : List X) → list_any p xs ≡ false → count_by p xs ≡ 0
  none_counted [] e = refl
  none_counted (x ∷ xs) e = sum_by-cons worth x xs ∙ go (p x) (none_counted xs) e
    where
      go : (b : Bool) → (list_any p xs ≡ false → count_by p xs ≡ 0) → (b || list_any p xs) ≡ false → cond b 1 0 + count_by p xs ≡ 0
      go true k h = absurd (cc)
      go false k h = omega (arith, k h)

  pub none_passes : (xs : List X) → count_by p xs ≡ 0 → list_any p xs ≡ false
  none_passes [] e = refl
  none_passes (x ∷ xs) e = go (p x) (none_passes xs) (sym (sum_by-cons worth x xs) ∙ e)
    where
      go : (b : Bool) → (count_by p xs ≡ 0 → list_any p xs ≡ false) → cond b 1 0 + count_by p xs ≡ 0 → (b || list_any p xs) ≡ false
      go true k h = absurd (omega arith)
      go false k h = k (omega arith)

  pub some_counted : (xs : List X) → list_any p xs ≡ true → 1 ≤ count_by p xs
  some_counted xs e = go (count_by p xs) refl
    where
      go : (n : ℕ) → count_by p xs ≡ n → 1 ≤ n
      go zero h = absurd (cc (e, none_passes xs h))
      go (suc n) h = omega arith

  pub some_passes : (xs : List X) → 1 ≤ count_by p xs → list_any p xs ≡ true
  some_passes xs l = go (list_any p xs) refl
    where
      go : (b : Bool) → list_any p xs ≡ b → b ≡ true
      go true h = refl
      go false h = absurd (omega (arith, l, none_counted xs h))

-- ---- what holds of each
module _ {X : Type 0} (P : X → Type 0) where
  pub all_front : (xs ys : List X) → AllByRecursion P (xs ++ ys) → AllByRecursion P xs
  all_front [] ys a = tt
  all_front (x ∷ xs) ys a = (a.0, all_front xs ys a.1)

  pub all_behind : (xs ys : List X) → AllByRecursion P (xs ++ ys) → AllByRecursion P ys
  all_behind [] ys a = a
  all_behind (x ∷ xs) ys a = all_behind xs ys a.1

-- what holds of each number that is among them
pub all_from_among : (P : ℕ → Type 0) (hs : List ℕ) → ((h : ℕ) → among h hs ≡ true → P h) → AllByRecursion P hs
all_from_among P [] k = tt
all_from_among P (g ∷ gs) k = (k g (or_left _ _ (eq-eqb g g refl)), all_from_among P gs (λ h e. k h (or_right _ _ e)))

-- ---- numbers of their own
module _ {X : Type 0} (key : X → ℕ) where
  -- how many have the number
  abbrev pub keyed : ℕ → List X → ℕ
  keyed n xs = count_by (λ x. eqb (key x) n) xs

  -- one more whose number none has
  pub keys_more : (xs : List X) (x : X) → ((n : ℕ) → keyed n xs ≤ 1) → list_any (λ y. eqb (key y) (key x)) xs ≡ false → (n : ℕ) → keyed n (xs ++ x ∷ []) ≤ 1
  keys_more xs x few none n =
      ⊎_elim
      (λ e. omega (arith, count_push (λ y. eqb (key y) n) xs x, subst (λ k. keyed k xs ≡ 0) (eqb-true _ _ e) (none_counted _ xs none), worth_le (eqb (key x) n)))
      (λ e. omega (arith, count_push (λ y. eqb (key y) n) xs x, few n, ap {B = ℕ} (λ b. cond b 1 0) e))
      (cases_Bool (eqb (key x) n))
    where
      worth_le : (b : Bool) → cond b 1 0 ≤ 1
      worth_le true = omega arith
      worth_le false = omega arith

  -- none before has the number of the last
  pub key_last : (xs : List X) (x : X) → ((n : ℕ) → keyed n (xs ++ x ∷ []) ≤ 1) → list_any (λ y. eqb (key y) (key x)) xs ≡ false
  key_last xs x few =
      none_passes (λ y. eqb (key y) (key x)) xs
      (omega (arith, few (key x), count_push (λ y. eqb (key y) (key x)) xs x, ap {B = ℕ} (λ b. cond b 1 0) (eq-eqb (key x) (key x) refl)))
