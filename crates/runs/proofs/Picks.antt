-- The K-th place of a stretch that lies highest first is its K-th highest, and the first that passes is the same by margins. Assumes nothing.
use Rattle.std.proofs.Common.{◌≡◌, ℕ, zero, suc, ◌+◌, ◌-◌, ◌≤◌, take, drop, Bool, cond, Some, None, Option, List, [], ◌∷◌, map, length, get_or, ℤ, pos, count_by, find, option_map, option_copied, slice_get, sym, refl, ap, ◌∙◌, inl, inr, ⊎_elim, arith}
use Rattle.std.specs.Borrow.{Bor}
use Rattle.std.specs.Slice.{IsItemAt}
use Rattle.std.proofs.lemmas.Bool.{cases_Bool, cases_lt}
use Rattle.std.proofs.lemmas.List.{length-take, length-drop, take_all}
use Rattle.std.proofs.lemmas.List.Sums.{sum_by-cons, sum_by-take-drop}
use Rattle.std.proofs.lemmas.Option.{slice_get-map, slice_get-get_or, slice_get_past}
use Rattle.runs.specs.Highest.{hit, highest, tally}
use Rattle.runs.specs.Order.{Descending}
use Rattle.runs.specs.Cells.{in_place}
use Rattle.runs.specs.Laws.{KthHighest}
use Rattle.runs.proofs.Kths.{highest_none, highest_descending}
use Rattle.runs.proofs.KthLaws.{kth_highest}

in_place_highest : (k : ℕ) (ws : List ℤ) → Descending ws → in_place k ws ≡ highest k ws
in_place_highest zero ws d = sym (highest_none zero ws (inl refl))
in_place_highest (suc k) ws d =
    ⊎_elim
    (λ l. slice_get-get_or ws k (pos 0) l ∙ (let e : k ≡ suc k - 1 = omega arith in ap (λ i. Some (get_or ws i (pos 0))) e) ∙ sym (highest_descending (suc k) ws d (omega arith) (omega arith)))
    (λ l. slice_get_past ws k l ∙ sym (highest_none (suc k) ws (inr (omega arith))))
    (cases_lt k (length ws))

-- what `get` lends
pub got : {M : Type 0} (ms : List M) (i : ℕ) (r : Option (Bor M)) → IsItemAt ms i r → option_copied r ≡ slice_get ms i
got ms i None h = sym (slice_get_past ms i h.3)
got ms i (Some x) h = ap Some h.1 ∙ sym (slice_get-get_or ms i x.now h.3.0)

pub in_place_none : {M : Type 0} (k : ℕ) (ms : List M) → (1 ≤ k → ⊥) → in_place k ms ≡ None
in_place_none zero ms h = refl
in_place_none (suc k) ms h = absurd (h (omega arith))

pub in_place_at : {M : Type 0} (k at : ℕ) (ms : List M) → 1 ≤ k → at ≡ k - 1 → slice_get ms at ≡ in_place k ms
in_place_at zero at ms h e = absurd (omega arith)
in_place_at (suc k) at ms h e = let f : at ≡ k = omega arith in ap (slice_get ms) f

module _ {M : Type 0} (whole : M → ℤ) where
  in_place-map : (k : ℕ) (ms : List M) → in_place k (map whole ms) ≡ option_map whole (in_place k ms)
  in_place-map zero ms = refl
  in_place-map (suc k) ms = slice_get-map whole ms k

  pub picked : (k : ℕ) (ms : List M) (answer : Option M) → answer ≡ in_place k ms → Descending (map whole ms) → KthHighest k (map whole ms) (option_map whole answer)
  picked k ms answer e d = kth_highest k (map whole ms) _ (ap (option_map whole) e ∙ sym (in_place-map k ms) ∙ in_place_highest k (map whole ms) d)

  -- a test of whole numbers, at margins
  pub tally-map : (p : ℤ → Bool) (ms : List M) → tally p (map whole ms) ≡ count_by (λ x. p (whole x)) ms
  tally-map p [] = refl
  tally-map p (x ∷ ms) = ap (λ n. hit (p (whole x)) + n) (tally-map p ms) ∙ sym (sum_by-cons (λ y. hit (p (whole y))) x ms)

  pub found : (p : ℤ → Bool) (ms : List M) → option_map whole (find (λ x. p (whole x)) ms) ≡ find p (map whole ms)
  found p [] = refl
  found p (x ∷ ms) = ⊎_elim (λ e. rw e refl) (λ e. rw e (found p ms)) (cases_Bool (p (whole x)))

-- a count of a front and one of the rest
pub front_and_rest : {M : Type 0} (p : M → Bool) (xs : List M) (f i j few n : ℕ) → f ≤ length xs → f ≤ i → length xs - f ≤ j → few ≡ count_by p (take i (take f xs)) → n ≡ few + count_by p (take j (take (length xs - f) (drop f xs))) → n ≡ count_by p xs
front_and_rest p xs f i j few n within past all one two =
    let front : take i (take f xs) ≡ take f xs = take_all i (take f xs) (omega (arith, length-take f xs)) in
    let rest : take j (take (length xs - f) (drop f xs)) ≡ drop f xs
    = take_all j (take (length xs - f) (drop f xs)) (omega (arith, length-take (length xs - f) (drop f xs))) ∙ take_all (length xs - f) (drop f xs) (omega (arith, length-drop f xs)) in
    let a : few ≡ count_by p (take f xs) = one ∙ ap (count_by p) front in
    let b : n ≡ few + count_by p (drop f xs) = two ∙ ap (λ ys. few + count_by p ys) rest in
    omega (arith, a, b, sum_by-take-drop (λ x. cond (p x) 1 0) xs f)
