-- What each margin tried tells of where the K-th highest lies. Assumes nothing.
use Rattle.std.proofs.Common.{◌≡◌, ℕ, ◌<◌, ◌≤◌, Bool, false, List, [], ◌∷◌, ◌+◌, suc, map, length, get_or, take, ℤ, ◌<ℤ◌, Some, None, Option, sym, refl, ap, ◌∙◌, ⊎_elim, arith}
use lib.Signed.{lt_z, le_z}
use Rattle.std.specs.List.{All, find}
use Rattle.std.specs.Option.{ForSome, option_map}
use Rattle.std.proofs.lemmas.List.Elements.{All-more}
use Rattle.std.proofs.lemmas.Int.{ints, by_lt_z}
use Rattle.std.proofs.lemmas.Bool.{cases_Bool, cond-false}
use Rattle.runs.specs.Highest.{above, at_least, Kth, is_kth, highest}
use Rattle.runs.specs.Bounds.{Outside}
use Rattle.runs.specs.Laws.{KthHighest}
use Rattle.runs.proofs.Tallies.{tally_mono}
use Rattle.runs.proofs.Kths.{kth_from_test, highest_is}
use Rattle.runs.proofs.KthLaws.{kth_highest}
use Rattle.runs.proofs.Picks.{found}

-- every K-th highest lies above m, and below m
abbrev pub LiesAbove : ℕ → List ℤ → ℤ → Type 0
LiesAbove k ws m = (w : ℤ) → Kth k ws w → m <ℤ w

abbrev pub LiesBelow : ℕ → List ℤ → ℤ → Type 0
LiesBelow k ws m = (w : ℤ) → Kth k ws w → w <ℤ m

pub lies_above : (k : ℕ) (ws : List ℤ) (m : ℤ) → k ≤ above m ws → LiesAbove k ws m
lies_above k ws m h w is =
    by_lt_z m w (λ l. l) (λ l. absurd (let f = tally_mono (lt_z m) (lt_z w) (λ x e. grind (arith, ints)) ws in omega (arith, is.few)))

pub lies_below : (k : ℕ) (ws : List ℤ) (m : ℤ) → at_least m ws < k → LiesBelow k ws m
lies_below k ws m h w is =
    by_lt_z w m (λ l. l) (λ l. absurd (let f = tally_mono (le_z w) (le_z m) (λ x e. grind (arith, ints)) ws in omega (arith, is.reached)))

module _ {M : Type 0} (whole : M → ℤ) (k : ℕ) (ws : List ℤ) where
  -- what is known of the bounds
  pub record Bounded (low high : Option M) : Type 0 where
    pub above_low : ForSome low (λ l. LiesAbove k ws (whole l))
    pub below_high : ForSome high (λ h. LiesBelow k ws (whole h))

  -- m is no K-th highest
  abbrev pub IsNot : M → Type 0
  IsNot m = is_kth k ws (whole m) ≡ false

  is_not : (m : M) → (Kth k ws (whole m) → ⊥) → IsNot m
  is_not m h = ⊎_elim (λ e. absurd (h (kth_from_test k ws (whole m) e))) (λ e. e) (cases_Bool (is_kth k ws (whole m)))

  ap_to : {m x : M} (P : ℤ → Type 0) → m ≡ x → P (whole m) → P (whole x)
  ap_to P e h = rw (sym e) h

  pub outside_is_not : (low high : Option M) (m : M) → Bounded low high → Outside whole low high m → IsNot m
  outside_is_not low high m b o =
      is_not m (λ is. ⊎_elim
      (λ x. let up = b.above_low x.0 x.1 (whole m) is in absurd (omega (arith, ints, x.2)))
      (λ x. let down = b.below_high x.0 x.1 (whole m) is in absurd (omega (arith, ints, x.2)))
      o)

  pub low_is_not : (m : M) → k ≤ above (whole m) ws → IsNot m
  low_is_not m h = is_not m (λ is. absurd (omega (arith, is.few)))

  pub high_is_not : (m : M) → at_least (whole m) ws < k → IsNot m
  high_is_not m h = is_not m (λ is. absurd (omega (arith, is.reached)))

  pub with_low : (low high : Option M) (m : M) → Bounded low high → k ≤ above (whole m) ws → Bounded (Some m) high
  with_low low high m b h = record { above_low = λ x e. ap_to (LiesAbove k ws) (let q : m ≡ x = cc in q) (lies_above k ws (whole m) h); below_high = b.below_high }

  pub with_high : (low high : Option M) (m : M) → Bounded low high → at_least (whole m) ws < k → Bounded low (Some m)
  with_high low high m b h = record { above_low = b.above_low; below_high = λ x e. ap_to (LiesBelow k ws) (let q : m ≡ x = cc in q) (lies_below k ws (whole m) h) }

  -- one margin more was tried
  pub one_more : (ms : List M) (i : ℕ) (x : M) → i < length ms → x ≡ get_or ms i x → All IsNot (take i ms) → IsNot x → All IsNot (take (i + 1) ms)
  one_more ms i x l read h not = All-more IsNot ms i x l h (rw (sym read) not)

none_found : {M : Type 0} (p : M → Bool) (xs : List M) → All (λ x. p x ≡ false) xs → find p xs ≡ None
none_found p [] h = refl
none_found p (x ∷ xs) h = rw (cond-false (p x) (Some x) (find p xs) (h 0 x (omega arith))) (none_found p xs (λ i d l. h (suc i) d (omega arith)))

module _ {M : Type 0} (whole : M → ℤ) where
  pub none_is : (k : ℕ) (ms : List M) → All (IsNot whole k (map whole ms)) ms → KthHighest k (map whole ms) None
  unfolding highest
  none_is k ms h =
      let test = is_kth k (map whole ms) in
      kth_highest k (map whole ms) None (sym (ap (option_map whole) (none_found (λ x. test (whole x)) ms h)) ∙ found whole test ms)

  pub this_is : (k : ℕ) (ms : List M) (m : M) → above (whole m) (map whole ms) < k → k ≤ at_least (whole m) (map whole ms) → KthHighest k (map whole ms) (Some (whole m))
  this_is k ms m f r = kth_highest k (map whole ms) (Some (whole m)) (sym (highest_is k (map whole ms) (whole m) (record { few = f; reached = r })))
