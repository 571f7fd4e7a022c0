-- Margins of signals close to one another, or one later than the other. Assumes nothing.
use Rattle.std.proofs.Common.{◌≡◌, ℕ, zero, suc, ◌+◌, ◌≤◌, List, ◌∷◌, map, length, ℤ, neg_ℤ, refl, ap, ◌∙◌, ap₂, arith}
use Rattle.std.specs.List.{range_with_len, AllByRecursion}
use Rattle.std.specs.Int.{int_max, int_min}
use Rattle.std.proofs.lemmas.List.{length-map}
use Rattle.std.proofs.lemmas.Int.{ints, clamps}
use Rattle.std.proofs.lemmas.Bool.{eq-eqb, or_left, or_right}
use Rattle.scales.specs.Model.{distance}
use Rattle.scales.specs.Tests.{difference}
use Rattle.scales.specs.declared.limit.Sense.{Sense}
use Rattle.scales.specs.declared.limit.Sense.TheVariants.{AtLeast, AtMost}
use Rattle.runs.specs.Highest.{kth}
use Rattle.runs.specs.Rank.{rank}
use Rattle.runs.proofs.Pairwise.{each_map}
use Rattle.runs.proofs.Reaching.{kth_near}
use Rattle.formulas.specs.Formula.{Formula, head_test, zone_test, complement, either, both, window, width}
use Rattle.formulas.specs.Margin.{Signal, test, margin, Formed, polls}
use Rattle.formulas.specs.Meaning.{AlikeFor}
use Rattle.formulas.specs.Laws.{CloseFor, MarginNear, MarginLater}
use Rattle.formulas.proofs.Stretches.{all_polls, all_among, rank_first, rank_last}

near_stretch : {I : Type 0} (k c : ℕ) (f g : I → ℤ) (is : List I) → 1 ≤ k → k ≤ length is → AllByRecursion (λ i. distance (f i) (g i) ≤ c) is → distance (kth k (map f is)) (kth k (map g is)) ≤ c
near_stretch k c f g is lo hi a = kth_near k c (map f is) (map g is) lo (omega (arith, length-map is f)) (each_map (λ x y. distance x y ≤ c) f g is a)

module _ (mark : ℤ → ℤ) (d c : ℕ) (law : (a b : ℤ) → distance a b ≤ d → distance (mark a) (mark b) ≤ c) where
  test_near : (s : Sense) (l a b : ℤ) → distance a b ≤ d → distance (test mark s l a) (test mark s l b) ≤ c
  test_near AtLeast l a b h = law (difference AtLeast a l) (difference AtLeast b l) (omega (arith, ints))
  test_near AtMost l a b h = law (difference AtMost a l) (difference AtMost b l) (omega (arith, ints))

  near : (zone : List ℕ) (x y : Signal) (φ : Formula) → Formed zone φ → (t : ℕ) → CloseFor d zone φ t x y → distance (margin mark zone φ x t) (margin mark zone φ y t) ≤ c
  unfolding margin
  near zone x y (head_test h s l) ok t close = test_near s l (x t h) (y t h) (close t h (omega arith) (omega arith) (eq-eqb h h refl))
  near zone x y (zone_test k s l) ok t close =
      near_stretch k c (λ h. test mark s l (x t h)) (λ h. test mark s l (y t h)) zone ok.0 ok.1
      (all_among _ zone (λ h m. test_near s l (x t h) (y t h) (close t h (omega arith) (omega arith) m)))
  near zone x y (complement φ) ok t close = let i = near zone x y φ ok t close in omega (arith, ints)
  near zone x y (either φ ψ) ok t close =
      let i = near zone x y φ ok.0 t (λ u h lo hi r. close u h lo (omega arith) (or_left _ _ r)) in
      let j = near zone x y ψ ok.1 t (λ u h lo hi r. close u h lo (omega arith) (or_right _ _ r)) in
      omega (arith, ints, clamps)
  near zone x y (both φ ψ) ok t close =
      let i = near zone x y φ ok.0 t (λ u h lo hi r. close u h lo (omega arith) (or_left _ _ r)) in
      let j = near zone x y ψ ok.1 t (λ u h lo hi r. close u h lo (omega arith) (or_right _ _ r)) in
      omega (arith, ints, clamps)
  near zone x y (window a b p φ) ok t close =
      near_stretch (rank p (width a b)) c (λ u. margin mark zone φ x u) (λ u. margin mark zone φ y u) (polls (t + a) (width a b))
      (rank_first a b p ok.1) (rank_last a b p (t + a) ok.2)
      (all_polls _ (t + a) (width a b) (λ u lo hi. near zone x y φ ok.3 u (λ v h lo' hi' r. close v h (omega arith) (omega arith) r)))

pub margin_near : MarginNear
margin_near mark reach law zone φ ok d t x y close = near mark d (reach d) (λ a b. law a b d) zone x y φ ok t close

pub margin_local : (mark : ℤ → ℤ) (zone : List ℕ) (φ : Formula) → Formed zone φ → (t : ℕ) (x y : Signal) → AlikeFor zone φ t x y → margin mark zone φ x t ≡ margin mark zone φ y t
margin_local mark zone φ ok t x y alike =
    let law : (a b : ℤ) → distance a b ≤ 0 → distance (mark a) (mark b) ≤ 0 = λ a b h. let e : mark a ≡ mark b = ap mark (omega (arith, ints)) in omega (arith, ints) in
    let h : distance (margin mark zone φ x t) (margin mark zone φ y t) ≤ 0 = near mark 0 0 law zone x y φ ok t (λ u g lo hi r. let e = alike u g lo hi r in omega (arith, ints)) in
    omega (arith, ints)

later_polls : (F G : ℕ → ℤ) (f s n : ℕ) → ((u : ℕ) → F u ≡ G (f + u)) → map F (range_with_len s n) ≡ map G (range_with_len (f + s) n)
later_polls F G f s zero h = refl
later_polls F G f s (suc n) h = ap₂ ◌∷◌ (h s) (later_polls F G f (s + 1) n h ∙ ap (λ r. map G (range_with_len r n)) (omega arith))

pub margin_later : MarginLater
unfolding margin polls
margin_later mark zone (head_test h s l) f t x = refl
margin_later mark zone (zone_test k s l) f t x = refl
margin_later mark zone (complement φ) f t x = ap neg_ℤ (margin_later mark zone φ f t x)
margin_later mark zone (either φ ψ) f t x = ap₂ int_max (margin_later mark zone φ f t x) (margin_later mark zone ψ f t x)
margin_later mark zone (both φ ψ) f t x = ap₂ int_min (margin_later mark zone φ f t x) (margin_later mark zone ψ f t x)
margin_later mark zone (window a b p φ) f t x =
    ap (kth (rank p (width a b))) (later_polls (λ u. margin mark zone φ (λ v h. x (f + v) h) u) (λ u. margin mark zone φ x u) f (t + a) (width a b) (λ u. margin_later mark zone φ f u x)
    ∙ ap (λ r. map (λ u. margin mark zone φ x u) (polls r (width a b))) (omega arith))
