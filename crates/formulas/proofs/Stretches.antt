-- The stretches that zone tests and windows take the K-th highest of. Assumes nothing.
use Rattle.std.proofs.Common.{◌≡◌, ℕ, zero, suc, ◌+◌, ◌<◌, ◌≤◌, Bool, true, eqb, List, [], ◌∷◌, map, length, ℤ, ◌≤ℤ◌, count_by, sym, refl, ap, ◌∙◌, ap₂, arith}
use Rattle.std.specs.List.{range_with_len, AllByRecursion}
use Rattle.std.proofs.lemmas.List.FromFn.{length-range_with_len}
use Rattle.std.proofs.lemmas.List.{length-map}
use Rattle.std.proofs.lemmas.List.Sums.{sum_by-cons}
use Rattle.std.proofs.lemmas.Bool.{eq-eqb, or_left, or_right}
use Rattle.runs.specs.Highest.{hit, tally, kth}
use Rattle.runs.specs.Rank.{rank}
use Rattle.runs.proofs.Pairwise.{each_map}
use Rattle.runs.proofs.Ranks.{rank_some, rank_fits}
use Rattle.runs.proofs.Reaching.{kth_carries}
use Rattle.formulas.specs.Formula.{width, among}
use Rattle.formulas.specs.Margin.{polls}

all_counting : (P : ℕ → Type 0) (s n : ℕ) → ((u : ℕ) → s ≤ u → u < s + n → P u) → AllByRecursion P (range_with_len s n)
all_counting P s zero h = tt
all_counting P s (suc n) h = (h s (omega arith) (omega arith), all_counting P (s + 1) n (λ u lo hi. h u (omega arith) (omega arith)))

pub all_polls : (P : ℕ → Type 0) (s n : ℕ) → ((u : ℕ) → s ≤ u → u < s + n → P u) → AllByRecursion P (polls s n)
unfolding polls
all_polls P s n h = all_counting P s n h

pub length_polls : (s n : ℕ) → length (polls s n) ≡ n
unfolding polls
length_polls s n = length-range_with_len s n

pub all_among : (P : ℕ → Type 0) (zone : List ℕ) → ((h : ℕ) → among h zone ≡ true → P h) → AllByRecursion P zone
all_among P [] f = tt
all_among P (g ∷ gs) f = (f g (or_left (eqb g g) (among g gs) (eq-eqb g g refl)), all_among P gs (λ h m. f h (or_right (eqb g h) (among h gs) m)))

-- the rank of a window is one of its polls
pub rank_first : (a b p : ℕ) → 1 ≤ p → 1 ≤ rank p (width a b)
rank_first a b p lo = rank_some p (width a b) lo (omega arith)

pub rank_last : (a b p s : ℕ) → p ≤ 1000 → rank p (width a b) ≤ length (polls s (width a b))
rank_last a b p s hi = omega (arith, rank_fits p (width a b) hi, length_polls s (width a b))

-- the K-th highest of f reaches p, and so that of g reaches q
pub kth_follows : {I : Type 0} (k : ℕ) (p q : ℤ) (f g : I → ℤ) (is : List I) → 1 ≤ k → k ≤ length is → AllByRecursion (λ i. p ≤ℤ f i → q ≤ℤ g i) is → p ≤ℤ kth k (map f is) → q ≤ℤ kth k (map g is)
kth_follows k p q f g is lo hi a h = kth_carries k p q (map f is) (map g is) lo (omega (arith, length-map is f)) (each_map (λ x y. p ≤ℤ x → q ≤ℤ y) f g is a) h

-- those of a stretch that pass, counted in the stretch itself
pub tally-map : {I : Type 0} (p : ℤ → Bool) (f : I → ℤ) (is : List I) → tally p (map f is) ≡ count_by (λ i. p (f i)) is
tally-map p f [] = refl
tally-map p f (i ∷ is) = ap (λ n. hit (p (f i)) + n) (tally-map p f is) ∙ sym (sum_by-cons (λ j. hit (p (f j))) i is)

pub map_alike : {I X : Type 0} (f g : I → X) (is : List I) → ((i : I) → f i ≡ g i) → map f is ≡ map g is
map_alike f g [] h = refl
map_alike f g (i ∷ is) h = ap₂ ◌∷◌ (h i) (map_alike f g is h)
