-- The verdict against the margin: a yes has a margin of nought or more, a no one of nought or less. Assumes nothing.
use Rattle.std.proofs.Common.{◌≡◌, ℕ, ◌+◌, ◌≤◌, Bool, true, false, cond, ◌⊎◌, List, map, length, ℤ, pos, negsuc, ◌+ℤ◌, neg_ℤ, ◌≤ℤ◌, ◌<ℤ◌, sym, refl, ◌∙◌, inl, inr, ⊎_elim, arith}
use lib.Signed.{le_z}
use Rattle.std.specs.Int.{int_max, int_min}
use Rattle.std.specs.List.{AllByRecursion}
use Rattle.std.proofs.ByRecursion.{All-weaker}
use Rattle.std.proofs.lemmas.Int.{ints, clamps, by_lt_z}
use Rattle.scales.specs.Model.{distance}
use Rattle.runs.specs.Highest.{kth}
use Rattle.runs.specs.Rank.{rank}
use Rattle.formulas.specs.Formula.{Formula, head_test, zone_test, complement, either, both, window, width}
use Rattle.formulas.specs.Margin.{Signal, test, polls, margin, verdict, Formed}
use Rattle.scales.specs.Verdict.{verdict_of}
use Rattle.formulas.specs.Laws.{Reaches, Measuring, VerdictSettled, ThisOrNot}
use Rattle.formulas.proofs.Stretches.{all_polls, all_among, rank_first, rank_last, kth_follows}
use Rattle.formulas.proofs.Near.{margin_near}

-- the margin m and the verdict v
abbrev pub Agree : ℤ → ℤ → Type 0
Agree m v = ((v ≡ pos 1) × (pos 0 ≤ℤ m)) ⊎ ((v ≡ negsuc 0) × (m ≤ℤ pos 0))

agree_mark : (m : ℤ) → Agree m (verdict_of m)
agree_mark m = by (le_z (pos 0) m) refl
  where
    by : (b : Bool) → le_z (pos 0) m ≡ b → Agree m (cond b (pos 1) (negsuc 0))
    by true e = inl (refl, omega (arith, ints))
    by false e = inr (refl, omega (arith, ints))

agree_complement : (m v : ℤ) → Agree m v → Agree (neg_ℤ m) (neg_ℤ v)
agree_complement m v (inl h) = inr (omega (arith, ints))
agree_complement m v (inr h) = inl (omega (arith, ints))

module _ {I : Type 0} (k : ℕ) (f g : I → ℤ) (is : List I) (lo : 1 ≤ k) (hi : k ≤ length is) (all : AllByRecursion (λ i. Agree (f i) (g i)) is) where
  -- what holds of each margin and its verdict
  carried : (e e' : I → ℤ) (p q : ℤ) → ((i : I) → Agree (f i) (g i) → p ≤ℤ e i → q ≤ℤ e' i) → p ≤ℤ kth k (map e is) → q ≤ℤ kth k (map e' is)
  carried e e' p q h = kth_follows k p q e e' is lo hi (All-weaker (λ i. Agree (f i) (g i)) (λ i. p ≤ℤ e i → q ≤ℤ e' i) h is all)

  agree_kth : Agree (kth k (map f is)) (kth k (map g is))
  agree_kth =
      let m = kth k (map f is) in
      let v = kth k (map g is) in
      let low : negsuc 0 ≤ℤ v = carried g g v (negsuc 0) (λ i a r. ⊎_elim (λ h. omega (arith, ints)) (λ h. omega (arith, ints)) a) (omega (arith, ints)) in
      let high : pos 2 ≤ℤ v → (v +ℤ pos 1) ≤ℤ v = carried g g (pos 2) (v +ℤ pos 1) (λ i a r. ⊎_elim (λ h. absurd (omega (arith, ints))) (λ h. absurd (omega (arith, ints))) a) in
      let gap : pos 0 ≤ℤ v → pos 1 ≤ℤ v = carried g g (pos 0) (pos 1) (λ i a r. ⊎_elim (λ h. omega (arith, ints)) (λ h. absurd (omega (arith, ints))) a) in
      let yes : pos 1 ≤ℤ m → pos 1 ≤ℤ v = carried f g (pos 1) (pos 1) (λ i a r. ⊎_elim (λ h. omega (arith, ints)) (λ h. absurd (omega (arith, ints))) a) in
      let back : pos 1 ≤ℤ v → pos 0 ≤ℤ m = carried g f (pos 1) (pos 0) (λ i a r. ⊎_elim (λ h. h.1) (λ h. absurd (omega (arith, ints))) a) in
      by_lt_z v (pos 0)
      (λ l. inr (omega (arith, ints), by_lt_z (pos 0) m (λ r. absurd (let z = yes (omega (arith, ints)) in omega (arith, ints))) (λ r. r)))
      (λ l. let one = gap l in inl (by_lt_z (pos 1) v (λ r. absurd (let z = high (omega (arith, ints)) in omega (arith, ints))) (λ r. omega (arith, ints)), back one))

agree_either : (m v n w : ℤ) → Agree m v → Agree n w → Agree (int_max m n) (int_max v w)
agree_either m v n w (inl h) (inl j) = inl (omega (arith, ints, clamps))
agree_either m v n w (inl h) (inr j) = inl (omega (arith, ints, clamps))
agree_either m v n w (inr h) (inl j) = inl (omega (arith, ints, clamps))
agree_either m v n w (inr h) (inr j) = inr (omega (arith, ints, clamps))

agree_both : (m v n w : ℤ) → Agree m v → Agree n w → Agree (int_min m n) (int_min v w)
agree_both m v n w (inl h) (inl j) = inl (omega (arith, ints, clamps))
agree_both m v n w (inl h) (inr j) = inr (omega (arith, ints, clamps))
agree_both m v n w (inr h) (inl j) = inr (omega (arith, ints, clamps))
agree_both m v n w (inr h) (inr j) = inr (omega (arith, ints, clamps))

pub agree : (mark : ℤ → ℤ) (zone : List ℕ) (x : Signal) (φ : Formula) → Formed zone φ → (t : ℕ) → Agree (margin mark zone φ x t) (verdict mark zone φ x t)
unfolding margin
agree mark zone x (head_test h s l) ok t = agree_mark (test mark s l (x t h))
agree mark zone x (zone_test k s l) ok t =
    agree_kth k (λ h. test mark s l (x t h)) (λ h. verdict_of (test mark s l (x t h))) zone ok.0 ok.1 (all_among _ zone (λ h m. agree_mark (test mark s l (x t h))))
agree mark zone x (complement φ) ok t = agree_complement (margin mark zone φ x t) (verdict mark zone φ x t) (agree mark zone x φ ok t)
agree mark zone x (either φ ψ) ok t = agree_either (margin mark zone φ x t) (verdict mark zone φ x t) (margin mark zone ψ x t) (verdict mark zone ψ x t) (agree mark zone x φ ok.0 t) (agree mark zone x ψ ok.1 t)
agree mark zone x (both φ ψ) ok t = agree_both (margin mark zone φ x t) (verdict mark zone φ x t) (margin mark zone ψ x t) (verdict mark zone ψ x t) (agree mark zone x φ ok.0 t) (agree mark zone x ψ ok.1 t)
agree mark zone x (window a b p φ) ok t =
    agree_kth (rank p (width a b)) (λ u. margin mark zone φ x u) (λ u. verdict mark zone φ x u) (polls (t + a) (width a b))
    (rank_first a b p ok.1) (rank_last a b p (t + a) ok.2)
    (all_polls _ (t + a) (width a b) (λ u lo hi. agree mark zone x φ ok.3 u))

pub agree_yes : (m v : ℤ) → Agree m v → pos 0 <ℤ m → v ≡ pos 1
agree_yes m v (inl h) l = h.0
agree_yes m v (inr h) l = absurd (omega (arith, ints))

pub agree_no : (m v : ℤ) → Agree m v → m <ℤ pos 0 → v ≡ negsuc 0
agree_no m v (inl h) l = absurd (omega (arith, ints))
agree_no m v (inr h) l = h.0

measuring_reaches : (mark : ℤ → ℤ) → Measuring mark → Reaches mark (λ d. d)
measuring_reaches mark measures x y d h = omega (arith, ints, measures x, measures y)

pub verdict_settled : VerdictSettled
verdict_settled mark measures zone φ ok d t x y close far =
    let m = margin mark zone φ x t in
    let n = margin mark zone φ y t in
    let near : distance m n ≤ d = margin_near mark (λ d. d) (measuring_reaches mark measures) zone φ ok d t x y close in
    let at_x = agree mark zone x φ ok t in
    let at_y = agree mark zone y φ ok t in
    let yes : pos 0 <ℤ m → verdict mark zone φ y t ≡ pos 1 = λ l. agree_yes n _ at_y (omega (arith, ints)) in
    let no : m <ℤ pos 0 → verdict mark zone φ y t ≡ negsuc 0 = λ l. agree_no n _ at_y (omega (arith, ints)) in
    record {
      same = by_lt_z (pos 0) m (λ l. yes l ∙ sym (agree_yes m _ at_x l)) (λ r. let l : m <ℤ pos 0 = omega (arith, ints) in no l ∙ sym (agree_no m _ at_x l));
      yes = yes;
      no = no;
    }

pub this_or_not : ThisOrNot
unfolding margin
this_or_not mark zone φ ok t x = or_not (margin mark zone φ x t) (verdict mark zone φ x t) (agree mark zone x φ ok t)
  where
    or_not : (m v : ℤ) → Agree m v → int_max v (neg_ℤ v) ≡ pos 1
    or_not m v (inl h) = omega (arith, ints, clamps)
    or_not m v (inr h) = omega (arith, ints, clamps)
