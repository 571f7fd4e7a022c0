-- A signal just far enough away to turn the verdict. Assumes nothing.
use Rattle.std.proofs.Common.{◌≡◌, ℕ, ◌+◌, ◌≤◌, Bool, true, false, not, eqb, List, map, length, ℤ, ◌+ℤ◌, neg_ℤ, nat_abs, sym, refl, ap, ◌∙◌, inl, inr, ⊎_elim, arith}
use Rattle.std.specs.Int.{int_max, int_min}
use Rattle.std.specs.List.{AllByRecursion}
use Rattle.std.proofs.lemmas.List.{length-map}
use Rattle.std.proofs.lemmas.Int.{ints, clamps}
use Rattle.std.proofs.lemmas.Bool.{eq-eqb, or_left, or_right, and_from, cases_Bool}
use Rattle.scales.specs.Model.{distance}
use Rattle.scales.specs.Tests.{difference}
use Rattle.scales.specs.declared.limit.Sense.{Sense}
use Rattle.scales.specs.declared.limit.Sense.TheVariants.{AtLeast, AtMost}
use Rattle.runs.specs.Highest.{kth}
use Rattle.runs.specs.Rank.{rank}
use Rattle.runs.proofs.Pairwise.{each_map}
use Rattle.runs.proofs.Reaching.{kth_moves}
use Rattle.formulas.specs.Formula.{Formula, head_test, zone_test, complement, either, both, window, width, among, looks_up, same, sees, OneWay}
use Rattle.formulas.specs.Margin.{Signal, test, polls, margin, verdict, Formed}
use Rattle.formulas.specs.Laws.{Measuring, VerdictTurns}
use Rattle.formulas.proofs.Stretches.{all_polls, all_among, rank_first, rank_last}
use Rattle.formulas.proofs.Verdicts.{Agree, agree, agree_yes, agree_no}

-- by s down where the flag is true, and up elsewhere
abbrev by : Bool → ℤ → ℤ
by true s = neg_ℤ s
by false s = s

-- heads looked at up go down by s, and the others up
abbrev shifted : (ℕ → Bool) → ℤ → Signal → Signal
shifted way s x u h = x u h +ℤ by (way h) s

same_self : (b : Bool) → same b b ≡ true
same_self true = refl
same_self false = refl

moved_stretch : {I : Type 0} (k : ℕ) (c : ℤ) (f g : I → ℤ) (is : List I) → 1 ≤ k → k ≤ length is → AllByRecursion (λ i. g i ≡ f i +ℤ c) is → kth k (map g is) ≡ kth k (map f is) +ℤ c
moved_stretch k c f g is lo hi a = kth_moves k c (map f is) (map g is) lo (omega (arith, length-map is f)) (each_map (λ x y. y ≡ x +ℤ c) f g is a)

difference_moved : (even : Bool) (sense : Sense) (s l r : ℤ) → difference sense (r +ℤ by (looks_up even sense) s) l ≡ difference sense r l +ℤ by even s
difference_moved true AtLeast s l r = omega (arith, ints)
difference_moved true AtMost s l r = omega (arith, ints)
difference_moved false AtLeast s l r = omega (arith, ints)
difference_moved false AtMost s l r = omega (arith, ints)

complement_moved : (even : Bool) (s m n : ℤ) → n ≡ m +ℤ by (not even) s → neg_ℤ n ≡ neg_ℤ m +ℤ by even s
complement_moved true s m n e = omega (arith, ints)
complement_moved false s m n e = omega (arith, ints)

either_moved : (c a b a' b' : ℤ) → a' ≡ a +ℤ c → b' ≡ b +ℤ c → int_max a' b' ≡ int_max a b +ℤ c
either_moved c a b a' b' p q = omega (arith, ints, clamps)

both_moved : (c a b a' b' : ℤ) → a' ≡ a +ℤ c → b' ≡ b +ℤ c → int_min a' b' ≡ int_min a b +ℤ c
both_moved c a b a' b' p q = omega (arith, ints, clamps)

module _ (mark : ℤ → ℤ) (measures : Measuring mark) (zone : List ℕ) (way : ℕ → Bool) (s : ℤ) (x : Signal) where
  -- each head that φ looks at is shifted against its look
  Fits : Bool → Formula → Type 0
  Fits even φ = (h : ℕ) (up : Bool) → sees even up zone φ h ≡ true → way h ≡ up

  head_moved : (even : Bool) (sense : Sense) (l : ℤ) (t h : ℕ) → way h ≡ looks_up even sense → test mark sense l (shifted way s x t h) ≡ test mark sense l (x t h) +ℤ by even s
  head_moved even sense l t h e = ap (λ b. test mark sense l (x t h +ℤ by b s)) e ∙ measures (difference sense (x t h +ℤ by (looks_up even sense) s) l) ∙ difference_moved even sense s l (x t h) ∙ ap (λ z. z +ℤ by even s) (sym (measures (difference sense (x t h) l)))

  moved : (even : Bool) (φ : Formula) → Formed zone φ → Fits even φ → (t : ℕ) → margin mark zone φ (shifted way s x) t ≡ margin mark zone φ x t +ℤ by even s
  unfolding margin Fits
  moved even (head_test h sense l) ok fits t =
      head_moved even sense l t h (fits h (looks_up even sense) (and_from (eqb h h) (same (looks_up even sense) (looks_up even sense)) (eq-eqb h h refl) (same_self (looks_up even sense))))
  moved even (zone_test k sense l) ok fits t =
      moved_stretch k (by even s) (λ h. test mark sense l (x t h)) (λ h. test mark sense l (shifted way s x t h)) zone ok.0 ok.1
      (all_among _ zone (λ h m. head_moved even sense l t h (fits h (looks_up even sense) (and_from (among h zone) (same (looks_up even sense) (looks_up even sense)) m (same_self (looks_up even sense))))))
  moved even (complement φ) ok fits t = complement_moved even s (margin mark zone φ x t) (margin mark zone φ (shifted way s x) t) (moved (not even) φ ok fits t)
  moved even (either φ ψ) ok fits t =
      either_moved (by even s) (margin mark zone φ x t) (margin mark zone ψ x t) (margin mark zone φ (shifted way s x) t) (margin mark zone ψ (shifted way s x) t)
      (moved even φ ok.0 (λ h up q. fits h up (or_left _ _ q)) t) (moved even ψ ok.1 (λ h up q. fits h up (or_right _ _ q)) t)
  moved even (both φ ψ) ok fits t =
      both_moved (by even s) (margin mark zone φ x t) (margin mark zone ψ x t) (margin mark zone φ (shifted way s x) t) (margin mark zone ψ (shifted way s x) t)
      (moved even φ ok.0 (λ h up q. fits h up (or_left _ _ q)) t) (moved even ψ ok.1 (λ h up q. fits h up (or_right _ _ q)) t)
  moved even (window a b p φ) ok fits t =
      moved_stretch (rank p (width a b)) (by even s) (λ u. margin mark zone φ x u) (λ u. margin mark zone φ (shifted way s x) u) (polls (t + a) (width a b))
      (rank_first a b p ok.1) (rank_last a b p (t + a) ok.2)
      (all_polls _ (t + a) (width a b) (λ u lo hi. moved even φ ok.3 fits u))

-- a head is shifted down if some test looks up at it
abbrev ways : List ℕ → Formula → ℕ → Bool
ways zone φ h = sees true true zone φ h

ways_fit : (zone : List ℕ) (φ : Formula) → OneWay zone φ → (h : ℕ) (up : Bool) → sees true up zone φ h ≡ true → ways zone φ h ≡ up
ways_fit zone φ one h true e = e
ways_fit zone φ one h false e = ⊎_elim (λ q. absurd (one h q e)) (λ q. q) (cases_Bool (ways zone φ h))

near_shift : (b : Bool) (r s : ℤ) → distance r (r +ℤ by b s) ≡ nat_abs s
near_shift true r s = omega (arith, ints)
near_shift false r s = omega (arith, ints)

-- the margin of the shifted signal is the negated verdict, and so is not nought
turned : (m v n w : ℤ) → Agree m v → Agree n w → n ≡ m +ℤ neg_ℤ (m +ℤ v) → (w ≡ neg_ℤ v) × (nat_abs (m +ℤ v) ≤ nat_abs m + 1)
turned m v n w (inl h) a e = (agree_no n w a (omega (arith, ints)) ∙ omega (arith, ints), omega (arith, ints))
turned m v n w (inr h) a e = (agree_yes n w a (omega (arith, ints)) ∙ omega (arith, ints), omega (arith, ints))

pub verdict_turns : VerdictTurns
unfolding Fits
verdict_turns mark measures zone φ ok one t x =
    let m = margin mark zone φ x t in
    let v = verdict mark zone φ x t in
    let s = m +ℤ v in
    let y : Signal = shifted (ways zone φ) s x in
    let n : margin mark zone φ y t ≡ m +ℤ neg_ℤ s = moved mark measures zone (ways zone φ) s x true φ ok (ways_fit zone φ one) t in
    let r = turned m v (margin mark zone φ y t) (verdict mark zone φ y t) (agree mark zone x φ ok t) (agree mark zone y φ ok t) n in
    (y, record { close = λ u h. omega (arith, near_shift (ways zone φ h) (x u h) s, r.1); opposite = r.0 })
