-- A margin is the greatest by which its formula holds, and a verdict says whether it does. Assumes nothing.
use Rattle.std.proofs.Common.{◌≡◌, ℕ, ◌+◌, ◌*◌, ◌≤◌, Bool, true, false, cond, not, ◌&&◌, ◌||◌, leb, List, [], ◌∷◌, map, length, ℤ, pos, negsuc, neg_ℤ, count_by, sym, refl, ap, ◌∙◌, ap₂, inl, inr, ⊎_elim, arith}
use lib.Signed.{le_z, lt_z}
use Rattle.std.specs.Int.{int_max, int_min}
use Rattle.std.proofs.lemmas.List.{length-map}
use Rattle.std.proofs.lemmas.Int.{ints, clamps, by_lt_z}
use Rattle.std.proofs.lemmas.List.Sums.{sum_by-cons}
use Rattle.std.proofs.lemmas.Bool.{cases_Bool, le-leb, lt-leb, leb-true, leb-false}
use Rattle.runs.specs.Highest.{hit, tally, kth}
use Rattle.runs.specs.Rank.{rank}
use Rattle.runs.proofs.Kths.{kth_is, kth_exists}
use Rattle.runs.proofs.Ranks.{rank_enough, enough_rank}
use Rattle.runs.proofs.Reaching.{reaches_kth}
use Rattle.formulas.specs.Formula.{Formula, head_test, zone_test, complement, either, both, window, width}
use Rattle.formulas.specs.Margin.{Signal, test, polls, margin, verdict, Formed}
use Rattle.formulas.specs.Meaning.{holds, HoldsBy, Greatest, Meaning}
use Rattle.formulas.proofs.Near.{margin_local}
use Rattle.formulas.proofs.Stretches.{rank_first, rank_last, tally-map, map_alike}

-- yes or no
abbrev said : Bool → ℤ
said b = cond b (pos 1) (negsuc 0)

said_not : (b : Bool) → neg_ℤ (said b) ≡ said (not b)
said_not true = refl
said_not false = refl

said_or : (a b : Bool) → int_max (said a) (said b) ≡ said (a || b)
said_or true true = refl
said_or true false = refl
said_or false true = refl
said_or false false = refl

said_and : (a b : Bool) → int_min (said a) (said b) ≡ said (a && b)
said_and true true = refl
said_and true false = refl
said_and false true = refl
said_and false false = refl

-- ---- the K-th highest of yes and no
-- the tests of a yes or no pass just where it is yes, or always, or never
module _ {I : Type 0} (f : I → Bool) where
  count_said : (p : ℤ → Bool) → p (pos 1) ≡ true → p (negsuc 0) ≡ false → (is : List I) → tally p (map (λ i. said (f i)) is) ≡ count_by f is
  count_said p high low [] = refl
  count_said p high low (i ∷ is) = ap₂ ◌+◌ (hits p high low (f i)) (count_said p high low is) ∙ sym (sum_by-cons (λ j. hit (f j)) i is)
    where
      hits : (p : ℤ → Bool) → p (pos 1) ≡ true → p (negsuc 0) ≡ false → (b : Bool) → hit (p (said b)) ≡ hit b
      hits p high low true = ap hit high
      hits p high low false = ap hit low

  never_said : (is : List I) → tally (lt_z (pos 1)) (map (λ i. said (f i)) is) ≡ 0
  never_said [] = refl
  never_said (i ∷ is) = ⊎_elim (λ e. rw e (omega (arith, never_said is))) (λ e. rw e (omega (arith, never_said is))) (cases_Bool (f i))

  always_said : (is : List I) → tally (le_z (negsuc 0)) (map (λ i. said (f i)) is) ≡ length is
  always_said [] = refl
  always_said (i ∷ is) = ⊎_elim (λ e. rw e (omega (arith, always_said is))) (λ e. rw e (omega (arith, always_said is))) (cases_Bool (f i))

  kth_said : (k : ℕ) (is : List I) → 1 ≤ k → k ≤ length is → kth k (map (λ i. said (f i)) is) ≡ said (leb k (count_by f is))
  kth_said k is lo hi =
      let vs = map (λ i. said (f i)) is in
      ⊎_elim
      (λ e. kth_is k vs (pos 1) (record { reached = omega (arith, count_said (le_z (pos 1)) refl refl is, leb-true k (count_by f is) e); few = omega (arith, never_said is) }) ∙ ap said (sym e))
      (λ e. kth_is k vs (negsuc 0) (record { reached = omega (arith, always_said is); few = omega (arith, count_said (lt_z (negsuc 0)) refl refl is, leb-false k (count_by f is) e) }) ∙ ap said (sym e))
      (cases_Bool (leb k (count_by f is)))

-- n polls reach the rank just where they make up the share
rank_test : (p w n : ℕ) → leb (rank p w) n ≡ leb (p * w) (1000 * n)
rank_test p w n = ⊎_elim
    (λ e. e ∙ sym (le-leb (p * w) (1000 * n) (rank_enough p w n (leb-true (rank p w) n e))))
    (λ e. e ∙ sym (lt-leb (p * w) (1000 * n) (omega (arith, leb-false (rank p w) n e))))
    (cases_Bool (leb (rank p w) n))

module _ (mark : ℤ → ℤ) (zone : List ℕ) (x : Signal) where
  truth : (φ : Formula) → Formed zone φ → (t : ℕ) → verdict mark zone φ x t ≡ said (holds mark zone φ x t)
  unfolding margin holds
  truth (head_test h s l) ok t = refl
  truth (zone_test k s l) ok t = kth_said (λ h. le_z (pos 0) (test mark s l (x t h))) k zone ok.0 ok.1
  truth (complement φ) ok t = ap neg_ℤ (truth φ ok t) ∙ said_not (holds mark zone φ x t)
  truth (either φ ψ) ok t = ap₂ int_max (truth φ ok.0 t) (truth ψ ok.1 t) ∙ said_or (holds mark zone φ x t) (holds mark zone ψ x t)
  truth (both φ ψ) ok t = ap₂ int_min (truth φ ok.0 t) (truth ψ ok.1 t) ∙ said_and (holds mark zone φ x t) (holds mark zone ψ x t)
  truth (window a b p φ) ok t =
      let us = polls (t + a) (width a b) in
      ap (kth (rank p (width a b))) (map_alike (λ u. verdict mark zone φ x u) (λ u. said (holds mark zone φ x u)) us (λ u. truth φ ok.3 u))
      ∙ kth_said (λ u. holds mark zone φ x u) (rank p (width a b)) us (rank_first a b p ok.1) (rank_last a b p (t + a) ok.2)
      ∙ ap said (rank_test p (width a b) (count_by (λ u. holds mark zone φ x u) us))

  -- the K-th highest of a stretch is the greatest that K of the stretch reach
  kth_greatest : {I : Type 0} (k : ℕ) (f : I → ℤ) (is : List I) → 1 ≤ k → k ≤ length is → Greatest (λ r. k ≤ count_by (λ i. le_z r (f i)) is) (kth k (map f is))
  kth_greatest k f is lo hi =
      let long = length-map is f in
      let m = kth k (map f is) in
      record {
        reached = omega (arith, (kth_exists k (map f is) lo (omega (arith, long))).reached, tally-map (le_z m) f is);
        highest = λ r h. reaches_kth k (map f is) r lo (omega (arith, long)) (omega (arith, h, tally-map (le_z r) f is));
      }

  greatest : (φ : Formula) → Formed zone φ → (t : ℕ) → Greatest (HoldsBy mark zone φ x t) (margin mark zone φ x t)
  unfolding margin
  greatest (head_test h s l) ok t = record { reached = omega (arith, ints); highest = λ r e. e }
  greatest (zone_test k s l) ok t = kth_greatest k (λ h. test mark s l (x t h)) zone ok.0 ok.1
  greatest (complement φ) ok t = record { reached = omega (arith, ints); highest = λ r e. omega (arith, ints, e) }
  greatest (either φ ψ) ok t =
      let m = margin mark zone φ x t in
      let n = margin mark zone ψ x t in
      record {
        reached = by_lt_z m n (λ l. inr (omega (arith, ints, clamps))) (λ l. inl (omega (arith, ints, clamps)));
        highest = λ r e. ⊎_elim (λ h. omega (arith, ints, clamps)) (λ h. omega (arith, ints, clamps)) e;
      }
  greatest (both φ ψ) ok t =
      let m = margin mark zone φ x t in
      let n = margin mark zone ψ x t in
      record { reached = (omega (arith, ints, clamps), omega (arith, ints, clamps)); highest = λ r e. omega (arith, ints, clamps, e.0, e.1) }
  greatest (window a b p φ) ok t =
      let us = polls (t + a) (width a b) in
      let g = kth_greatest (rank p (width a b)) (λ u. margin mark zone φ x u) us (rank_first a b p ok.1) (rank_last a b p (t + a) ok.2) in
      record {
        reached = rank_enough p (width a b) _ g.reached;
        highest = λ r e. g.highest r (enough_rank p (width a b) _ e);
      }

pub meaning : (mark : ℤ → ℤ) (zone : List ℕ) (φ : Formula) → Formed zone φ → Meaning mark zone φ
meaning mark zone φ ok = record {
  greatest = λ x t. greatest mark zone x φ ok t;
  truth = λ x t. truth mark zone x φ ok t;
  local = λ t x y alike. margin_local mark zone φ ok t x y alike;
}
