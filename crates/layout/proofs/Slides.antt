-- An ordered run with the latest margins of a formula: the newest comes in, the oldest goes, the K-th is picked. Assumes nothing.
use Rattle.std.proofs.Common.{◌≡◌, ℕ, suc, ◌+◌, ◌-◌, ◌<◌, ◌≤◌, Bool, true, ◌⊎◌, List, [], ◌∷◌, ◌++◌, map, length, ℤ, Some, Option, sym, refl, ap, ◌∙◌, subst, arith}
use Rattle.std.specs.List.{between}
use Rattle.std.specs.Option.{option_map}
use Rattle.std.proofs.lemmas.List.FromFn.{map-range_with_len_more}
use Rattle.std.proofs.lemmas.List.{length-map}
use Rattle.std.proofs.lemmas.Bool.{lt-ltb}
use Rattle.formulas.specs.Margin.{polls}
use Rattle.formulas.proofs.Stretches.{length_polls}
use Rattle.runs.specs.Cells.{wholes, InOrder, PutIn, Replaced}
use Rattle.runs.specs.Highest.{hit, tally, highest, kth}
use Rattle.std.specs.Ordering.{int_eq}
use Rattle.runs.specs.Order.{copies}
use Rattle.runs.proofs.Kths.{Alike, highest_alike, highest_is, kth_exists, slides}
use Rattle.runs.proofs.Ordered.{eq_self, tally_yes}
use Rattle.runs.proofs.Tallies.{tally-append}
use Rattle.layout.specs.Cells.{Outside, latest, Run}
use Rattle.layout.proofs.Frames.{outside_between}

pub oldest : (f : ℕ → ℤ) (c w : ℕ) → 0 < w → w ≤ c → latest f c w ≡ f (c - w) ∷ latest f c (w - 1)
unfolding polls
oldest f c w some full =
    let split : w ≡ suc (w - 1) = omega arith in
    let start : (c - w) + 1 ≡ c - (w - 1) = omega arith in
    ap (λ k. map f (polls (c - w) k)) split ∙ ap (λ s. f (c - w) ∷ map f (polls s (w - 1))) start

pub newest : (f : ℕ → ℤ) (c u : ℕ) → u ≤ c → latest f (c + 1) (u + 1) ≡ latest f c u ++ (f c ∷ [])
unfolding polls
newest f c u h =
    let start : (c + 1) - (u + 1) ≡ c - u = omega arith in
    ap (λ s. map f (polls s (u + 1))) start ∙ map-range_with_len_more f (c - u) u c (omega arith)

module _ {M : Type 0} (whole : M → ℤ) (f : ℕ → ℤ) (from w : ℕ) where
  pub run_frame : (a e used c : ℕ) (xs ys : List M) → Outside a e xs ys → (from + w ≤ a) ⊎ (e ≤ from) → Run whole f from w used c xs → Run whole f from w used c ys
  run_frame a e used c xs ys o apart r =
      let same = sym (outside_between a e from (from + w) xs ys o apart) in
      record {
        order = subst (InOrder whole used) same r.order;
        alike = subst (λ l. Alike (wholes whole used l) (latest f c used)) same r.alike;
      }

  -- the same with other numbers that are equal
  pub run_same : (used used' c c' : ℕ) (xs : List M) → used ≡ used' → c ≡ c' → Run whole f from w used c xs → Run whole f from w used' c' xs
  run_same used used' c c' xs e e' r = subst (λ k. Run whole f from w used' k xs) e' (subst (λ u. Run whole f from w u c xs) e r)

  pub run_none : (c : ℕ) (xs : List M) → Run whole f from w 0 c xs
  unfolding polls
  run_none c xs = record { order = record { within = omega arith; falls = tt }; alike = λ p. refl }

  -- a full run exchanges the oldest for the newest
  pub run_exchange : (c : ℕ) (xs ys : List M) (old new : M) (found : Bool) → 0 < w → w ≤ c → whole old ≡ f (c - w) → whole new ≡ f c
      → Replaced whole w (between from (from + w) xs) (between from (from + w) ys) old new found → Run whole f from w w c xs → Run whole f from w w (c + 1) ys
  run_exchange c xs ys old new found some full is comes t r =
      let before = wholes whole w (between from (from + w) xs) in
      let mid = latest f c (w - 1) in
      let was : latest f c w ≡ whole old ∷ mid = oldest f c w some full ∙ ap (λ z. z ∷ mid) (sym is) in
      let there : 0 < copies (whole old) before = omega (arith, r.alike (int_eq (whole old)), ap (copies (whole old)) was, tally_yes (int_eq (whole old)) (whole old) mid (eq_self (whole old))) in
      let yes : found ≡ true = t.told r.order ∙ lt-ltb 0 (copies (whole old) before) there in
      let gives = t.keeps yes r.order in
      let again : mid ++ (whole new ∷ []) ≡ latest f (c + 1) w
      = ap (λ z. mid ++ (z ∷ [])) comes ∙ sym (newest f c (w - 1) (omega arith)) ∙ ap (latest f (c + 1)) (omega arith) in
      record {
        order = record { within = omega (arith, t.long, r.order.within); falls = gives.ordered };
        alike = subst (Alike (wholes whole w (between from (from + w) ys))) again
            (slides (whole old) (whole new) mid before _ (subst (Alike before) was r.alike) gives.counts);
      }

  -- a run with room takes the newest in
  pub run_take_in : (c u : ℕ) (xs ys : List M) (new : M) (put : Bool) → u < w → u ≤ c → w ≤ length (between from (from + w) xs) → whole new ≡ f c
      → PutIn whole u (between from (from + w) xs) (between from (from + w) ys) new put → Run whole f from w u c xs → Run whole f from w (u + 1) (c + 1) ys
  run_take_in c u xs ys new put room few long is q r =
      let yes : put ≡ true = q.told ∙ lt-ltb u (length (between from (from + w) xs)) (omega arith) in
      let add = q.keeps yes r.order in
      record {
        order = record { within = omega (arith, q.long); falls = add.ordered };
        alike = λ p.
            let one : hit (p (whole new)) ≡ hit (p (f c)) = ap (λ z. hit (p z)) is in
            let all : tally p (latest f (c + 1) (u + 1)) ≡ tally p (latest f c u) + tally p (f c ∷ []) = ap (tally p) (newest f c u few) ∙ tally-append p (latest f c u) (f c ∷ []) in
            omega (arith, add.counts p, one, all, r.alike p);
      }

  -- the K-th of a run
  pub run_pick : (c u k : ℕ) (xs : List M) (r : Option M) → Run whole f from w u c xs → 1 ≤ k → k ≤ u
      → (InOrder whole u (between from (from + w) xs) → option_map whole r ≡ highest k (wholes whole u (between from (from + w) xs))) → option_map whole r ≡ Some (kth k (latest f c u))
  run_pick c u k xs r run lo hi picks =
      let long : length (latest f c u) ≡ u = length-map (polls (c - u) u) f ∙ length_polls (c - u) u in
      picks run.order ∙ highest_alike k _ (latest f c u) run.alike ∙ highest_is k (latest f c u) _ (kth_exists k (latest f c u) (omega arith) (omega arith))
