-- What `highest` answers is the K-th highest in every sense of the word. Assumes nothing.
use Rattle.std.proofs.Common.{◌≡◌, ℕ, zero, suc, ◌<◌, ◌⊎◌, List, length, ℤ, Some, None, Option, sym, refl, ◌∙◌, inl, inr, ⊎_elim, arith, MatchOption}
use Rattle.std.proofs.lemmas.Bool.{cases_lt}
use Rattle.runs.specs.Highest.{Kth, highest}
use Rattle.runs.specs.Laws.{KthHighest}
use Rattle.runs.proofs.Kths.{highest_is, kth_from_highest, sorted_kth, highest_alike, alike_from_copies}
use Rattle.runs.proofs.Reaching.{kth_greatest}

none_some : {m : ℤ} → ◌≡◌ {A = Option ℤ} None (Some m) → ⊥
none_some e = let z : ◌≡◌ {A = ℕ} 0 1 = cc in omega arith

-- there is none exactly where K is 0 or above the number of numbers
cases : (k : ℕ) (ws : List ℤ) (answer : Option ℤ) → answer ≡ highest k ws → MatchOption answer ((k ≡ 0) ⊎ (length ws < k)) (Kth k ws)
cases k ws (Some m) e = kth_from_highest k ws m (sym e)
cases zero ws None e = inl refl
cases (suc k) ws None e = ⊎_elim inr (λ l. absurd (none_some (e ∙ highest_is (suc k) ws _ (sorted_kth (suc k) ws (omega arith) l)))) (cases_lt (length ws) (suc k))

pub kth_highest : (k : ℕ) (ws : List ℤ) (answer : Option ℤ) → answer ≡ highest k ws → KthHighest k ws answer
kth_highest k ws answer e = record {
  is = e;
  kth = cases k ws answer e;
  only = λ m h. e ∙ highest_is k ws m h;
  greatest = λ m s. kth_greatest k ws m (kth_from_highest k ws m (sym e ∙ s));
  counts = λ vs h. highest_alike k vs ws (alike_from_copies vs ws h) ∙ sym e;
}

pub highest_is_kth : (k : ℕ) (ws : List ℤ) → KthHighest k ws (highest k ws)
highest_is_kth k ws = kth_highest k ws (highest k ws) refl
