-- One answer more in a summary. Assumes nothing.
use Rattle.std.proofs.Common.{◌≡◌, ℕ, zero, suc, ◌+◌, ◌-◌, ◌<◌, ◌≤◌, Bool, true, false, cond, ltb, nat_abs, sym, refl, ap, ◌∙◌, subst, ⊎_elim, arith}
use mir.Val.{bool_byte}
use Rattle.std.proofs.lemmas.Bool.{ltb-true, ltb-false, cases_eq}
use Rattle.desk.specs.Summaries.{yes_of, size_at, IsNearest, Summarizes}
use Rattle.desk.specs.declared.answered.Answered.{Answered}
use Rattle.desk.specs.declared.outcome.Summary.{Summary}

yes_few : (answers : ℕ → Answered) (n : ℕ) → yes_of answers n ≤ n
yes_few answers zero = omega arith
yes_few answers (suc n) = by (answers n).yes (yes_few answers n)
  where
    by : (b : Bool) → yes_of answers n ≤ n → yes_of answers n + cond b 1 0 ≤ suc n
    by true h = omega arith
    by false h = omega arith

pub byte_is : (b : Bool) → bool_byte b ≡ cond b 1 0
byte_is true = refl
byte_is false = refl

pub one_at_most : (b : Bool) → cond b 1 0 ≤ 1
one_at_most true = omega arith
one_at_most false = omega arith

module _ (answers : ℕ → Answered) where
  nearest_next : (n : ℕ) (a next : Answered) → next ≡ answers n → IsNearest answers n a → nat_abs next.margin < nat_abs a.margin → IsNearest answers (n + 1) next
  nearest_next n a next e near lt =
      let size : nat_abs a.margin ≡ size_at answers near.poll = ap (λ (x : Answered). nat_abs x.margin) near.is in
      let own : nat_abs next.margin ≡ size_at answers n = ap (λ (x : Answered). nat_abs x.margin) e in
      record {
        poll = n;
        within = omega arith;
        is = e;
        least = λ t h. ⊎_elim (λ (q : t ≡ n). subst (λ k. size_at answers n ≤ size_at answers k) (sym q) (omega arith)) (λ (q : t ≡ n → ⊥). let below = near.least t (omega arith) in omega arith) (cases_eq t n);
        first = λ t h. let below = near.least t h in omega arith;
      }

  nearest_stays : (n : ℕ) (a next : Answered) → next ≡ answers n → IsNearest answers n a → nat_abs a.margin ≤ nat_abs next.margin → IsNearest answers (n + 1) a
  nearest_stays n a next e near le =
      let size : nat_abs a.margin ≡ size_at answers near.poll = ap (λ (x : Answered). nat_abs x.margin) near.is in
      let own : nat_abs next.margin ≡ size_at answers n = ap (λ (x : Answered). nat_abs x.margin) e in
      let within = near.within in
      record {
        poll = near.poll;
        within = omega arith;
        is = near.is;
        least = λ t h. ⊎_elim (λ (q : t ≡ n). subst (λ k. size_at answers near.poll ≤ size_at answers k) (sym q) (omega arith)) (λ (q : t ≡ n → ⊥). near.least t (omega arith)) (cases_eq t n);
        first = near.first;
      }

  module _ (n : ℕ) (few : n < 16777216) (s : Summary) (next : Answered) (e : next ≡ answers n) (old : Summarizes answers n s) where
    pub room : (s.polls < 16777216) × (s.yes < 16777217)
    room = let p = old.polls in let y = old.yes in let k = yes_few answers n in (omega arith, omega arith)

    pub more_summary : (s' : Summary) → s'.polls ≡ s.polls + 1 → s'.yes ≡ s.yes + cond next.yes 1 0 → s'.latest ≡ next → IsNearest answers (n + 1) s'.nearest → Summarizes answers (n + 1) s'
    more_summary s' polls counted latest nearest =
        let more : suc n ≡ n + 1 = omega arith in
        let before : n + 1 - 1 ≡ n = omega arith in
        record {
          polls = polls ∙ ap (λ k. k + 1) old.polls;
          yes = counted ∙ ap (λ k. k + cond next.yes 1 0) old.yes ∙ ap (λ (x : Answered). yes_of answers n + cond x.yes 1 0) e ∙ ap (yes_of answers) more;
          latest = latest ∙ e ∙ ap answers (sym before);
          nearest = nearest;
        }

    pub nearest_more : (b : Bool) (a : Answered) → b ≡ ltb (nat_abs next.margin) (nat_abs s.nearest.margin) → a ≡ cond b next s.nearest → IsNearest answers (n + 1) a
    nearest_more true a eb ea = subst (IsNearest answers (n + 1)) (sym ea) (nearest_next n s.nearest next e old.nearest (ltb-true _ _ (sym eb)))
    nearest_more false a eb ea = subst (IsNearest answers (n + 1)) (sym ea) (nearest_stays n s.nearest next e old.nearest (ltb-false _ _ (sym eb)))
