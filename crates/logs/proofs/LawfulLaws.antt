-- A log passes its check exactly if it is lawful, and then tells what its entries say. Assumes nothing.
use Rattle.std.proofs.Common.{◌≡◌, ℕ, zero, suc, ◌+◌, ◌<◌, ◌≤◌, true, false, cond, ◌&&◌, ◌||◌, eqb, ltb, leb, ◌⊎◌, List, [], ◌∷◌, length, get_or, is_ok, Some, None, Decides, Option, Result, sym, refl, ap, ◌∙◌, subst, inl, inr, arith}
use Rattle.std.specs.Option.{option_or, option_map}
use Rattle.std.proofs.lemmas.Bool.{leb-true, eqb-true, eq-eqb, le-leb, lt-leb, le-ltb, and_parts, and_from, or_parts, cond-false, cond-true, cases_Bool, cases_order, both_ways}
use Rattle.std.proofs.lemmas.Bool.Decides.{nat_tests}
use Rattle.faults.specs.Checks.{checked}
use Rattle.logs.specs.declared.entries.LogEntry.{LogEntry}
use Rattle.logs.specs.declared.refusals.LogFault.{LogFault}
use Rattle.logs.specs.declared.refusals.LogFault.TheVariants.{Record}
use Rattle.records.specs.Model.{most_heads, most_polls}
use Rattle.records.specs.Limits.{numbers_fault}
use Rattle.logs.specs.Log.{floor, seen, order_fault, entry_fault, first_fault, log_fault, log_record, says, tells_of, latest_entry}
use Rattle.logs.specs.Lookup.{blank, Rising}
use Rattle.logs.specs.Lawful.{LawfulLog, Latest, Told}
use Rattle.records.proofs.ModelLaws.{neither, numbers_fit, at_within}
use Rattle.logs.proofs.LogLaws.{not_carried}
use Rattle.logs.proofs.OrderLaws.{not_twice, clear_first, rises, all_placed}

-- Entries with no fault are lawful.

unseen : (heads polls n : ℕ) (bs es : List LogEntry) → first_fault heads polls n bs es ≡ None → (j : ℕ) → j < length es → seen (get_or es j blank).head (get_or es j blank).poll bs ≡ false
unseen heads polls n bs [] ok j lt = absurd (omega arith)
unseen heads polls n bs (e ∷ es) ok zero lt = not_twice heads polls n bs e (clear_first heads polls n bs e es ok).0
unseen heads polls n bs (e ∷ es) ok (suc j) lt =
    (or_parts (eqb e.head (get_or es j blank).head && eqb e.poll (get_or es j blank).poll) (seen (get_or es j blank).head (get_or es j blank).poll bs)
    (unseen heads polls (n + 1) (e ∷ bs) es (clear_first heads polls n bs e es ok).1 j (omega arith))).1

apart : (heads polls n : ℕ) (bs es : List LogEntry) → first_fault heads polls n bs es ≡ None → (i j : ℕ) → i < j → j < length es → (get_or es i blank).poll ≡ (get_or es j blank).poll → (get_or es i blank).head ≡ (get_or es j blank).head → ⊥
apart heads polls n bs [] ok i j lt within p q = omega arith
apart heads polls n bs (e ∷ es) ok i zero lt within p q = omega arith
apart heads polls n bs (e ∷ es) ok zero (suc j) lt within p q =
    let d = get_or es j blank in
    let r = (or_parts (eqb e.head d.head && eqb e.poll d.poll) (seen d.head d.poll bs) (unseen heads polls (n + 1) (e ∷ bs) es (clear_first heads polls n bs e es ok).1 j (omega arith))).0 in
    both_ways _ r (and_from _ _ (eq-eqb _ _ q) (eq-eqb _ _ p))
apart heads polls n bs (e ∷ es) ok (suc i) (suc j) lt within p q =
    apart heads polls (n + 1) (e ∷ bs) es (clear_first heads polls n bs e es ok).1 i j (omega arith) (omega arith) p q

-- Lawful entries have no fault.

clear_entry : (heads polls n : ℕ) (bs : List LogEntry) (e : LogEntry) → e.poll < polls → e.head < heads → floor bs ≤ e.poll → seen e.head e.poll bs ≡ false → entry_fault heads polls n bs e ≡ None
clear_entry heads polls n bs e a b c d =
    ap (λ o. option_or o (order_fault n (floor bs) (seen e.head e.poll bs) e)) (cond-false _ _ _ (lt-leb _ _ a) ∙ cond-false _ _ _ (lt-leb _ _ b))
    ∙ cond-false _ _ _ (le-ltb _ _ c)
    ∙ cond-false _ _ _ d

clear : (heads polls n : ℕ) (bs es : List LogEntry)
    → ((i : ℕ) → i < length es → (get_or es i blank).poll < polls)
    → ((i : ℕ) → i < length es → (get_or es i blank).head < heads)
    → Rising es
    → ((i j : ℕ) → i < j → j < length es → (get_or es i blank).poll ≡ (get_or es j blank).poll → (get_or es i blank).head ≡ (get_or es j blank).head → ⊥)
    → ((j : ℕ) → j < length es → floor bs ≤ (get_or es j blank).poll)
    → ((j : ℕ) → j < length es → seen (get_or es j blank).head (get_or es j blank).poll bs ≡ false)
    → first_fault heads polls n bs es ≡ None
clear heads polls n bs [] a b r o f u = refl
clear heads polls n bs (e ∷ es) a b r o f u =
    ap (λ x. option_or x (first_fault heads polls (n + 1) (e ∷ bs) es)) (clear_entry heads polls n bs e (a 0 (omega arith)) (b 0 (omega arith)) (f 0 (omega arith)) (u 0 (omega arith)))
    ∙ clear heads polls (n + 1) (e ∷ bs) es
    (λ i lt. a (suc i) (omega arith))
    (λ i lt. b (suc i) (omega arith))
    (λ i j le lt. r (suc i) (suc j) (omega arith) (omega arith))
    (λ i j lt within. o (suc i) (suc j) (omega arith) (omega arith))
    (λ j lt. r 0 (suc j) (omega arith) (omega arith))
    (λ j lt. new j lt (u (suc j) (omega arith)) (o 0 (suc j) (omega arith) (omega arith)))
  where
    new : (j : ℕ) → j < length es → seen (get_or es j blank).head (get_or es j blank).poll bs ≡ false → (e.poll ≡ (get_or es j blank).poll → e.head ≡ (get_or es j blank).head → ⊥) → seen (get_or es j blank).head (get_or es j blank).poll (e ∷ bs) ≡ false
    new j lt old ne = grind (arith, nat_tests)

numbers_clear : (heads polls : ℕ) → 0 < heads → heads ≤ most_heads → polls ≤ most_polls → numbers_fault heads polls ≡ None
numbers_clear heads polls a b c =
    let x : (eqb heads 0 || ltb most_heads heads) ≡ false = grind (arith, nat_tests) in
    cond-false _ _ _ x ∙ cond-false _ _ _ (le-ltb _ _ c)

ok_none : (o : Option LogFault) → is_ok (checked o) ≡ true → o ≡ None
ok_none None e = refl
ok_none (Some f) e = cc

lawful_none : (heads polls : ℕ) (es : List LogEntry) → LawfulLog heads polls es → log_fault heads polls es ≡ None
lawful_none heads polls es l =
    ap (λ o. option_or (option_map Record o) (first_fault heads polls 0 [] es)) (numbers_clear heads polls l.some_head l.few_heads l.few_polls)
    ∙ clear heads polls 0 [] es l.polls_below l.heads_below l.rising l.once (λ j lt. omega arith) (λ j lt. refl)

none_lawful : (heads polls : ℕ) (es : List LogEntry) → log_fault heads polls es ≡ None → LawfulLog heads polls es
none_lawful heads polls es e =
    let p = neither (option_map Record (numbers_fault heads polls)) (first_fault heads polls 0 [] es) e in
    let fit = numbers_fit heads polls (not_carried (numbers_fault heads polls) p.0) in
    record {
      some_head = fit.0;
      few_heads = fit.1;
      few_polls = fit.2;
      polls_below = λ i lt. (all_placed heads polls 0 [] es p.1 i lt).0;
      heads_below = λ i lt. (all_placed heads polls 0 [] es p.1 i lt).1;
      rising = rises heads polls 0 [] es p.1;
      once = apart heads polls 0 [] es p.1;
    }

decides_lawful : (heads polls : ℕ) (es : List LogEntry) → Decides (is_ok (checked (log_fault heads polls es))) (LawfulLog heads polls es)
decides_lawful heads polls es =
    ((λ e. none_lawful heads polls es (ok_none _ e)), (λ l. ap (λ o. is_ok (checked o)) (lawful_none heads polls es l)))

pub decides_result : (heads polls : ℕ) (es : List LogEntry) (r : Result (Unit {0}) LogFault) → r ≡ checked (log_fault heads polls es) → Decides (is_ok r) (LawfulLog heads polls es)
decides_result heads polls es r is = let P : Result (Unit {0}) LogFault → Type 0 = λ x. Decides (is_ok x) (LawfulLog heads polls es) in subst P (sym is) (decides_lawful heads polls es)

-- What the latest entry is: the last of the list that tells of the head at the poll.

abbrev Silent : ℕ → ℕ → List LogEntry → Type 0
Silent h t es = (latest_entry h t es ≡ None) × ((j : ℕ) → j < length es → tells_of h t (get_or es j blank) ≡ false)

abbrev Speaks : ℕ → ℕ → List LogEntry → Type 0
Speaks h t es = (k : ℕ) × (k < length es) × (latest_entry h t es ≡ Some (get_or es k blank)) × (tells_of h t (get_or es k blank) ≡ true) × ((j : ℕ) → k < j → j < length es → tells_of h t (get_or es j blank) ≡ false)

last_of : (h t : ℕ) (es : List LogEntry) → Silent h t es ⊎ Speaks h t es
last_of h t [] = inl (refl, λ j lt. absurd (omega arith))
last_of h t (e ∷ es) = by (last_of h t es) (cases_Bool (tells_of h t e))
  where
    by : Silent h t es ⊎ Speaks h t es → (tells_of h t e ≡ true) ⊎ (tells_of h t e ≡ false) → Silent h t (e ∷ es) ⊎ Speaks h t (e ∷ es)
    by (inl s) (inl yes') = inr (0, omega arith, ap (λ o. option_or o (cond (tells_of h t e) (Some e) None)) s.0 ∙ cond-true _ _ _ yes', yes', later)
      where
        later : (j : ℕ) → 0 < j → j < length (e ∷ es) → tells_of h t (get_or (e ∷ es) j blank) ≡ false
        later zero lo lt = absurd (omega arith)
        later (suc j) lo lt = s.1 j (omega arith)
    by (inl s) (inr no') = inl (ap (λ o. option_or o (cond (tells_of h t e) (Some e) None)) s.0 ∙ cond-false _ _ _ no', all)
      where
        all : (j : ℕ) → j < length (e ∷ es) → tells_of h t (get_or (e ∷ es) j blank) ≡ false
        all zero lt = no'
        all (suc j) lt = s.1 j (omega arith)
    by (inr s) b = inr (suc s.0, omega (arith, s.1), ap (λ o. option_or o (cond (tells_of h t e) (Some e) None)) s.2, s.3, later)
      where
        later : (j : ℕ) → suc s.0 < j → j < length (e ∷ es) → tells_of h t (get_or (e ∷ es) j blank) ≡ false
        later zero lo lt = absurd (omega arith)
        later (suc j) lo lt = s.4 j (omega arith) (omega arith)

module _ {T : Type 0} (spelled : ℕ → T) (heads polls : ℕ) (es : List LogEntry) (standing : T) (l : LawfulLog heads polls es) where
  reads : (h t : ℕ) → h < heads → t < polls → (o : Option LogEntry) → latest_entry h t es ≡ o → (log_record spelled heads polls es standing).at h t ≡ Some (says spelled standing o)
  reads h t oh ot o is =
      at_within heads polls (λ h t. Some (says spelled standing (latest_entry h t es))) (log_fault heads polls es) h t (lawful_none heads polls es l) l.few_heads l.few_polls oh ot
      ∙ ap (λ x. Some (says spelled standing x)) is

  same_entry : (h t i k : ℕ) → Latest es h t i → k < length es → tells_of h t (get_or es k blank) ≡ true → ((j : ℕ) → k < j → j < length es → tells_of h t (get_or es j blank) ≡ false) → k ≡ i
  same_entry h t i k a lt own late = by (cases_order k i)
    where
      tells_i : tells_of h t (get_or es i blank) ≡ true
      tells_i = and_from _ _ (eq-eqb _ _ a.own) (le-leb _ _ a.early)

      by : (k ≡ i) ⊎ ((k < i) ⊎ (i < k)) → k ≡ i
      by (inl is) = is
      by (inr (inl below)) = absurd (both_ways _ (late i below a.there) tells_i)
      by (inr (inr above)) =
          let p = and_parts (eqb (get_or es k blank).head h) (leb (get_or es k blank).poll t) own in
          let head : (get_or es k blank).head ≡ h = eqb-true _ _ p.0 in
          let up = l.rising i k (omega arith) lt in
          let down = a.last k lt head (leb-true _ _ p.1) in
          absurd (l.once i k above lt (omega arith) (a.own ∙ sym head))

  pub told : Told spelled heads polls es standing (log_record spelled heads polls es standing)
  told = record { entry = at_entry; before = at_none }
    where
      at_entry : (h t i : ℕ) → h < heads → t < polls → Latest es h t i → (log_record spelled heads polls es standing).at h t ≡ Some (spelled (get_or es i blank).word)
      at_entry h t i oh ot a = by (last_of h t es)
        where
          by : Silent h t es ⊎ Speaks h t es → (log_record spelled heads polls es standing).at h t ≡ Some (spelled (get_or es i blank).word)
          by (inl s) = absurd (both_ways _ (s.1 i a.there) (and_from _ _ (eq-eqb _ _ a.own) (le-leb _ _ a.early)))
          by (inr s) = reads h t oh ot _ s.2 ∙ ap (λ k. Some (spelled (get_or es k blank).word)) (same_entry h t i s.0 a s.1 s.3 s.4)

      at_none : (h t : ℕ) → h < heads → t < polls → ((i : ℕ) → i < length es → (get_or es i blank).head ≡ h → t < (get_or es i blank).poll) → (log_record spelled heads polls es standing).at h t ≡ Some standing
      at_none h t oh ot none = by (last_of h t es)
        where
          by : Silent h t es ⊎ Speaks h t es → (log_record spelled heads polls es standing).at h t ≡ Some standing
          by (inl s) = reads h t oh ot None s.0
          by (inr s) =
              let p = and_parts (eqb (get_or es s.0 blank).head h) (leb (get_or es s.0 blank).poll t) s.3 in
              let late = none s.0 s.1 (eqb-true _ _ p.0) in
              let early = leb-true _ _ p.1 in
              absurd (omega arith)
