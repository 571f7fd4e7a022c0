-- What the check of a log's entries rests on. `bs` has the entries before one, the nearest first. Assumes nothing.
use Rattle.std.proofs.Common.{◌≡◌, ℕ, zero, suc, ◌+◌, ◌<◌, ◌≤◌, Bool, true, false, cond, eqb, ltb, leb, ◌⊎◌, List, [], ◌∷◌, reverse, length, get_or, take, drop, set, Some, None, Ok, Option, sym, refl, ap, ◌∙◌, inl, inr, arith}
use Rattle.std.specs.Option.{option_or}
use Rattle.std.proofs.lemmas.List.{take_more, reverse-append, at_drop_more, get_or-set_same, get_or-set_other}
use Rattle.std.proofs.lemmas.Bool.{leb-false, ltb-false, cases_eq, eq-eqb, ne_eqb, cond-false, cond-true, cases_Bool}
use Rattle.std.proofs.lemmas.Bool.Decides.{nat_tests}
use Rattle.logs.specs.declared.entries.LogEntry.{LogEntry}
use Rattle.logs.specs.declared.refusals.LogFault.{LogFault}
use Rattle.logs.specs.declared.refusals.LogFault.TheVariants.{PollOutside, HeadOutside, PollFalls, HeadTwice}
use Rattle.faults.specs.Checks.{checked}
use Rattle.records.specs.Model.{most_heads}
use Rattle.logs.specs.Log.{floor, seen, place_fault, order_fault, entry_fault, first_fault}
use Rattle.logs.specs.Lookup.{blank, Rising}
use Rattle.records.proofs.ModelLaws.{neither, no_fault, passes_by}

-- one more than the poll of the head's latest entry, 0 before its first
abbrev pub stamp : ℕ → List LogEntry → ℕ
stamp h [] = 0
stamp h (b ∷ bs) = cond (eqb b.head h) (b.poll + 1) (stamp h bs)

-- the polls never rise, going back
abbrev pub Falling : List LogEntry → Type 0
Falling [] = Unit {0}
Falling (b ∷ bs) = (floor bs ≤ b.poll) × Falling bs

unseen : (h t : ℕ) (bs : List LogEntry) → Falling bs → floor bs < t → seen h t bs ≡ false
unseen h t [] f o = refl
unseen h t (b ∷ bs) f o =
    let r = unseen h t bs f.1 (omega (arith, f.0)) in
    grind (arith, nat_tests, r)

-- the stamp tells whether the head has an entry of the latest poll
seen_stamp : (h t : ℕ) (bs : List LogEntry) → Falling bs → floor bs ≤ t → seen h t bs ≡ eqb (stamp h bs) (t + 1)
seen_stamp h t [] f o = grind (arith, nat_tests)
seen_stamp h t (b ∷ bs) f o =
    let r = seen_stamp h t bs f.1 (omega (arith, f.0)) in
    let u : floor bs < t → seen h t bs ≡ false = unseen h t bs f.1 in
    let le = f.0 in
    grind (arith, nat_tests, r, u, le)

-- so it gives the entry's own fault
stamp_tells : (i : ℕ) (twice : Bool) (bs : List LogEntry) (e : LogEntry) → Falling bs → twice ≡ eqb (stamp e.head bs) (e.poll + 1) → order_fault i (floor bs) twice e ≡ order_fault i (floor bs) (seen e.head e.poll bs) e
stamp_tells i twice bs e f is = by (cases_Bool (ltb e.poll (floor bs)))
  where
    by : (ltb e.poll (floor bs) ≡ true) ⊎ (ltb e.poll (floor bs) ≡ false) → order_fault i (floor bs) twice e ≡ order_fault i (floor bs) (seen e.head e.poll bs) e
    by (inl falls) = cond-true _ _ _ falls ∙ sym (cond-true _ _ _ falls)
    by (inr holds) = ap (λ b. order_fault i (floor bs) b e) (is ∙ sym (seen_stamp e.head e.poll bs f (ltb-false e.poll (floor bs) holds)))

pub before_more : (es : List LogEntry) (i : ℕ) → i < length es → reverse (take (i + 1) es) ≡ get_or es i blank ∷ reverse (take i es)
before_more es i lt = ap reverse (take_more es i blank lt) ∙ reverse-append (take i es) (get_or es i blank ∷ [])

-- the fault of the entries from i on
abbrev pub fault_from : ℕ → ℕ → List LogEntry → ℕ → Option LogFault
fault_from heads polls es i = first_fault heads polls i (reverse (take i es)) (drop i es)

module _ (heads polls : ℕ) (es : List LogEntry) (i : ℕ) (lt : i < length es) where
  pub fault_on : entry_fault heads polls i (reverse (take i es)) (get_or es i blank) ≡ None → fault_from heads polls es i ≡ fault_from heads polls es (i + 1)
  fault_on ok =
      at_drop_more (first_fault heads polls i (reverse (take i es))) es i blank lt
      ∙ ap (λ o. option_or o (first_fault heads polls (i + 1) (get_or es i blank ∷ reverse (take i es)) (drop (i + 1) es))) ok
      ∙ ap (λ bs. first_fault heads polls (i + 1) bs (drop (i + 1) es)) (sym (before_more es i lt))

  pub fault_here : (f : LogFault) → entry_fault heads polls i (reverse (take i es)) (get_or es i blank) ≡ Some f → fault_from heads polls es i ≡ Some f
  fault_here f is =
      at_drop_more (first_fault heads polls i (reverse (take i es))) es i blank lt
      ∙ ap (λ o. option_or o (first_fault heads polls (i + 1) (get_or es i blank ∷ reverse (take i es)) (drop (i + 1) es))) is

-- an entry's fault by its parts
module _ (heads polls i : ℕ) (bs : List LogEntry) (e : LogEntry) where
  pub by_order : (twice : Bool) (before : ℕ) → before ≡ floor bs → Falling bs → twice ≡ eqb (stamp e.head bs) (e.poll + 1) → Ok tt ≡ checked (place_fault heads polls i e) → entry_fault heads polls i bs e ≡ order_fault i before twice e
  by_order twice before at f is ok =
      ap (λ o. option_or o (order_fault i (floor bs) (seen e.head e.poll bs) e)) (no_fault _ ok)
      ∙ sym (stamp_tells i twice bs e f is)
      ∙ ap (λ n. order_fault i n twice e) (sym at)

-- the stamps after one entry more
pub stamped : (ss : List ℕ) (bs : List LogEntry) (e : LogEntry) → length ss ≡ most_heads → e.head < most_heads → ((h : ℕ) → h < most_heads → get_or ss h 0 ≡ stamp h bs) → (h : ℕ) → h < most_heads → get_or (set ss e.head (e.poll + 1)) h 0 ≡ stamp h (e ∷ bs)
stamped ss bs e len lt all h o = by (cases_eq h e.head)
  where
    by : (h ≡ e.head) ⊎ (h ≡ e.head → ⊥) → get_or (set ss e.head (e.poll + 1)) h 0 ≡ stamp h (e ∷ bs)
    by (inl is) =
        ap (λ k. get_or (set ss e.head (e.poll + 1)) k 0) is
        ∙ get_or-set_same ss e.head (e.poll + 1) 0 (omega arith)
        ∙ sym (cond-true _ _ _ (eq-eqb _ _ (sym is)))
    by (inr ne) =
        get_or-set_other ss e.head h (e.poll + 1) 0 ne
        ∙ all h o
        ∙ sym (cond-false _ _ _ (ne_eqb _ _ (λ q. ne (sym q))))

-- what an entry without fault keeps
module _ (heads polls i : ℕ) (e : LogEntry) where
  pub in_place : place_fault heads polls i e ≡ None → (e.poll < polls) × (e.head < heads)
  in_place ok =
      let p = passes_by (leb polls e.poll) (PollOutside i e.poll polls) (cond (leb heads e.head) (Some (HeadOutside i e.head heads)) None) ok in
      (leb-false polls e.poll p.0, leb-false heads e.head (passes_by (leb heads e.head) (HeadOutside i e.head heads) None p.1).0)

  pub in_order : (before : ℕ) (twice : Bool) → order_fault i before twice e ≡ None → (before ≤ e.poll) × (twice ≡ false)
  in_order before twice ok =
      let p = passes_by (ltb e.poll before) (PollFalls i e.poll before) (cond twice (Some (HeadTwice i e.head e.poll)) None) ok in
      (ltb-false e.poll before p.0, (passes_by twice (HeadTwice i e.head e.poll) None p.1).0)

module _ (heads polls i : ℕ) (bs : List LogEntry) (e : LogEntry) (ok : entry_fault heads polls i bs e ≡ None) where
  parts : (place_fault heads polls i e ≡ None) × (order_fault i (floor bs) (seen e.head e.poll bs) e ≡ None)
  parts = neither (place_fault heads polls i e) (order_fault i (floor bs) (seen e.head e.poll bs) e) ok

  pub placed : (e.poll < polls) × (e.head < heads)
  placed = in_place heads polls i e parts.0

  pub holds_up : floor bs ≤ e.poll
  holds_up = (in_order heads polls i e (floor bs) (seen e.head e.poll bs) parts.1).0

  pub not_twice : seen e.head e.poll bs ≡ false
  not_twice = (in_order heads polls i e (floor bs) (seen e.head e.poll bs) parts.1).1

-- Of entries with no fault the polls never fall, and each lies in the record.

pub clear_first : (heads polls n : ℕ) (bs : List LogEntry) (e : LogEntry) (es : List LogEntry) → first_fault heads polls n bs (e ∷ es) ≡ None → (entry_fault heads polls n bs e ≡ None) × (first_fault heads polls (n + 1) (e ∷ bs) es ≡ None)
clear_first heads polls n bs e es ok = neither (entry_fault heads polls n bs e) (first_fault heads polls (n + 1) (e ∷ bs) es) ok

above : (heads polls n : ℕ) (bs es : List LogEntry) → first_fault heads polls n bs es ≡ None → (j : ℕ) → j < length es → floor bs ≤ (get_or es j blank).poll
above heads polls n bs [] ok j lt = absurd (omega arith)
above heads polls n bs (e ∷ es) ok zero lt = holds_up heads polls n bs e (clear_first heads polls n bs e es ok).0
above heads polls n bs (e ∷ es) ok (suc j) lt =
    let p = clear_first heads polls n bs e es ok in
    omega (arith, holds_up heads polls n bs e p.0, above heads polls (n + 1) (e ∷ bs) es p.1 j (omega arith))

pub rises : (heads polls n : ℕ) (bs es : List LogEntry) → first_fault heads polls n bs es ≡ None → Rising es
rises heads polls n bs [] ok i j le lt = absurd (omega arith)
rises heads polls n bs (e ∷ es) ok zero zero le lt = omega arith
rises heads polls n bs (e ∷ es) ok zero (suc j) le lt = above heads polls (n + 1) (e ∷ bs) es (clear_first heads polls n bs e es ok).1 j (omega arith)
rises heads polls n bs (e ∷ es) ok (suc i) zero le lt = absurd (omega arith)
rises heads polls n bs (e ∷ es) ok (suc i) (suc j) le lt =
    rises heads polls (n + 1) (e ∷ bs) es (clear_first heads polls n bs e es ok).1 i j (omega arith) (omega arith)

pub all_placed : (heads polls n : ℕ) (bs es : List LogEntry) → first_fault heads polls n bs es ≡ None → (i : ℕ) → i < length es → ((get_or es i blank).poll < polls) × ((get_or es i blank).head < heads)
all_placed heads polls n bs [] ok i lt = absurd (omega arith)
all_placed heads polls n bs (e ∷ es) ok zero lt = placed heads polls n bs e (clear_first heads polls n bs e es ok).0
all_placed heads polls n bs (e ∷ es) ok (suc i) lt = all_placed heads polls (n + 1) (e ∷ bs) es (clear_first heads polls n bs e es ok).1 i (omega arith)
