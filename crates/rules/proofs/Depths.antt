-- What an entry's formula keeps to within the whole: it looks and reads no further, and is in range. Assumes nothing.
use Rattle.std.proofs.Common.{◌≡◌, ℕ, zero, suc, ◌-◌, ◌<◌, ◌≤◌, max, Bool, true, false, ◌||◌, List, [], ◌∷◌, length, IfSome, Some, Ok, sym, refl, ap, ◌∙◌, subst, ⊎_elim, arith}
use mathlib.Core.Bool.{or-false}
use Rattle.std.proofs.lemmas.Bool.{cases_lt, both_ways, or_left, or_right}
use Rattle.formulas.specs.Formula.{Formula, horizon, reads}
use Rattle.entries.specs.Operations.{OperationModel, HeadTest, ZoneTest, Not, Either, Both, Window}
use Rattle.entries.specs.declared.entry.Entry.{Entry}
use Rattle.rules.specs.Assemble.{built, alone, newest, stack}
use Rattle.rules.specs.Lawful.{Ranged}
use Rattle.rules.specs.Spans.{formula_at}
use Rattle.rules.proofs.Ranges.{newest_ranged}
use Rattle.rules.proofs.Reading.{front, formula_is}
use Rattle.rules.proofs.Spelt.{ends_alone}
use Rattle.rules.proofs.Unwind.{last_entry}

-- ---- how far the formulas left look
abbrev tallest : List Formula → ℕ
tallest [] = 0
tallest (φ ∷ st) = max (horizon φ) (tallest st)

abbrev Taller : List Formula → List Formula → Type 0
Taller st s = (tallest st ≤ tallest s) × (horizon (newest s) ≤ tallest s)

built_taller : (op : OperationModel) (st : List Formula) → IfSome (built op st) (Taller st)
built_taller (HeadTest h s l) st = (omega arith, omega arith)
built_taller (ZoneTest k s l) st = (omega arith, omega arith)
built_taller Not [] = tt
built_taller Not (φ ∷ st) = (omega arith, omega arith)
built_taller Either [] = tt
built_taller Either (ψ ∷ []) = tt
built_taller Either (ψ ∷ (φ ∷ st)) = (omega arith, omega arith)
built_taller Both [] = tt
built_taller Both (ψ ∷ []) = tt
built_taller Both (ψ ∷ (φ ∷ st)) = (omega arith, omega arith)
built_taller (Window a b p) [] = tt
built_taller (Window a b p) (φ ∷ st) = (omega arith, omega arith)

alone_tallest : (st : List Formula) → alone st ≡ true → tallest st ≡ horizon (newest st)
alone_tallest [] e = absurd (cc)
alone_tallest (φ ∷ []) e = omega arith
alone_tallest (φ ∷ (ψ ∷ st)) e = absurd (cc)

-- an operation leaves a formula
never : (op : OperationModel) (st : List Formula) → built op st ≡ Some [] → ⊥
never (HeadTest h s l) st e = cc
never (ZoneTest k s l) st e = cc
never Not [] e = cc
never Not (φ ∷ st) e = cc
never Either [] e = cc
never Either (ψ ∷ []) e = cc
never Either (ψ ∷ (φ ∷ st)) e = cc
never Both [] e = cc
never Both (ψ ∷ []) e = cc
never Both (ψ ∷ (φ ∷ st)) e = cc
never (Window a b p) [] e = cc
never (Window a b p) (φ ∷ st) e = cc

module _ (z : List ℕ) (es : List Entry) where
  no_taller : (n k : ℕ) (st : List Formula) → stack z es n ≡ Ok st → k < n → horizon (formula_at z es k) ≤ tallest st
  no_taller zero k st e lt = absurd (omega arith)
  no_taller (suc n) k st e lt =
      let l = last_entry z es n st e in
      let t : Taller l.before st = subst (λ o. IfSome o (Taller l.before)) l.makes (built_taller l.op l.before) in
      ⊎_elim
      (λ (h : k < n). omega (arith, no_taller n k l.before l.after h, t.0))
      (λ (h : n ≤ k). let same : k ≡ n = omega arith in omega (arith, ap (λ j. horizon (formula_at z es j)) same, ap horizon (formula_is z es n st e), t.1))
      (cases_lt k n)

  some_newest : (n : ℕ) (st : List Formula) → stack z es (suc n) ≡ Ok st → (s : List Formula) × (stack z es (suc n) ≡ Ok (newest st ∷ s))
  some_newest n [] e = absurd (never (last_entry z es n [] e).op (last_entry z es n [] e).before (last_entry z es n [] e).makes)
  some_newest n (φ ∷ st) e = (st, e)

  pub ranged_at : (st : List Formula) (i : ℕ) → stack z es (length es) ≡ Ok st → i < length es → Ranged z (formula_at z es i)
  ranged_at st i e lt =
      let now = front z es (length es) (suc i) st lt e in
      let top = some_newest i now.0 now.1 in
      subst (Ranged z) (sym (formula_is z es i now.0 now.1)) (newest_ranged z es (suc i) (newest now.0) top.0 top.1)

  pub near_at : (st : List Formula) (i : ℕ) → stack z es (length es) ≡ Ok st → i < length es → horizon (formula_at z es i) ≤ horizon (newest st)
  near_at st i e lt =
      let n : ℕ = length es - 1 in
      let len : suc n ≡ length es = omega arith in
      let one = ends_alone z es n st len (ap (stack z es) len ∙ e) in
      omega (arith, no_taller (length es) i st e lt, alone_tallest st one)

-- ---- what an entry reads, the whole reads
abbrev any_reads : List ℕ → List Formula → ℕ → Bool
any_reads z [] h = false
any_reads z (φ ∷ st) h = reads z φ h || any_reads z st h

abbrev ReadsOn : List ℕ → ℕ → List Formula → List Formula → Type 0
ReadsOn z h st s = (any_reads z st h ≡ true → any_reads z s h ≡ true) × (reads z (newest s) h ≡ true → any_reads z s h ≡ true)

shuffle : (a b c : Bool) → (a || (b || c)) ≡ true → ((b || a) || c) ≡ true
shuffle true true c e = refl
shuffle true false c e = refl
shuffle false true c e = refl
shuffle false false c e = e

built_reads : (z : List ℕ) (h : ℕ) (op : OperationModel) (st : List Formula) → IfSome (built op st) (ReadsOn z h st)
built_reads z h (HeadTest g s l) st = (λ e. or_right _ _ e, λ e. or_left _ _ e)
built_reads z h (ZoneTest k s l) st = (λ e. or_right _ _ e, λ e. or_left _ _ e)
built_reads z h Not [] = tt
built_reads z h Not (φ ∷ st) = (λ e. e, λ e. or_left _ _ e)
built_reads z h Either [] = tt
built_reads z h Either (ψ ∷ []) = tt
built_reads z h Either (ψ ∷ (φ ∷ st)) = (λ e. shuffle (reads z ψ h) (reads z φ h) (any_reads z st h) e, λ e. or_left _ _ e)
built_reads z h Both [] = tt
built_reads z h Both (ψ ∷ []) = tt
built_reads z h Both (ψ ∷ (φ ∷ st)) = (λ e. shuffle (reads z ψ h) (reads z φ h) (any_reads z st h) e, λ e. or_left _ _ e)
built_reads z h (Window a b p) [] = tt
built_reads z h (Window a b p) (φ ∷ st) = (λ e. e, λ e. or_left _ _ e)

alone_reads : (z : List ℕ) (h : ℕ) (st : List Formula) → alone st ≡ true → any_reads z st h ≡ true → reads z (newest st) h ≡ true
alone_reads z h [] o e = absurd (both_ways _ refl o)
alone_reads z h (φ ∷ []) o e = sym (or-false (reads z φ h)) ∙ e
alone_reads z h (φ ∷ (ψ ∷ st)) o e = absurd (both_ways _ refl o)

module _ (z : List ℕ) (es : List Entry) (h : ℕ) where
  all_read : (n k : ℕ) (st : List Formula) → stack z es n ≡ Ok st → k < n → reads z (formula_at z es k) h ≡ true → any_reads z st h ≡ true
  all_read zero k st e lt r = absurd (omega arith)
  all_read (suc n) k st e lt r =
      let l = last_entry z es n st e in
      let t : ReadsOn z h l.before st = subst (λ o. IfSome o (ReadsOn z h l.before)) l.makes (built_reads z h l.op l.before) in
      ⊎_elim
      (λ (q : k < n). t.0 (all_read n k l.before l.after q r))
      (λ (q : n ≤ k). let same : k ≡ n = omega arith in t.1 (ap (λ φ. reads z φ h) (sym (formula_is z es n st e)) ∙ ap (λ j. reads z (formula_at z es j) h) (sym same) ∙ r))
      (cases_lt k n)

  pub reads_at : (st : List Formula) (i : ℕ) → stack z es (length es) ≡ Ok st → i < length es → reads z (formula_at z es i) h ≡ true → reads z (newest st) h ≡ true
  reads_at st i e lt r =
      let n : ℕ = length es - 1 in
      let len : suc n ≡ length es = omega arith in
      alone_reads z h st (ends_alone z es n st len (ap (stack z es) len ∙ e)) (all_read (length es) i st e lt r)
