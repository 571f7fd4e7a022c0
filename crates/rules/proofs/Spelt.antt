-- What a list that assembles spells, and the operands of each entry. Assumes nothing.
use Rattle.std.proofs.Common.{◌≡◌, ℕ, zero, suc, ◌-◌, ◌<◌, ◌≤◌, Bool, true, false, cond, not, ◌&&◌, leb, List, [], ◌∷◌, ◌++◌, map, length, get_or, take, IfSome, Some, None, Ok, Err, Option, Result, sym, refl, ap, ◌∙◌, subst, ap₂, append_assoc, add-one, arith}
use Rattle.std.proofs.lemmas.List.{take_more, take_all, map_push}
use Rattle.std.proofs.lemmas.Bool.{eq-eqb}
use Rattle.entries.specs.Decode.{operation_of}
use Rattle.formulas.specs.Formula.{Formula, horizon}
use Rattle.rules.specs.Spelling.{entries, spelled}
use Rattle.rules.specs.Assemble.{blank, built, newest, alone, outside, settled, inside, judged, step, on, stack}
use Rattle.rules.specs.Spans.{formula_at}
use Rattle.rules.specs.Parts.{Operands}
use Rattle.entries.specs.declared.entry.Entry.{Entry}
use Rattle.entries.specs.Operations.{OperationModel, HeadTest, ZoneTest, Not, Either, Both, Window}
use Rattle.rules.specs.declared.fault.RuleFault.{RuleFault}
use Rattle.rules.specs.declared.fault.RuleFault.TheVariants.{TooManyFormulas, HorizonTooFar}
use Rattle.rules.proofs.Unwind.{last_entry, unwind}
use Rattle.rules.proofs.Reading.{front, formula_is}

-- the operations of the entries
abbrev pub decoded : List ℕ → List Entry → List (Option OperationModel)
decoded z es = map (λ e. operation_of e (length z)) es

-- the formulas left, the oldest first
abbrev all_spelled : List Formula → List OperationModel
all_spelled [] = []
all_spelled (φ ∷ st) = all_spelled st ++ spelled φ

built_spelled : (op : OperationModel) (st : List Formula) → IfSome (built op st) (λ s. all_spelled s ≡ all_spelled st ++ op ∷ [])
built_spelled (HeadTest h s l) st = refl
built_spelled (ZoneTest k s l) st = refl
built_spelled Not [] = tt
built_spelled Not (φ ∷ st) = simp append_assoc
built_spelled Either [] = tt
built_spelled Either (ψ ∷ []) = tt
built_spelled Either (ψ ∷ (φ ∷ st)) = simp append_assoc
built_spelled Both [] = tt
built_spelled Both (ψ ∷ []) = tt
built_spelled Both (ψ ∷ (φ ∷ st)) = simp append_assoc
built_spelled (Window a b p) [] = tt
built_spelled (Window a b p) (φ ∷ st) = simp append_assoc

module _ (z : List ℕ) (es : List Entry) where
  spells_front : (n : ℕ) (st : List Formula) → n ≤ length es → stack z es n ≡ Ok st → decoded z (take n es) ≡ map Some (all_spelled st)
  unfolding stack
  spells_front zero [] le e = refl
  spells_front zero (φ ∷ st) le e = absurd (cc)
  spells_front (suc n) st le e =
      let l = last_entry z es n st e in
      let same : all_spelled st ≡ all_spelled l.before ++ l.op ∷ [] = subst (λ o. IfSome o (λ s. all_spelled s ≡ all_spelled l.before ++ l.op ∷ [])) l.makes (built_spelled l.op l.before) in
      let more : take (suc n) es ≡ take n es ++ get_or es n blank ∷ [] = ap (λ k. take k es) (sym (add-one n)) ∙ take_more es n blank le in
      ap (decoded z) more
      ∙ map_push (λ x. operation_of x (length z)) (take n es) (get_or es n blank)
      ∙ ap₂ (λ (xs : List (Option OperationModel)) (o : Option OperationModel). xs ++ o ∷ []) (spells_front n l.before (omega arith) l.after) l.is
      ∙ sym (map_push Some (all_spelled l.before) l.op)
      ∙ ap (map Some) (sym same)

  top_is : (n : ℕ) (φ : Formula) (st : List Formula) → stack z es n ≡ Ok (φ ∷ st) → (0 < n) × (formula_at z es (n - 1) ≡ φ)
  unfolding stack
  top_is zero φ st e = absurd (cc)
  top_is (suc n) φ st e = let back : suc n - 1 ≡ n = omega arith in (omega arith, ap (formula_at z es) back ∙ formula_is z es n (φ ∷ st) e)

  built_operands : (i : ℕ) (op : OperationModel) (st : List Formula) → stack z es i ≡ Ok st → IfSome (built op st) (λ s. Operands (formula_at z es) i (newest s))
  built_operands i (HeadTest h s l) st e = tt
  built_operands i (ZoneTest k s l) st e = tt
  built_operands i Not [] e = tt
  built_operands i Not (φ ∷ st) e = top_is i φ st e
  built_operands i Either [] e = tt
  built_operands i Either (ψ ∷ []) e = tt
  built_operands i Either (ψ ∷ (φ ∷ st)) e =
      let right = top_is i ψ (φ ∷ st) e in
      let left = top_is (i - entries ψ) φ st (unwind z es i ψ (φ ∷ st) e) in
      let at : i - 1 - entries ψ ≡ i - entries ψ - 1 = omega arith in
      (omega (arith, left.0), right.1, ap (formula_at z es) at ∙ left.1)
  built_operands i Both [] e = tt
  built_operands i Both (ψ ∷ []) e = tt
  built_operands i Both (ψ ∷ (φ ∷ st)) e =
      let right = top_is i ψ (φ ∷ st) e in
      let left = top_is (i - entries ψ) φ st (unwind z es i ψ (φ ∷ st) e) in
      let at : i - 1 - entries ψ ≡ i - entries ψ - 1 = omega arith in
      (omega (arith, left.0), right.1, ap (formula_at z es) at ∙ left.1)
  built_operands i (Window a b p) [] e = tt
  built_operands i (Window a b p) (φ ∷ st) e = top_is i φ st e

  pub operands : (st : List Formula) (i : ℕ) → stack z es (length es) ≡ Ok st → i < length es → Operands (formula_at z es) i (formula_at z es i)
  operands st i e lt =
      let now = front z es (length es) (suc i) st lt e in
      let l = last_entry z es i now.0 now.1 in
      subst (Operands (formula_at z es) i) (sym (formula_is z es i now.0 now.1))
      (subst (λ o. IfSome o (λ s. Operands (formula_at z es) i (newest s))) l.makes (built_operands i l.op l.before l.after))

-- the last entry leaves one formula
conds_alone : (a b : Bool) (s st : List Formula) (f g : RuleFault) → a ≡ alone s → cond (true && not a) (Err f) (cond b (Ok s) (Err g)) ≡ Ok st → alone st ≡ true
conds_alone false b s st f g is e = absurd (cc)
conds_alone true false s st f g is e = absurd (cc)
conds_alone true true s st f g is e = let same : s ≡ st = cc in ap alone (sym same) ∙ sym is

settled_alone : (n : ℕ) (o : Option (List Formula)) (st : List Formula) → settled true n o ≡ Ok st → alone st ≡ true
settled_alone n None st e = absurd (cc)
settled_alone n (Some s) st e = conds_alone (alone s) (leb (horizon (newest s)) 4095) s st (TooManyFormulas n) (HorizonTooFar n (horizon (newest s))) refl e

inside_alone : (h : Option ℕ) (n : ℕ) (o : Option (List Formula)) (st : List Formula) → inside n h (settled true n o) ≡ Ok st → alone st ≡ true
inside_alone None n o st e = settled_alone n o st e
inside_alone (Some h) n o st e = absurd (cc)

judged_alone : (z : List ℕ) (n : ℕ) (s : List Formula) (o : Option OperationModel) (st : List Formula) → judged z true n s o ≡ Ok st → alone st ≡ true
judged_alone z n s None st e = absurd (cc)
judged_alone z n s (Some op) st e = inside_alone (outside z op) n (built op s) st e

only : (st : List Formula) → alone st ≡ true → all_spelled st ≡ spelled (newest st)
only [] e = absurd (cc)
only (φ ∷ []) e = refl
only (φ ∷ (ψ ∷ st)) e = absurd (cc)

module _ (z : List ℕ) (es : List Entry) where
  pub ends_alone : (n : ℕ) (st : List Formula) → suc n ≡ length es → stack z es (suc n) ≡ Ok st → alone st ≡ true
  unfolding stack
  ends_alone n st len e = go (stack z es n) e
    where
      go : (r : Result (List Formula) RuleFault) → on r (step z es n) ≡ Ok st → alone st ≡ true
      go (Err f) e = absurd (cc)
      go (Ok s) e = judged_alone z n s (operation_of (get_or es n blank) (length z)) st (ap (λ b. judged z b n s (operation_of (get_or es n blank) (length z))) (sym (eq-eqb (suc n) (length es) len)) ∙ e)

  pub spells : (st : List Formula) → 0 < length es → stack z es (length es) ≡ Ok st → decoded z es ≡ map Some (spelled (newest st))
  spells st some e =
      let n = length es - 1 in
      let len : suc n ≡ length es = omega arith in
      let one = ends_alone n st len (ap (stack z es) len ∙ e) in
      ap (decoded z) (sym (take_all (length es) es (omega arith))) ∙ spells_front z es (length es) st (omega arith) e ∙ ap (map Some) (only st one)
