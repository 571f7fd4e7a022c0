-- One entry of the walk: what the code tests, and what the definition says. Assumes nothing.
use Rattle.std.proofs.Common.{◌≡◌, ℕ, suc, ◌+◌, ◌-◌, Bool, true, false, cond, not, ◌&&◌, eqb, leb, List, [], ◌∷◌, length, get_or, IfSome, Some, None, Ok, Err, Option, Result, sym, refl, ap, ◌∙◌, subst, ap₂, ⊎_elim, add-one, arith}
use Rattle.std.proofs.lemmas.Bool.{cases_Bool, eqb-true, eq-eqb, ne_eqb, and_left}
use Rattle.entries.specs.Decode.{operation_of}
use Rattle.formulas.specs.Formula.{Formula, horizon}
use Rattle.rules.specs.Spelling.{entries}
use Rattle.rules.specs.Assemble.{blank, built, outside, alone, newest, settled, inside, judged, step, on}
use Rattle.rules.specs.Spans.{Stacked, span, newest_span, spanned, more_left}
use Rattle.entries.specs.declared.entry.Entry.{Entry}
use Rattle.entries.specs.Operations.{OperationModel, HeadTest, ZoneTest, Not, Either, Both, Window}
use Rattle.rules.specs.declared.fault.RuleFault.{RuleFault}
use Rattle.rules.specs.declared.fault.RuleFault.TheVariants.{TooManyFormulas, HorizonTooFar}
use Rattle.rules.specs.declared.line.Line.{Line}
use Rattle.rules.specs.declared.span.Span.{Span}
use Rattle.rules.proofs.Stacks.{some_entries}

-- the entries of all the formulas left
abbrev pub weight : List Formula → ℕ
weight [] = 0
weight (φ ∷ st) = entries φ + weight st

pub weighs : (t : List Line) (n : ℕ) (st : List Formula) → Stacked t n st → weight st ≡ n
weighs t n [] h = sym h
weighs t n (φ ∷ st) h = omega (arith, weighs t (n - entries φ) st h.3, h.0)

abbrev pub Heavier : ℕ → Option (List Formula) → Type 0
Heavier n o = IfSome o (λ st. weight st ≡ n + 1)

built_weighs : (op : OperationModel) (st : List Formula) → Heavier (weight st) (built op st)
built_weighs (HeadTest h s l) st = omega arith
built_weighs (ZoneTest k s l) st = omega arith
built_weighs Not [] = tt
built_weighs Not (φ ∷ st) = omega arith
built_weighs Either [] = tt
built_weighs Either (ψ ∷ []) = tt
built_weighs Either (ψ ∷ (φ ∷ st)) = omega arith
built_weighs Both [] = tt
built_weighs Both (ψ ∷ []) = tt
built_weighs Both (ψ ∷ (φ ∷ st)) = omega arith
built_weighs (Window a b p) [] = tt
built_weighs (Window a b p) (φ ∷ st) = omega arith

alone_is : (φ : Formula) (st : List Formula) (n : ℕ) → entries φ + weight st ≡ n → alone (φ ∷ st) ≡ eqb (entries φ) n
alone_is φ [] n e = sym (eq-eqb _ _ (omega arith))
alone_is φ (ψ ∷ st) n e = sym (ne_eqb _ _ (λ same. omega (arith, some_entries ψ)))

by_cases : (a b : Bool) (st : List Formula) (f g : RuleFault) → spanned (cond a (Err f) (cond b (Ok st) (Err g))) ≡ cond a (Err f) (cond b (Ok (span (newest st))) (Err g))
by_cases true b st f g = refl
by_cases false true st f g = refl
by_cases false false st f g = refl

settles : (last : Bool) (n : ℕ) (o : Option (List Formula)) (s : Span) → Heavier n o → Some s ≡ newest_span o → spanned (settled last n o) ≡ cond (last && not (eqb s.size (n + 1))) (Err (TooManyFormulas n)) (cond (leb s.horizon 4095) (Ok s) (Err (HorizonTooFar n s.horizon)))
settles last n None s w e = absurd (cc)
settles last n (Some []) s w e = absurd (cc)
settles last n (Some (φ ∷ st)) s w e =
    let same : s ≡ span φ = cc in
    rw same (rw (alone_is φ st (n + 1) w) (by_cases (last && not (eqb (entries φ) (n + 1))) (leb (horizon φ) 4095) (φ ∷ st) (TooManyFormulas n) (HorizonTooFar n (horizon φ))))

inside_ok : (n : ℕ) (o : Option ℕ) (r : Result (List Formula) RuleFault) → Ok tt ≡ inside {X = Unit {0}} n o (Ok tt) → inside n o r ≡ r
inside_ok n None r e = refl
inside_ok n (Some h) r e = absurd (cc)

-- what the code checks of the size and of the horizon
abbrev pub alone_check : ℕ → ℕ → ℕ → Result (Unit {0}) RuleFault
alone_check n size m = cond (more_left n size m) (Err (TooManyFormulas n)) (Ok tt)

abbrev pub near_check : ℕ → ℕ → Result (Unit {0}) RuleFault
near_check n h = cond (leb h 4095) (Ok tt) (Err (HorizonTooFar n h))

by_checks : (a b : Bool) (s : Span) (f g : RuleFault) → cond a (Err f) (cond b (Ok s) (Err g)) ≡ on {X = Unit {0}} (cond a (Err f) (Ok tt)) (λ u. on {X = Unit {0}} (cond b (Ok tt) (Err g)) (λ v. Ok s))
by_checks true b s f g = refl
by_checks false true s f g = refl
by_checks false false s f g = refl

-- The tests of the code at entry n: op and s are what it read, and m is the number of heads of the zone.
pub record Read (z : List ℕ) (es : List Entry) (n : ℕ) (t : List Line) (st : List Formula) (m : ℕ) (op : OperationModel) (s : Span) : Type 0 where
  pub stacked : Stacked t n st
  pub many : m ≡ length z
  pub is : Some op ≡ operation_of (get_or es n blank) m
  pub within : Ok tt ≡ inside {X = Unit {0}} n (outside z op) (Ok tt)
  pub made : Some s ≡ newest_span (built op st)

-- said with the number of entries
more_left_is : (n size m : ℕ) → (eqb (suc n) m && not (eqb size (n + 1))) ≡ more_left n size m
more_left_is n size m = ⊎_elim here past (cases_Bool (eqb (n + 1) m))
  where
    here : eqb (n + 1) m ≡ true → (eqb (suc n) m && not (eqb size (n + 1))) ≡ more_left n size m
    here e = ap₂ (λ k l. eqb k m && not (eqb size l)) (sym (add-one n)) (eqb-true _ _ e)

    past : eqb (n + 1) m ≡ false → (eqb (suc n) m && not (eqb size (n + 1))) ≡ more_left n size m
    past e = and_left _ _ (ap (λ k. eqb k m) (sym (add-one n)) ∙ e) ∙ sym (and_left _ _ e)

module _ {z : List ℕ} {es : List Entry} {n : ℕ} {t : List Line} {st : List Formula} {m : ℕ} {op : OperationModel} {s : Span} (r : Read z es n t st m op s) where
  pub decoded : operation_of (get_or es n blank) (length z) ≡ Some op
  decoded = ap (operation_of (get_or es n blank)) (sym r.many) ∙ sym r.is

  steps : spanned (step z es n st) ≡ cond (eqb (suc n) (length es) && not (eqb s.size (n + 1))) (Err (TooManyFormulas n)) (cond (leb s.horizon 4095) (Ok s) (Err (HorizonTooFar n s.horizon)))
  steps =
      ap (λ o. spanned (judged z (eqb (suc n) (length es)) n st o)) decoded
      ∙ ap spanned (inside_ok n (outside z op) (settled (eqb (suc n) (length es)) n (built op st)) r.within)
      ∙ settles (eqb (suc n) (length es)) n (built op st) s (subst (λ k. Heavier k (built op st)) (weighs t n st r.stacked) (built_weighs op st)) r.made

  checks : spanned (step z es n st) ≡ on (alone_check n s.size (length es)) (λ u. on (near_check n s.horizon) (λ v. Ok s))
  checks =
      steps
      ∙ ap (λ a. cond a (Err (TooManyFormulas n)) (cond (leb s.horizon 4095) (Ok s) (Err (HorizonTooFar n s.horizon)))) (more_left_is n s.size (length es))
      ∙ by_checks (more_left n s.size (length es)) (leb s.horizon 4095) s (TooManyFormulas n) (HorizonTooFar n s.horizon)

  -- with both checks passed, and with the one or the other failed
  pub passes : Ok tt ≡ alone_check n s.size (length es) → Ok tt ≡ near_check n s.horizon → Ok s ≡ spanned (step z es n st)
  passes alone near = ap (λ r. on r (λ v. Ok s)) near ∙ ap (λ r. on r (λ u. on (near_check n s.horizon) (λ v. Ok s))) alone ∙ sym checks

  pub leaves_more : (f : RuleFault) → Err f ≡ alone_check n s.size (length es) → Err f ≡ spanned (step z es n st)
  leaves_more f more = ap (λ r. on r (λ u. on (near_check n s.horizon) (λ v. Ok s))) more ∙ sym checks

  pub looks_far : (f : RuleFault) → Ok tt ≡ alone_check n s.size (length es) → Err f ≡ near_check n s.horizon → Err f ≡ spanned (step z es n st)
  looks_far f alone far = ap (λ r. on r (λ v. Ok s)) far ∙ ap (λ r. on r (λ u. on (near_check n s.horizon) (λ v. Ok s))) alone ∙ sym checks
