-- What assembles is spelled by the entries, and all its values are in range. Assumes nothing.
use Rattle.std.proofs.Common.{◌≡◌, ℕ, zero, suc, Bool, true, false, cond, eqb, List, [], ◌∷◌, ◌++◌, map, length, get_or, IfSome, Some, None, Ok, Err, Option, Result, refl, ap, subst, ⊎_elim, arith, length-append}
use Rattle.std.proofs.lemmas.Bool.{eqb-true, or_cases}
use Rattle.std.specs.List.{AllByRecursion}
use Rattle.formulas.specs.Formula.{Formula, head_test, zone_test, complement, either, both, window, among, reads}
use Rattle.entries.proofs.Decoding.{told}
use Rattle.entries.specs.Decode.{operation_of}
use Rattle.entries.specs.Operations.{OperationModel, HeadTest, ZoneTest, Not, Either, Both, Window}
use Rattle.entries.specs.Writing.{InRange}
use Rattle.entries.specs.declared.entry.Entry.{Entry}
use Rattle.rules.specs.Assemble.{blank, built, outside, inside, judged, step, on, stack}
use Rattle.rules.specs.Lawful.{Ranged}
use Rattle.rules.specs.Spelling.{entries, spelled, Written}
use Rattle.rules.specs.declared.fault.RuleFault.{RuleFault}
use Rattle.rules.proofs.Spelt.{decoded}
use Rattle.rules.proofs.Unwind.{last_entry}

-- ---- the entries write the operations down
pub written : (z : List ℕ) (es : List Entry) (os : List OperationModel) → decoded z es ≡ map Some os → Written es os
written z [] [] e = tt
written z [] (o ∷ os) e = absurd (cc)
written z (x ∷ es) [] e = absurd (cc)
written z (x ∷ es) (o ∷ os) e =
    let here : operation_of x (length z) ≡ Some o = cc in
    let rest : decoded z es ≡ map Some os = cc in
    ((told x (length z) o here).0, written z es os rest)

pub written_length : (es : List Entry) (os : List OperationModel) → Written es os → length es ≡ length os
written_length [] [] w = refl
written_length [] (o ∷ os) w = absurd w
written_length (x ∷ es) [] w = absurd w
written_length (x ∷ es) (o ∷ os) w = ap suc (written_length es os w.1)

pub spelled-length : (φ : Formula) → length (spelled φ) ≡ entries φ
spelled-length (head_test h s l) = refl
spelled-length (zone_test k s l) = refl
spelled-length (complement φ) = omega (arith, length-append (spelled φ) (Not ∷ []), spelled-length φ)
spelled-length (either φ ψ) = omega (arith, length-append (spelled φ) (spelled ψ ++ Either ∷ []), length-append (spelled ψ) (Either ∷ []), spelled-length φ, spelled-length ψ)
spelled-length (both φ ψ) = omega (arith, length-append (spelled φ) (spelled ψ ++ Both ∷ []), length-append (spelled ψ) (Both ∷ []), spelled-length φ, spelled-length ψ)
spelled-length (window a b p φ) = omega (arith, length-append (spelled φ) (Window a b p ∷ []), spelled-length φ)

-- ---- a head test's head is in the zone
inside_none : {X : Type 0} (n : ℕ) (o : Option ℕ) (r : Result X RuleFault) (x : X) → inside n o r ≡ Ok x → o ≡ None
inside_none n None r x e = refl
inside_none n (Some h) r x e = absurd (cc)

judged_within : (z : List ℕ) (last : Bool) (n : ℕ) (s : List Formula) (o : Option OperationModel) (st : List Formula) (op : OperationModel) → judged z last n s o ≡ Ok st → o ≡ Some op → outside z op ≡ None
judged_within z last n s None st op e is = absurd (cc)
judged_within z last n s (Some o) st op e is = let same : o ≡ op = cc in subst (λ p. outside z p ≡ None) same (inside_none n (outside z o) _ st e)

-- ---- the values of the formulas left are in range
among_since : (b : Bool) (h : ℕ) → cond b None (Some h) ≡ None → b ≡ true
among_since true h e = refl
among_since false h e = absurd (cc)

built_ranged : (z : List ℕ) (op : OperationModel) (st : List Formula) → InRange (length z) op → outside z op ≡ None → AllByRecursion (Ranged z) st → IfSome (built op st) (AllByRecursion (Ranged z))
built_ranged z (HeadTest h s l) st r o a = ((r, among_since (among h z) h o), a)
built_ranged z (ZoneTest k s l) st r o a = (r, a)
built_ranged z Not [] r o a = tt
built_ranged z Not (φ ∷ st) r o a = a
built_ranged z Either [] r o a = tt
built_ranged z Either (ψ ∷ []) r o a = tt
built_ranged z Either (ψ ∷ (φ ∷ st)) r o a = ((a.1.0, a.0), a.1.1)
built_ranged z Both [] r o a = tt
built_ranged z Both (ψ ∷ []) r o a = tt
built_ranged z Both (ψ ∷ (φ ∷ st)) r o a = ((a.1.0, a.0), a.1.1)
built_ranged z (Window x y p) [] r o a = tt
built_ranged z (Window x y p) (φ ∷ st) r o a = ((r, a.0), a.1)

module _ (z : List ℕ) (es : List Entry) where
  within : (n : ℕ) (st : List Formula) (op : OperationModel) → stack z es (suc n) ≡ Ok st → operation_of (get_or es n blank) (length z) ≡ Some op → outside z op ≡ None
  unfolding stack
  within n st op e is = go (stack z es n) e
    where
      go : (r : Result (List Formula) RuleFault) → on r (step z es n) ≡ Ok st → outside z op ≡ None
      go (Err f) e = absurd (cc)
      go (Ok s) e = judged_within z (eqb (suc n) (length es)) n s (operation_of (get_or es n blank) (length z)) st op e is

  all_ranged : (n : ℕ) (st : List Formula) → stack z es n ≡ Ok st → AllByRecursion (Ranged z) st
  unfolding stack
  all_ranged zero [] e = tt
  all_ranged zero (φ ∷ st) e = absurd (cc)
  all_ranged (suc n) st e =
      let l = last_entry z es n st e in
      subst (λ o. IfSome o (AllByRecursion (Ranged z))) l.makes
      (built_ranged z l.op l.before (told (get_or es n blank) (length z) l.op l.is).1 (within n st l.op e l.is) (all_ranged n l.before l.after))

  pub newest_ranged : (n : ℕ) (φ : Formula) (st : List Formula) → stack z es n ≡ Ok (φ ∷ st) → Ranged z φ
  newest_ranged n φ st e = (all_ranged n (φ ∷ st) e).0

-- a formula in range reads heads of its zone alone
pub reads_within : (z : List ℕ) (φ : Formula) (h : ℕ) → Ranged z φ → reads z φ h ≡ true → among h z ≡ true
reads_within z (head_test g s l) h r e = subst (λ i. among i z ≡ true) (eqb-true g h e) r.1
reads_within z (zone_test k s l) h r e = e
reads_within z (complement φ) h r e = reads_within z φ h r e
reads_within z (either φ ψ) h r e = ⊎_elim (reads_within z φ h r.0) (reads_within z ψ h r.1) (or_cases _ _ e)
reads_within z (both φ ψ) h r e = ⊎_elim (reads_within z φ h r.0) (reads_within z ψ h r.1) (or_cases _ _ e)
reads_within z (window a b p φ) h r e = reads_within z φ h r.1 e
