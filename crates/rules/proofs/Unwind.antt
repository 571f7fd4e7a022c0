-- The formulas left after n entries, undone. Assumes nothing.
use Rattle.std.proofs.Common.{◌≡◌, ℕ, zero, suc, ◌+◌, ◌-◌, ◌≤◌, Bool, eqb, List, [], ◌∷◌, length, get_or, IfSome, Some, None, Ok, Err, Option, Result, refl, subst, arith}
use Rattle.entries.specs.Decode.{operation_of}
use Rattle.formulas.specs.Formula.{Formula, horizon}
use Rattle.rules.specs.Spelling.{entries}
use Rattle.rules.specs.Assemble.{blank, built, newest, judged, step, on, stack}
use Rattle.entries.specs.declared.entry.Entry.{Entry}
use Rattle.entries.specs.Operations.{OperationModel, HeadTest, ZoneTest, Not, Either, Both, Window}
use Rattle.rules.specs.declared.fault.RuleFault.{RuleFault}
use Rattle.rules.proofs.Walks.{Fine, settled_fine, inside_fine}

-- what is left after one entry more has P, if all that its operation builds has
pub judged_gives : (P : List Formula → Type 0) (z : List ℕ) (last : Bool) (n : ℕ) (st : List Formula) (o : Option OperationModel) → ((op : OperationModel) → o ≡ Some op → IfSome (built op st) P) → Fine P (judged z last n st o)
judged_gives P z last n st None h = tt
judged_gives P z last n st (Some op) h = inside_fine P n _ _ (settled_fine P last n (built op st) (h op refl))

-- the entry that left st
pub record Last (z : List ℕ) (es : List Entry) (n : ℕ) (st : List Formula) : Type 0 where
  pub op : OperationModel
  pub is : operation_of (get_or es n blank) (length z) ≡ Some op
  pub before : List Formula
  pub after : stack z es n ≡ Ok before
  pub makes : built op before ≡ Some st

module _ (z : List ℕ) (es : List Entry) where
  some_case : (o : Option (List Formula)) (P : List Formula → Type 0) → ((st : List Formula) → o ≡ Some st → P st) → IfSome o P
  some_case None P h = tt
  some_case (Some st) P h = h st refl

  pub last_entry : (n : ℕ) (st : List Formula) → stack z es (suc n) ≡ Ok st → Last z es n st
  unfolding stack
  last_entry n st e = go (stack z es n) refl e
    where
      go : (r : Result (List Formula) RuleFault) → stack z es n ≡ r → on r (step z es n) ≡ Ok st → Last z es n st
      go (Err f) is e = absurd (cc)
      go (Ok before) is e =
          (subst (Fine (Last z es n)) e
          (judged_gives (Last z es n) z (eqb (suc n) (length es)) n before (operation_of (get_or es n blank) (length z))
          (λ op read. some_case (built op before) (Last z es n) (λ after made. record { op = op; is = read; before = before; after = is; makes = made })))).1

  pub looks_near : (n : ℕ) (st : List Formula) → stack z es (suc n) ≡ Ok st → horizon (newest st) ≤ 4095
  unfolding stack
  looks_near n st e = go (stack z es n) e
    where
      go : (r : Result (List Formula) RuleFault) → on r (step z es n) ≡ Ok st → horizon (newest st) ≤ 4095
      go (Err f) e = absurd (cc)
      go (Ok before) e =
          (subst (Fine (λ _. Unit {0})) e
          (judged_gives (λ _. Unit {0}) z (eqb (suc n) (length es)) n before (operation_of (get_or es n blank) (length z)) (λ op read. some_case (built op before) (λ _. Unit {0}) (λ _ _. tt)))).0

  -- before its newest formula, the others were left
  abbrev Under : ℕ → List Formula → Type 0
  Under n [] = Unit {0}
  Under n (φ ∷ st) = stack z es (n - entries φ) ≡ Ok st

  moved : (m n : ℕ) (st : List Formula) → m ≡ n → stack z es m ≡ Ok st → stack z es n ≡ Ok st
  moved m n st e h = subst (λ k. stack z es k ≡ Ok st) e h

  built_under : (k : ℕ) (op : OperationModel) (st : List Formula) → stack z es k ≡ Ok st → ((j : ℕ) (s : List Formula) → j ≤ k → stack z es j ≡ Ok s → Under j s) → IfSome (built op st) (Under (suc k))
  built_under k (HeadTest h s l) st e ih = moved k (suc k - 1) st (omega arith) e
  built_under k (ZoneTest h s l) st e ih = moved k (suc k - 1) st (omega arith) e
  built_under k Not [] e ih = tt
  built_under k Not (φ ∷ st) e ih = moved (k - entries φ) (suc k - (entries φ + 1)) st (omega arith) (ih k (φ ∷ st) (omega arith) e)
  built_under k Either [] e ih = tt
  built_under k Either (ψ ∷ []) e ih = tt
  built_under k Either (ψ ∷ (φ ∷ st)) e ih =
      moved (k - entries ψ - entries φ) (suc k - (entries φ + entries ψ + 1)) st (omega arith) (ih (k - entries ψ) (φ ∷ st) (omega arith) (ih k (ψ ∷ (φ ∷ st)) (omega arith) e))
  built_under k Both [] e ih = tt
  built_under k Both (ψ ∷ []) e ih = tt
  built_under k Both (ψ ∷ (φ ∷ st)) e ih =
      moved (k - entries ψ - entries φ) (suc k - (entries φ + entries ψ + 1)) st (omega arith) (ih (k - entries ψ) (φ ∷ st) (omega arith) (ih k (ψ ∷ (φ ∷ st)) (omega arith) e))
  built_under k (Window a b p) [] e ih = tt
  built_under k (Window a b p) (φ ∷ st) e ih = moved (k - entries φ) (suc k - (entries φ + 1)) st (omega arith) (ih k (φ ∷ st) (omega arith) e)

  unwound : (m n : ℕ) (st : List Formula) → n ≤ m → stack z es n ≡ Ok st → Under n st
  unfolding stack
  unwound m zero [] le e = tt
  unwound m zero (φ ∷ st) le e = absurd (cc)
  unwound zero (suc n) st le e = absurd (omega arith)
  unwound (suc m) (suc n) st le e =
      let l = last_entry n st e in
      subst (λ o. IfSome o (Under (suc n))) l.makes (built_under n l.op l.before l.after (λ j s h is. unwound m j s (omega arith) is))

  pub unwind : (n : ℕ) (φ : Formula) (st : List Formula) → stack z es n ≡ Ok (φ ∷ st) → stack z es (n - entries φ) ≡ Ok st
  unwind n φ st e = unwound n n (φ ∷ st) (omega arith) e
