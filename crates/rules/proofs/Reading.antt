-- Each entry of a lawful list, with the formula that ends there. Assumes nothing.
use Rattle.std.proofs.Common.{◌≡◌, ℕ, zero, suc, ◌-◌, ◌<◌, ◌≤◌, eqb, List, [], ◌∷◌, length, get_or, IfSome, Some, None, Ok, Err, Result, sym, refl, ap, ◌∙◌, subst, arith}
use Rattle.entries.specs.Decode.{operation_of}
use Rattle.formulas.specs.Formula.{Formula}
use Rattle.rules.specs.Spelling.{entries}
use Rattle.rules.specs.Assemble.{blank, built, newest, step, stack}
use Rattle.rules.specs.Nodes.{NodeModel, node_of, node_by, noded}
use Rattle.rules.specs.Nodes as node
use Rattle.rules.specs.Spans.{left, formula_at, spanned}
use Rattle.entries.specs.declared.entry.Entry.{Entry}
use Rattle.entries.specs.Operations.{OperationModel, HeadTest, ZoneTest, Not, Either, Both, Window}
use Rattle.rules.specs.declared.fault.RuleFault.{RuleFault}
use Rattle.rules.specs.declared.span.Span.{Span}
use Rattle.rules.proofs.Unwind.{judged_gives, last_entry}
use Rattle.rules.proofs.Walks.{Fine, stays}

module _ (z : List ℕ) (es : List Entry) where
  pub front : (m n : ℕ) (st : List Formula) → n ≤ m → stack z es m ≡ Ok st → (s : List Formula) × (stack z es n ≡ Ok s)
  front m n st le e = go (stack z es n) refl
    where
      go : (r : Result (List Formula) RuleFault) → stack z es n ≡ r → (s : List Formula) × (stack z es n ≡ Ok s)
      go (Ok s) is = (s, is)
      go (Err f) is = let late = stays z es f n m le is in absurd (cc)

  pub formula_is : (n : ℕ) (st : List Formula) → stack z es (suc n) ≡ Ok st → formula_at z es n ≡ newest st
  unfolding formula_at
  formula_is n st e = ap (λ r. newest (left r)) e

built_node : (i : ℕ) (op : OperationModel) (st : List Formula) → IfSome (built op st) (λ s. node_of i (newest s) ≡ node_by i (entries (newest st)) op)
built_node i (HeadTest h s l) st = refl
built_node i (ZoneTest k s l) st = refl
built_node i Not [] = tt
built_node i Not (φ ∷ st) = refl
built_node i Either [] = tt
built_node i Either (ψ ∷ []) = tt
built_node i Either (ψ ∷ (φ ∷ st)) = refl
built_node i Both [] = tt
built_node i Both (ψ ∷ []) = tt
built_node i Both (ψ ∷ (φ ∷ st)) = refl
built_node i (Window a b p) [] = tt
built_node i (Window a b p) (φ ∷ st) = refl

-- with no entry before, what is before does not count
first_node : (m n : ℕ) (op : OperationModel) → node_by 0 m op ≡ node_by 0 n op
first_node m n (HeadTest h s l) = refl
first_node m n (ZoneTest k s l) = refl
first_node m n Not = refl
first_node m n Either = ap (λ k. node.Either k 0) (omega arith)
first_node m n Both = ap (λ k. node.Both k 0) (omega arith)
first_node m n (Window a b p) = refl

-- the node of a good entry, and a bad one's fault
pub step_noded : (z : List ℕ) (es : List Entry) (n : ℕ) (st : List Formula) (op : OperationModel) (s : Span) (m : NodeModel) → operation_of (get_or es n blank) (length z) ≡ Some op → m ≡ node_by n (entries (newest st)) op → Ok s ≡ spanned (step z es n st) → Ok m ≡ noded n (step z es n st)
step_noded z es n st op s m is e =
    go (step z es n st)
    (judged_gives (λ r. node_of n (newest r) ≡ node_by n (entries (newest st)) op) z (eqb (suc n) (length es)) n st (operation_of (get_or es n blank) (length z))
    (λ o read. let same : op ≡ o = cc in subst (λ x. IfSome (built x st) (λ r. node_of n (newest r) ≡ node_by n (entries (newest st)) op)) same (built_node n op st)))
  where
    go : (r : Result (List Formula) RuleFault) → Fine (λ r. node_of n (newest r) ≡ node_by n (entries (newest st)) op) r → Ok s ≡ spanned r → Ok m ≡ noded n r
    go (Ok after) fine same = ap Ok (e ∙ sym fine.1)
    go (Err f) fine same = absurd (cc)

pub bad_noded : (n : ℕ) (f : RuleFault) (r : Result (List Formula) RuleFault) → Err f ≡ spanned r → Err f ≡ noded n r
bad_noded n f (Ok st) e = absurd (cc)
bad_noded n f (Err g) e = let same : f ≡ g = cc in ap Err same

-- below is the number of entries of the formula before entry i, or any number where there is none
pub node_is : (z : List ℕ) (es : List Entry) (st : List Formula) (i below : ℕ) (op : OperationModel) → stack z es (length es) ≡ Ok st → i < length es → operation_of (get_or es i blank) (length z) ≡ Some op → (0 < i → below ≡ entries (formula_at z es (i - 1))) → node_of i (formula_at z es i) ≡ node_by i below op
node_is z es st i below op e lt is known =
    let now = front z es (length es) (suc i) st lt e in
    let l = last_entry z es i now.0 now.1 in
    let same : l.op ≡ op = let p = l.is in cc in
    let built : node_of i (newest now.0) ≡ node_by i (entries (newest l.before)) l.op = subst (λ o. IfSome o (λ s. node_of i (newest s) ≡ node_by i (entries (newest l.before)) l.op)) l.makes (built_node i l.op l.before) in
    ap (node_of i) (formula_is z es i now.0 now.1) ∙ built ∙ ap (node_by i (entries (newest l.before))) same ∙ go i l.before l.after known
  where
    go : (k : ℕ) (s : List Formula) → stack z es k ≡ Ok s → (0 < k → below ≡ entries (formula_at z es (k - 1))) → node_by k (entries (newest s)) op ≡ node_by k below op
    go zero s a h = first_node (entries (newest s)) below op
    go (suc k) s a h =
        let back : suc k - 1 ≡ k = omega arith in
        ap (λ m. node_by (suc k) m op) (ap entries (sym (formula_is z es k s a)) ∙ ap (λ j. entries (formula_at z es j)) (sym back) ∙ sym (h (omega arith)))

pub never_bad : (z : List ℕ) (es : List Entry) (st : List Formula) (i : ℕ) → stack z es (length es) ≡ Ok st → i < length es → operation_of (get_or es i blank) (length z) ≡ None → ⊥
never_bad z es st i e lt is =
    let now = front z es (length es) (suc i) st lt e in
    let l = last_entry z es i now.0 now.1 in
    let p = l.is in
    cc
