-- What the walk knows after some entries, and what one more adds. Assumes nothing.
use Rattle.std.proofs.Common.{◌≡◌, ℕ, suc, ◌+◌, ◌-◌, ◌<◌, ◌≤◌, Bool, true, false, cond, not, ◌&&◌, eqb, leb, ◌≢◌, List, [], ◌∷◌, ◌++◌, map, take, length, get_or, set, IfSome, Some, None, Ok, Err, Option, Result, sym, refl, ap, ap₂, ◌∙◌, subst, add-one, arith, get_or-set_other, get_or-set_same, below_more}
use Rattle.std.proofs.lemmas.List.{take_more, take_more_set, map_push}
use native.Mathlib.Decide.{le_ind}
use Rattle.std.proofs.lemmas.Bool.{leb-true}
use Rattle.entries.specs.Decode.{operation_of}
use Rattle.formulas.specs.Formula.{Formula, head_test, zone_test, complement, either, both, window, horizon}
use Rattle.rules.specs.Spelling.{entries}
use Rattle.rules.specs.Assemble.{blank, built, outside, alone, newest, settled, inside, judged, step, on, stack}
use Rattle.rules.specs.Lines.{listed, Told}
use Rattle.rules.specs.Nodes.{NodeModel, model, node_of, noded}
use Rattle.rules.specs.Spans.{Stacked, span, no_line, spanned, left, formula_at}
use Rattle.entries.specs.declared.entry.Entry.{Entry}
use Rattle.entries.specs.Operations.{OperationModel, HeadTest, ZoneTest, Not, Either, Both, Window}
use Rattle.rules.specs.declared.fault.RuleFault.{RuleFault}
use Rattle.rules.specs.declared.fault.RuleFault.TheVariants.{TooManyFormulas, HorizonTooFar}
use Rattle.rules.specs.declared.line.Line.{Line}
use Rattle.rules.specs.declared.lines.Lines.{Lines}
use Rattle.rules.proofs.Stacks.{some_entries}

pub record Walked (z : List ℕ) (es : List Entry) (l : Lines) : Type 0 where
  pub copied : listed l ≡ take l.count es
  pub formulas : List Formula
  pub after : stack z es l.count ≡ Ok formulas
  pub stacked : Stacked l.rows l.count formulas
  pub told : Told z es l.rows l.count

pub begins : (z : List ℕ) (es : List Entry) (l : Lines) → l.count ≡ 0 → Walked z es l
unfolding stack
begins z es l none =
    let rows = l.rows in
    record {
      copied = ap (λ n. map (λ (x : Line). x.entry) (take n rows)) none ∙ ap (λ n. take n es) (sym none);
      formulas = [];
      after = ap (stack z es) none;
      stacked = none;
      told = (λ k h. absurd (omega arith), λ k h. absurd (omega arith));
    }

-- a write behind the entries read so far
frame : (t : List Line) (n i : ℕ) (x : Line) (st : List Formula) → n ≤ i → Stacked t n st → Stacked (set t i x) n st
frame t n i x [] le h = h
frame t n i x (φ ∷ st) le h =
    let ne : n - 1 ≢ i = omega (arith, some_entries φ, h.0) in
    (h.0, h.1, ap (λ y. y.span) (get_or-set_other t i (n - 1) x no_line ne) ∙ h.2, frame t (n - entries φ) i x st (omega arith) h.3)

module _ (t : List Line) (n : ℕ) (x : Line) (room : n < length t) where
  -- a formula φ over the entries from m to n
  put : (m : ℕ) (φ : Formula) (st : List Formula) → m + entries φ ≡ n + 1 → horizon φ ≤ 4095 → x.span ≡ span φ → Stacked t m st → Stacked (set t n x) (n + 1) (φ ∷ st)
  put m φ st e near same h =
      let here : n + 1 - 1 ≡ n = omega arith in
      let there : n + 1 - entries φ ≡ m = omega arith in
      let last = ap (λ k. (get_or (set t n x) k no_line).span) here ∙ ap (λ y. y.span) (get_or-set_same t n x no_line room) ∙ same in
      (omega arith, near, last, subst (λ k. Stacked (set t n x) k st) (sym there) (frame t m n x st (omega (arith, some_entries φ)) h))

  abbrev pub Next : List Formula → Type 0
  Next st = horizon (newest st) ≤ 4095 → x.span ≡ span (newest st) → Stacked (set t n x) (n + 1) st

  pub built_next : (op : OperationModel) (st : List Formula) → Stacked t n st → IfSome (built op st) Next
  built_next (HeadTest j s l) st h = λ near same. put n (head_test j s l) st (omega arith) near same h
  built_next (ZoneTest k s l) st h = λ near same. put n (zone_test k s l) st (omega arith) near same h
  built_next Not [] h = tt
  built_next Not (φ ∷ st) h = λ near same. put (n - entries φ) (complement φ) st (omega (arith, h.0)) near same h.3
  built_next Either [] h = tt
  built_next Either (ψ ∷ []) h = tt
  built_next Either (ψ ∷ (φ ∷ st)) h = λ near same. put (n - entries ψ - entries φ) (either φ ψ) st (omega (arith, h.0, h.3.0)) near same h.3.3
  built_next Both [] h = tt
  built_next Both (ψ ∷ []) h = tt
  built_next Both (ψ ∷ (φ ∷ st)) h = λ near same. put (n - entries ψ - entries φ) (both φ ψ) st (omega (arith, h.0, h.3.0)) near same h.3.3
  built_next (Window a b p) [] h = tt
  built_next (Window a b p) (φ ∷ st) h = λ near same. put (n - entries φ) (window a b p φ) st (omega (arith, h.0)) near same h.3

-- what the tests of one entry let through
abbrev pub Fine : (List Formula → Type 0) → Result (List Formula) RuleFault → Type 0
Fine P (Ok st) = (horizon (newest st) ≤ 4095) × P st
Fine P (Err f) = Unit {0}

conds_fine : (P : List Formula → Type 0) (a b : Bool) (st : List Formula) (f g : RuleFault) → (b ≡ true → horizon (newest st) ≤ 4095) → P st → Fine P (cond a (Err f) (cond b (Ok st) (Err g)))
conds_fine P true b st f g near h = tt
conds_fine P false true st f g near h = (near refl, h)
conds_fine P false false st f g near h = tt

pub settled_fine : (P : List Formula → Type 0) (last : Bool) (n : ℕ) (o : Option (List Formula)) → IfSome o P → Fine P (settled last n o)
settled_fine P last n None h = tt
settled_fine P last n (Some st) h =
    conds_fine P (last && not (alone st)) (leb (horizon (newest st)) 4095) st (TooManyFormulas n) (HorizonTooFar n (horizon (newest st))) (leb-true _ _) h

pub inside_fine : (P : List Formula → Type 0) (n : ℕ) (o : Option ℕ) (r : Result (List Formula) RuleFault) → Fine P r → Fine P (inside n o r)
inside_fine P n None r h = h
inside_fine P n (Some j) r h = tt

judged_fine : (P : List Formula → Type 0) (z : List ℕ) (last : Bool) (n : ℕ) (st : List Formula) (o : Option OperationModel) → ((op : OperationModel) → IfSome (built op st) P) → Fine P (judged z last n st o)
judged_fine P z last n st None h = tt
judged_fine P z last n st (Some op) h = inside_fine P n (outside z op) _ (settled_fine P last n (built op st) (h op))

-- what a good entry leaves
record Grown (z : List ℕ) (es : List Entry) (t : List Line) (n : ℕ) (x : Line) : Type 0 where
  formulas : List Formula
  after : stack z es (suc n) ≡ Ok formulas
  near : horizon (newest formulas) ≤ 4095
  same : x.span ≡ span (newest formulas)
  stacked : Stacked (set t n x) (n + 1) formulas

module _ (z : List ℕ) (es : List Entry) (l : Lines) (w : Walked z es l) where
  abbrev n : ℕ
  n = l.count

  after_step : stack z es (suc n) ≡ step z es n w.formulas
  unfolding stack
  after_step = ap (λ r. on r (step z es n)) w.after

  grows : (x : Line) → n < length l.rows → Ok x.span ≡ spanned (step z es n w.formulas) → Grown z es l.rows n x
  grows x room e =
      go (step z es n w.formulas) refl
      (judged_fine (Next l.rows n x room) z (eqb (suc n) (length es)) n w.formulas (operation_of (get_or es n blank) (length z)) (λ op. built_next l.rows n x room op w.formulas w.stacked)) e
    where
      go : (r : Result (List Formula) RuleFault) → step z es n w.formulas ≡ r → Fine (Next l.rows n x room) r → Ok x.span ≡ spanned r → Grown z es l.rows n x
      go (Err f) is fine same = absurd (cc)
      go (Ok st) is fine same = let e : x.span ≡ span (newest st) = cc in record { formulas = st; after = after_step ∙ is; near = fine.0; same = e; stacked = fine.1 fine.0 e }

  node_is : (m : NodeModel) → Ok m ≡ noded n (step z es n w.formulas) → m ≡ node_of n (formula_at z es n)
  unfolding formula_at
  node_is m e = go (stack z es (suc n)) (e ∙ ap (noded n) (sym after_step))
    where
      go : (r : Result (List Formula) RuleFault) → Ok m ≡ noded n r → m ≡ node_of n (newest (left r))
      go (Ok st) same = cc
      go (Err f) same = absurd (cc)

  -- a good entry
  pub more : (x : Line) (l' : Lines) → n < length es → x.entry ≡ get_or es n blank → Ok x.span ≡ spanned (step z es n w.formulas) → Ok (model x.node) ≡ noded n (step z es n w.formulas) → l'.rows ≡ set l.rows n x → l'.count ≡ n + 1 → Walked z es l'
  unfolding formula_at
  more x l' some read e f rows count =
      let room : n < length l.rows = omega (arith, l'.few, l.room) in
      let g = grows x room e in
      record {
        copied =
            ap₂ (λ k t. map (λ (y : Line). y.entry) (take k t)) count rows
            ∙ ap (map (λ (y : Line). y.entry)) (take_more_set l.rows n x room)
            ∙ map_push (λ (y : Line). y.entry) (take n l.rows) x
            ∙ ap₂ (λ (ys : List Entry) (y : Entry). ys ++ y ∷ []) w.copied read
            ∙ sym (take_more es n blank some)
            ∙ ap (λ k. take k es) (sym count);
        formulas = g.formulas;
        after = subst (λ k. stack z es k ≡ Ok g.formulas) (sym (count ∙ add-one n)) g.after;
        stacked = subst (λ k. Stacked l'.rows k g.formulas) (sym count) (subst (λ t. Stacked t (n + 1) g.formulas) (sym rows) g.stacked);
        told =
            subst (λ k. Told z es l'.rows k) (sym count)
            (subst (λ t. Told z es t (n + 1)) (sym rows) (
              below_more _ _
                  (λ k h. let ne : k ≢ n = omega arith in ap (λ y. y.span) (get_or-set_other l.rows n k x no_line ne) ∙ w.told.0 k h)
                  (ap (λ y. y.span) (get_or-set_same l.rows n x no_line room) ∙ g.same ∙ ap (λ r. span (newest (left r))) (sym g.after)),
              below_more _ _
                  (λ k h. let ne : k ≢ n = omega arith in ap (λ y. model y.node) (get_or-set_other l.rows n k x no_line ne) ∙ w.told.1 k h)
                  (ap (λ y. model y.node) (get_or-set_same l.rows n x no_line room) ∙ node_is (model x.node) f),
            ));
      }

  -- its span fits the next line
  pub fits : (x : Line) → n < 24 → Ok x.span ≡ spanned (step z es n w.formulas) → (x.span.size ≤ n + 1) × (x.span.horizon ≤ 4095)
  fits x room e = let g = grows x (omega (arith, l.room)) e in go g.formulas g.near g.same g.stacked
    where
      go : (st : List Formula) → horizon (newest st) ≤ 4095 → x.span ≡ span (newest st) → Stacked (set l.rows n x) (n + 1) st → (x.span.size ≤ n + 1) × (x.span.horizon ≤ 4095)
      go [] near same h = absurd (omega arith)
      go (φ ∷ st) near same h = (omega (arith, ap (λ y. y.size) same, h.0), omega (arith, ap (λ y. y.horizon) same))

  -- a bad one
  pub stops : (f : RuleFault) → Err f ≡ spanned (step z es n w.formulas) → stack z es (suc n) ≡ Err f
  stops f e = after_step ∙ go (step z es n w.formulas) e
    where
      go : (r : Result (List Formula) RuleFault) → Err f ≡ spanned r → r ≡ Err f
      go (Err g) same = let e : g ≡ f = cc in ap Err e
      go (Ok st) same = absurd (cc)

-- a fault stays
pub stays : (z : List ℕ) (es : List Entry) (f : RuleFault) (m k : ℕ) → m ≤ k → stack z es m ≡ Err f → stack z es k ≡ Err f
unfolding stack
stays z es f m k h e = le_ind (λ (n : ℕ). stack z es n ≡ Err f) e (λ n le same. ap (λ r. on r (step z es n)) same) k h
