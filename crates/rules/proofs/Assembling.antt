-- A list that spells a lawful formula assembles to it. Assumes nothing.
use Rattle.std.proofs.Common.{◌≡◌, ℕ, suc, ◌+◌, ◌-◌, ◌≤◌, Bool, true, false, not, ◌&&◌, eqb, List, [], ◌∷◌, ◌++◌, length, get_or, drop, Some, None, Ok, Option, sym, refl, ap, ◌∙◌, subst, add-zero, add-one, arith}
use Rattle.std.proofs.ByRecursion.{All-append}
use Rattle.std.proofs.lemmas.List.{get_or-drop, drop-drop}
use Rattle.std.proofs.lemmas.Bool.{eqb-true, not_from_true, le-leb, and_from, cond-true, cond-false}
use Rattle.std.specs.List.{AllByRecursion}
use Rattle.formulas.specs.Formula.{Formula, head_test, zone_test, complement, either, both, window, among, horizon}
use Rattle.entries.proofs.Decoding.{stands}
use Rattle.entries.specs.Decode.{operation_of}
use Rattle.entries.specs.Operations.{OperationModel, HeadTest, ZoneTest, Not, Either, Both, Window}
use Rattle.entries.specs.Writing.{InRange}
use Rattle.entries.specs.declared.entry.Entry.{Entry}
use Rattle.rules.specs.Assemble.{blank, built, outside, alone, newest, settled, inside, judged, step, on, stack, assemble}
use Rattle.rules.specs.Assembled.{Assembled}
use Rattle.rules.specs.Lawful.{Ranged, Lawful}
use Rattle.rules.specs.Spelling.{entries, spelled, Written, Spells}
use Rattle.rules.proofs.Grounds.{accepted, Passed, passed_by, formula_is_of}
use Rattle.rules.proofs.Ranges.{written, written_length, spelled-length, newest_ranged}
use Rattle.rules.proofs.Spelt.{spells, ends_alone}
use Rattle.rules.proofs.Stacks.{some_entries}
use Rattle.rules.proofs.Unwind.{looks_near}

-- f gives the operations from n on
abbrev From : (ℕ → Option OperationModel) → ℕ → List OperationModel → Type 0
From f n [] = Unit {0}
From f n (o ∷ os) = (f n ≡ Some o) × From f (suc n) os

from_append : (f : ℕ → Option OperationModel) (n : ℕ) (os ps : List OperationModel) → From f n (os ++ ps) → From f n os × From f (n + length os) ps
from_append f n [] ps r = (tt, subst (λ k. From f k ps) (sym (add-zero n)) r)
from_append f n (o ∷ os) ps r =
    let more = from_append f (suc n) os ps r.1 in
    let at : suc n + length os ≡ n + suc (length os) = omega arith in
    ((r.0, more.0), subst (λ k. From f k ps) at more.1)

-- ---- the operations of a formula in range are in range
in_ranges : (z : List ℕ) (φ : Formula) → Ranged z φ → AllByRecursion (InRange (length z)) (spelled φ)
in_ranges z (head_test h s l) r = (r.0, tt)
in_ranges z (zone_test k s l) r = (r, tt)
in_ranges z (complement φ) r = All-append (InRange (length z)) (spelled φ) (Not ∷ []) (in_ranges z φ r) (tt, tt)
in_ranges z (either φ ψ) r = All-append (InRange (length z)) (spelled φ) (spelled ψ ++ Either ∷ []) (in_ranges z φ r.0) (All-append (InRange (length z)) (spelled ψ) (Either ∷ []) (in_ranges z ψ r.1) (tt, tt))
in_ranges z (both φ ψ) r = All-append (InRange (length z)) (spelled φ) (spelled ψ ++ Both ∷ []) (in_ranges z φ r.0) (All-append (InRange (length z)) (spelled ψ) (Both ∷ []) (in_ranges z ψ r.1) (tt, tt))
in_ranges z (window a b p φ) r = All-append (InRange (length z)) (spelled φ) (Window a b p ∷ []) (in_ranges z φ r.1) (r.0, tt)

module _ (z : List ℕ) (es : List Entry) where
  abbrev read : ℕ → Option OperationModel
  read i = operation_of (get_or es i blank) (length z)

  from_written : (rest : List Entry) (os : List OperationModel) (n : ℕ) → drop n es ≡ rest → Written rest os → AllByRecursion (InRange (length z)) os → From read n os
  from_written [] [] n e w a = tt
  from_written [] (o ∷ os) n e w a = absurd w
  from_written (x ∷ rest) [] n e w a = absurd w
  from_written (x ∷ rest) (o ∷ os) n e w a =
      let here : get_or es n blank ≡ x = ap (λ k. get_or es k blank) (sym (add-zero n)) ∙ sym (get_or-drop n es 0 blank) ∙ ap (λ xs. get_or xs 0 blank) e in
      let on : drop (suc n) es ≡ rest = ap (λ k. drop k es) (sym (add-one n)) ∙ sym (drop-drop 1 n es) ∙ ap (drop 1) e in
      (ap (λ y. operation_of y (length z)) here ∙ stands x (length z) o w.0 a.0, from_written rest os (suc n) on w.1 a.1)

  closed : (last : Bool) (st : List Formula) → (last ≡ true → alone st ≡ true) → (last && not (alone st)) ≡ false
  closed true st h = not_from_true _ (h refl)
  closed false st h = refl

  -- one operation more
  grown : (n m : ℕ) (o : OperationModel) (st st' : List Formula) → m ≡ suc n → stack z es n ≡ Ok st → read n ≡ Some o → outside z o ≡ None → built o st ≡ Some st' → horizon (newest st') ≤ 4095 → (m ≡ length es → alone st' ≡ true) → stack z es m ≡ Ok st'
  unfolding stack
  grown n m o st st' at e is out makes near one =
      ap (stack z es) at
      ∙ ap (λ r. on r (step z es n)) e
      ∙ ap (judged z (eqb (suc n) (length es)) n st) is
      ∙ ap (λ h. inside n h (settled (eqb (suc n) (length es)) n (built o st))) out
      ∙ ap (settled (eqb (suc n) (length es)) n) makes
      ∙ cond-false _ _ _ (closed (eqb (suc n) (length es)) st' (λ last. one (at ∙ eqb-true _ _ last)))
      ∙ cond-true _ _ _ (le-leb _ _ near)

  alone_one : (φ : Formula) (st : List Formula) → st ≡ [] → alone (φ ∷ st) ≡ true
  alone_one φ [] e = refl
  alone_one φ (ψ ∷ st) e = absurd (cc)

  outside_none : (h : ℕ) → among h z ≡ true → (s : _) (l : _) → outside z (HeadTest h s l) ≡ None
  outside_none h e s l = cond-true _ _ _ e

  -- a formula more on those that were left before it
  grows : (φ : Formula) (n : ℕ) (st : List Formula) → Ranged z φ → horizon φ ≤ 4095 → From read n (spelled φ) → n + entries φ ≤ length es → (n + entries φ ≡ length es → st ≡ []) → stack z es n ≡ Ok st → stack z es (n + entries φ) ≡ Ok (φ ∷ st)
  grows (head_test h s l) n st r near f room one e = grown n (n + 1) (HeadTest h s l) st _ (add-one n) e f.0 (outside_none h r.1 s l) refl near (λ q. alone_one (head_test h s l) st (one q))
  grows (zone_test k s l) n st r near f room one e = grown n (n + 1) (ZoneTest k s l) st _ (add-one n) e f.0 refl refl near (λ q. alone_one (zone_test k s l) st (one q))
  grows (complement φ) n st r near f room one e =
      let g = from_append read n (spelled φ) (Not ∷ []) f in
      let at : n + length (spelled φ) ≡ n + entries φ = ap (λ k. n + k) (spelled-length φ) in
      grown (n + entries φ) (n + (entries φ + 1)) Not (φ ∷ st) _ (omega arith)
      (grows φ n st r near g.0 (omega arith) (λ q. absurd (omega arith)) e)
      (ap read (sym at) ∙ g.1.0) refl refl near (λ q. alone_one (complement φ) st (one q))
  grows (either φ ψ) n st r near f room one e =
      let g = from_append read n (spelled φ) (spelled ψ ++ Either ∷ []) f in
      let at : n + length (spelled φ) ≡ n + entries φ = ap (λ k. n + k) (spelled-length φ) in
      let h = from_append read (n + entries φ) (spelled ψ) (Either ∷ []) (subst (λ k. From read k (spelled ψ ++ Either ∷ [])) at g.1) in
      let then : n + entries φ + length (spelled ψ) ≡ n + entries φ + entries ψ = ap (λ k. n + entries φ + k) (spelled-length ψ) in
      grown (n + entries φ + entries ψ) (n + (entries φ + entries ψ + 1)) Either (ψ ∷ (φ ∷ st)) _ (omega arith)
      (grows ψ (n + entries φ) (φ ∷ st) r.1 (omega arith) h.0 (omega arith) (λ q. absurd (omega arith))
      (grows φ n st r.0 (omega arith) g.0 (omega arith) (λ q. absurd (omega arith)) e))
      (ap read (sym then) ∙ h.1.0) refl refl near (λ q. alone_one (either φ ψ) st (one q))
  grows (both φ ψ) n st r near f room one e =
      let g = from_append read n (spelled φ) (spelled ψ ++ Both ∷ []) f in
      let at : n + length (spelled φ) ≡ n + entries φ = ap (λ k. n + k) (spelled-length φ) in
      let h = from_append read (n + entries φ) (spelled ψ) (Both ∷ []) (subst (λ k. From read k (spelled ψ ++ Both ∷ [])) at g.1) in
      let then : n + entries φ + length (spelled ψ) ≡ n + entries φ + entries ψ = ap (λ k. n + entries φ + k) (spelled-length ψ) in
      grown (n + entries φ + entries ψ) (n + (entries φ + entries ψ + 1)) Both (ψ ∷ (φ ∷ st)) _ (omega arith)
      (grows ψ (n + entries φ) (φ ∷ st) r.1 (omega arith) h.0 (omega arith) (λ q. absurd (omega arith))
      (grows φ n st r.0 (omega arith) g.0 (omega arith) (λ q. absurd (omega arith)) e))
      (ap read (sym then) ∙ h.1.0) refl refl near (λ q. alone_one (both φ ψ) st (one q))
  grows (window a b p φ) n st r near f room one e =
      let g = from_append read n (spelled φ) (Window a b p ∷ []) f in
      let at : n + length (spelled φ) ≡ n + entries φ = ap (λ k. n + k) (spelled-length φ) in
      grown (n + entries φ) (n + (entries φ + 1)) (Window a b p) (φ ∷ st) _ (omega arith)
      (grows φ n st r.1 (omega arith) g.0 (omega arith) (λ q. absurd (omega arith)) e)
      (ap read (sym at) ∙ g.1.0) refl refl near (λ q. alone_one (window a b p φ) st (one q))

  nothing_left : stack z es 0 ≡ Ok []
  unfolding stack
  nothing_left = refl

  assembles : (φ : Formula) → Spells es φ → Lawful z φ → assemble z es ≡ Ok φ
  assembles φ w law =
      let long : length es ≡ entries φ = written_length es (spelled φ) w ∙ spelled-length φ in
      let all : 0 + entries φ ≡ length es = omega arith in
      let done = grows φ 0 [] law.ranged law.near (from_written es (spelled φ) 0 refl w (in_ranges z φ law.ranged)) (omega arith) (λ _. refl) nothing_left in
      accepted z es (φ ∷ [])
      (and_from _ _ (le-leb 1 (length es) (omega (arith, some_entries φ))) (le-leb (length es) 24 (omega (arith, law.few_entries))))
      (and_from _ _ (le-leb 1 (length z) law.some_heads) (le-leb (length z) 32 law.few_heads))
      (ap (stack z es) (sym all) ∙ done)

  -- the other way
  spelled_by : (p : Passed z es) → Spells es (newest p.formulas)
  spelled_by p = written z es (spelled (newest p.formulas)) (spells z es p.formulas (omega (arith, p.fair.some)) p.after)

  one_left : (n : ℕ) (st : List Formula) → alone st ≡ true → stack z es n ≡ Ok st → stack z es n ≡ Ok (newest st ∷ [])
  one_left n [] o e = absurd (cc)
  one_left n (φ ∷ []) o e = e
  one_left n (φ ∷ (ψ ∷ st)) o e = absurd (cc)

  lawful_by : (p : Passed z es) → Lawful z (newest p.formulas)
  lawful_by p =
      let st = p.formulas in
      let last : suc (length es - 1) ≡ length es = omega (arith, p.fair.some) in
      let after = ap (stack z es) last ∙ p.after in
      let one = ends_alone z es (length es - 1) st last after in
      let long = written_length es (spelled (newest st)) (spelled_by p) ∙ spelled-length (newest st) in
      record {
        some_heads = p.fair.heads;
        few_heads = p.fair.near;
        few_entries = omega (arith, long, p.fair.few);
        ranged = newest_ranged z es (length es) (newest st) [] (one_left (length es) st one p.after);
        near = looks_near z es (length es - 1) st after;
      }

  pub spells_formula : (φ : Formula) → assemble z es ≡ Ok φ → Spells es φ
  spells_formula φ e = let p = passed_by z es φ e in subst (Spells es) (sym p.one ∙ formula_is_of z es φ e) (spelled_by p)

  pub lawful_formula : (φ : Formula) → assemble z es ≡ Ok φ → Lawful z φ
  lawful_formula φ e = let p = passed_by z es φ e in subst (Lawful z) (sym p.one ∙ formula_is_of z es φ e) (lawful_by p)

  pub assembled : Assembled z es
  assembled = record { spells = spells_formula; lawful = lawful_formula; assembles = assembles }
