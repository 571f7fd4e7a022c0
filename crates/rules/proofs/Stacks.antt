-- The formulas left, as the table of spans shows them. Assumes nothing.
use Rattle.std.proofs.Common.{◌≡◌, ℕ, ◌+◌, ◌-◌, ◌<◌, ◌≤◌, max, List, [], ◌∷◌, length, take, get_or, Bool, true, false, cond, eqb, ltb, ◌≢◌, Some, None, Option, refl, ap, ◌∙◌, ap₂, arith}
use Rattle.std.proofs.lemmas.Bool.{eqb-true, eqb-false, ltb-true}
use Rattle.std.proofs.lemmas.List.{length-take-le, length-map}
use Rattle.formulas.specs.Formula.{Formula, head_test, zone_test, complement, either, both, window, horizon}
use Rattle.rules.specs.Spelling.{entries}
use Rattle.rules.specs.Spans.{Stacked, span, no_line, over_one, over_two}
use Rattle.rules.specs.Lines.{listed, before}
use Rattle.rules.specs.declared.line.Line.{Line}
use Rattle.rules.specs.declared.lines.Lines.{Lines}
use Rattle.rules.specs.declared.span.Span.{Span}

pub listed-length : (l : Lines) → length (listed l) ≡ l.count
listed-length l = length-map (take l.count l.rows) (λ (x : Line). x.entry) ∙ length-take-le l.count l.rows (omega (arith, l.room, l.few))

-- where no formula ends just before a place, it is the first
pub first : (l : Lines) (n : ℕ) → None ≡ before l n → n ≡ 0
first l n e = go (eqb n 0) refl e
  where
    go : (b : Bool) → eqb n 0 ≡ b → None ≡ cond b None (Some (get_or l.rows (n - 1) no_line).span) → n ≡ 0
    go true h e = eqb-true _ _ h
    go false h e = absurd (cc)

pub told : (l : Lines) (n : ℕ) (s : Span) → Some s ≡ before l n → (0 < n) × (s ≡ (get_or l.rows (n - 1) no_line).span)
told l n s e = go (eqb n 0) refl e
  where
    go : (b : Bool) → eqb n 0 ≡ b → Some s ≡ cond b None (Some (get_or l.rows (n - 1) no_line).span) → (0 < n) × (s ≡ (get_or l.rows (n - 1) no_line).span)
    go true h e = absurd (cc)
    go false h e = let some : n ≢ 0 = eqb-false n 0 h in (omega arith, cc)

pub got : (l : Lines) (i : ℕ) (x : Line) → Some x ≡ cond (ltb i l.count) (Some (get_or l.rows i no_line)) None → (i < l.count) × (x ≡ get_or l.rows i no_line)
got l i x e = go (ltb i l.count) refl e
  where
    go : (b : Bool) → ltb i l.count ≡ b → Some x ≡ cond b (Some (get_or l.rows i no_line)) None → (i < l.count) × (x ≡ get_or l.rows i no_line)
    go true h e = (ltb-true i l.count h, cc)
    go false h e = absurd (cc)

pub some_entries : (φ : Formula) → 0 < entries φ
some_entries (head_test h s l) = omega arith
some_entries (zone_test k s l) = omega arith
some_entries (complement φ) = omega arith
some_entries (either φ ψ) = omega arith
some_entries (both φ ψ) = omega arith
some_entries (window a b p φ) = omega arith

pub record Newest (t : List Line) (n : ℕ) (st : List Formula) : Type 0 where
  pub top : Formula
  pub rest : List Formula
  pub is : st ≡ top ∷ rest
  pub some : 0 < entries top
  pub within : entries top ≤ n
  pub near : horizon top ≤ 4095
  pub kept : (get_or t (n - 1) no_line).span ≡ span top
  pub far : (get_or t (n - 1) no_line).span.horizon ≡ horizon top
  pub long : (get_or t (n - 1) no_line).span.size ≡ entries top
  pub under : Stacked t (n - entries top) rest

pub newest_of : (t : List Line) (n : ℕ) (st : List Formula) → Stacked t n st → 0 < n → Newest t n st
newest_of t n [] h p = absurd (omega arith)
newest_of t n (φ ∷ st) h p =
    record {
      top = φ;
      rest = st;
      is = refl;
      some = some_entries φ;
      within = h.0;
      near = h.1;
      kept = h.2;
      far = ap (λ s. s.horizon) h.2;
      long = ap (λ s. s.size) h.2;
      under = h.3;
    }

pub none_left : (t : List Line) (n : ℕ) (st : List Formula) → Stacked t n st → n ≡ 0 → st ≡ []
none_left t n [] h e = refl
none_left t n (φ ∷ st) h e = absurd (omega (arith, some_entries φ))

-- what the code makes over the newest formula
pub one_is : (t : List Line) (n : ℕ) (st : List Formula) (d : ℕ) → Stacked t n st → 0 < n → Some (record { horizon = d + (get_or t (n - 1) no_line).span.horizon; size = (get_or t (n - 1) no_line).span.size + 1 }) ≡ over_one d st
one_is t n [] d h p = absurd (omega arith)
one_is t n (φ ∷ st) d h p = ap (λ (s : Span). Some (record { horizon = d + s.horizon; size = s.size + 1 })) h.2

abbrev made : ℕ → ℕ → Option Span
made h n = Some (record { horizon = h; size = n })

two_spans : (l r : Span) (φ ψ : Formula) (m : ℕ) → l ≡ span φ → r ≡ span ψ → m ≡ max l.horizon r.horizon → made m (l.size + r.size + 1) ≡ made (max (horizon φ) (horizon ψ)) (entries φ + entries ψ + 1)
two_spans l r φ ψ m e f far =
    ap₂ made (far ∙ ap₂ (λ (x y : Span). max x.horizon y.horizon) e f) (ap₂ (λ (x y : Span). x.size + y.size + 1) e f)

-- over the two newest, of which the right one begins at b
module _ (t : List Line) (n b : ℕ) (p : 0 < n) (begins : b ≡ n - (get_or t (n - 1) no_line).span.size) where
  pub one_left : (st : List Formula) → Stacked t n st → b ≡ 0 → None ≡ over_two st
  one_left [] h q = absurd (omega arith)
  one_left (ψ ∷ []) h q = refl
  one_left (ψ ∷ (φ ∷ st)) h q = absurd (omega (arith, ap (λ s. s.size) h.2, h.3.0, h.0, some_entries φ))

  pub two_small : (st : List Formula) → Stacked t n st → 0 < b → (get_or t (b - 1) no_line).span.size + (get_or t (n - 1) no_line).span.size ≤ n
  two_small [] h q = absurd (omega arith)
  two_small (ψ ∷ []) h q = absurd (omega (arith, ap (λ s. s.size) h.2, h.3))
  two_small (ψ ∷ (φ ∷ st)) h q =
      let e : b ≡ n - entries ψ = omega (arith, ap (λ s. s.size) h.2) in
      let k : (get_or t (b - 1) no_line).span.size ≡ entries φ = rw e (ap (λ s. s.size) h.3.2) in
      omega (arith, ap (λ s. s.size) h.2, h.3.0, h.0)

  pub two_is : (st : List Formula) (m : ℕ) → Stacked t n st → 0 < b → m ≡ max (get_or t (b - 1) no_line).span.horizon (get_or t (n - 1) no_line).span.horizon → Some (record { horizon = m; size = (get_or t (b - 1) no_line).span.size + (get_or t (n - 1) no_line).span.size + 1 }) ≡ over_two st
  two_is [] m h q far = absurd (omega arith)
  two_is (ψ ∷ []) m h q far = absurd (omega (arith, ap (λ s. s.size) h.2, h.3))
  two_is (ψ ∷ (φ ∷ st)) m h q far =
      let e : b ≡ n - entries ψ = omega (arith, ap (λ s. s.size) h.2) in
      two_spans (get_or t (b - 1) no_line).span (get_or t (n - 1) no_line).span φ ψ m (rw e h.3.2) h.2 far
