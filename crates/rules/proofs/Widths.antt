-- The windows at the entries of a list are those of the formula that they leave. Assumes nothing.
use Rattle.std.proofs.Common.{◌≡◌, ℕ, zero, suc, ◌+◌, ◌-◌, ◌≤◌, true, List, [], ◌∷◌, length, IfSome, Ok, refl, ap, ◌∙◌, subst, arith}
use Rattle.formulas.specs.Formula.{Formula}
use Rattle.entries.specs.Operations.{OperationModel, HeadTest, ZoneTest, Not, Either, Both, Window}
use Rattle.entries.specs.declared.entry.Entry.{Entry}
use Rattle.rules.specs.Assemble.{built, alone, newest, stack}
use Rattle.rules.specs.Needs.{widths, widths_to, top_width}
use Rattle.rules.specs.Spans.{formula_at}
use Rattle.rules.proofs.Reading.{formula_is}
use Rattle.rules.proofs.Spelt.{ends_alone}
use Rattle.rules.proofs.Unwind.{last_entry}

-- of all formulas left
abbrev all-widths : List Formula → ℕ
all-widths [] = 0
all-widths (φ ∷ st) = widths φ + all-widths st

built-widths : (op : OperationModel) (st : List Formula) → IfSome (built op st) (λ s. all-widths s ≡ all-widths st + top_width (newest s))
built-widths (HeadTest h s l) st = omega arith
built-widths (ZoneTest k s l) st = omega arith
built-widths Not [] = tt
built-widths Not (φ ∷ st) = omega arith
built-widths Either [] = tt
built-widths Either (ψ ∷ []) = tt
built-widths Either (ψ ∷ (φ ∷ st)) = omega arith
built-widths Both [] = tt
built-widths Both (ψ ∷ []) = tt
built-widths Both (ψ ∷ (φ ∷ st)) = omega arith
built-widths (Window a b p) [] = tt
built-widths (Window a b p) (φ ∷ st) = omega arith

alone-widths : (st : List Formula) → alone st ≡ true → all-widths st ≡ widths (newest st)
alone-widths [] e = absurd (cc)
alone-widths (φ ∷ []) e = omega arith
alone-widths (φ ∷ (ψ ∷ st)) e = absurd (cc)

module _ (z : List ℕ) (es : List Entry) where
  widths_left : (n : ℕ) (st : List Formula) → stack z es n ≡ Ok st → widths_to (formula_at z es) n ≡ all-widths st
  unfolding stack
  widths_left zero [] e = refl
  widths_left zero (φ ∷ st) e = absurd (cc)
  widths_left (suc n) st e =
      let l = last_entry z es n st e in
      let more : all-widths st ≡ all-widths l.before + top_width (newest st) = subst (λ o. IfSome o (λ s. all-widths s ≡ all-widths l.before + top_width (newest s))) l.makes (built-widths l.op l.before) in
      omega (arith, more, widths_left n l.before l.after, ap top_width (formula_is z es n st e))

  pub widths_all : (st : List Formula) → 1 ≤ length es → stack z es (length es) ≡ Ok st → widths_to (formula_at z es) (length es) ≡ widths (newest st)
  widths_all st some e =
      let last : suc (length es - 1) ≡ length es = omega arith in
      widths_left (length es) st e ∙ alone-widths st (ends_alone z es (length es - 1) st last (ap (stack z es) last ∙ e))
