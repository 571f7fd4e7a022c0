-- When a list of entries assembles, and what is known of one that does. Assumes nothing.
use Rattle.std.proofs.Common.{◌≡◌, ℕ, suc, ◌-◌, ◌≤◌, Bool, true, false, cond, ◌&&◌, List, length, is_ok, Ok, Err, Result, sym, refl, ap, ap₂, ◌∙◌, arith}
use Rattle.std.proofs.lemmas.Bool.{leb-true, le-leb, and_parts, cond-true, cond-false}
use Rattle.std.specs.Result.{result_unwrap_or}
use Rattle.formulas.specs.Formula.{Formula}
use Rattle.entries.specs.declared.entry.Entry.{Entry}
use Rattle.rules.specs.Assemble.{starting, newest, on, stack, fair, fair_count, fair_heads, assemble, formula_of}
use Rattle.rules.specs.Spans.{left, formula_at}
use Rattle.rules.specs.declared.fault.RuleFault.{RuleFault}
use Rattle.rules.specs.declared.fault.RuleFault.TheVariants.{EntryCount, ZoneHeadCount}

pub record Fair (z : List ℕ) (es : List Entry) : Type 0 where
  pub some : 1 ≤ length es
  pub few : length es ≤ 24
  pub heads : 1 ≤ length z
  pub near : length z ≤ 32

pub fair_is : (z : List ℕ) (es : List Entry) → fair_count (length es) ≡ true → fair_heads (length z) ≡ true → Fair z es
fair_is z es c h =
    let a = and_parts _ _ c in
    let b = and_parts _ _ h in
    record { some = leb-true _ _ a.0; few = leb-true _ _ a.1; heads = leb-true _ _ b.0; near = leb-true _ _ b.1 }

pub fair_true : {n most : ℕ} → 1 ≤ n → n ≤ most → fair n most ≡ true
fair_true some few = ap₂ ◌&&◌ (le-leb _ _ some) (le-leb _ _ few)

module _ (z : List ℕ) (es : List Entry) where
  all_walked : fair_count (length es) ≡ true → fair_heads (length z) ≡ true → assemble z es ≡ on (stack z es (length es)) (λ st. Ok (newest st))
  unfolding assemble
  all_walked c h = cond-true _ _ _ c ∙ cond-true _ _ _ h

  pub accepted : (st : List Formula) → fair_count (length es) ≡ true → fair_heads (length z) ≡ true → stack z es (length es) ≡ Ok st → assemble z es ≡ Ok (newest st)
  accepted st c h e = all_walked c h ∙ ap (λ r. on r (λ s. Ok (newest s))) e

  pub refused : (f : RuleFault) → fair_count (length es) ≡ true → fair_heads (length z) ≡ true → stack z es (length es) ≡ Err f → assemble z es ≡ Err f
  refused f c h e = all_walked c h ∙ ap (λ r. on r (λ s. Ok (newest s))) e

  pub bad_count : fair_count (length es) ≡ false → assemble z es ≡ Err (EntryCount (length es))
  unfolding assemble
  bad_count c = cond-false _ _ _ c

  pub bad_heads : fair_count (length es) ≡ true → fair_heads (length z) ≡ false → assemble z es ≡ Err (ZoneHeadCount (length z))
  unfolding assemble
  bad_heads c h = cond-true _ _ _ c ∙ cond-false _ _ _ h

  pub formula_is_of : (φ : Formula) → assemble z es ≡ Ok φ → formula_of z es ≡ φ
  unfolding formula_of
  formula_is_of φ e = ap (λ r. result_unwrap_or r starting) e

-- what a list that assembles has
pub record Passed (z : List ℕ) (es : List Entry) : Type 0 where
  pub fair : Fair z es
  pub formulas : List Formula
  pub after : stack z es (length es) ≡ Ok formulas
  pub one : formula_of z es ≡ newest formulas
  pub whole : formula_of z es ≡ formula_at z es (length es - 1)
  pub is : assemble z es ≡ Ok (formula_of z es)

pub passed : (z : List ℕ) (es : List Entry) → is_ok (assemble z es) ≡ true → Passed z es
unfolding assemble formula_at
passed z es ok = go (fair_count (length es)) (fair_heads (length z)) (stack z es (length es)) refl refl refl ok
  where
    go : (b h : Bool) (r : Result (List Formula) RuleFault) → fair_count (length es) ≡ b → fair_heads (length z) ≡ h → stack z es (length es) ≡ r → is_ok (cond b (cond h (on r (λ st. Ok (newest st))) (Err (ZoneHeadCount (length z)))) (Err (EntryCount (length es)))) ≡ true → Passed z es
    go false h r c d f e = absurd (cc)
    go true false r c d f e = absurd (cc)
    go true true (Err g) c d f e = absurd (cc)
    go true true (Ok st) c d f e =
        let fair = fair_is z es c d in
        let last : suc (length es - 1) ≡ length es = omega arith in
        let all = accepted z es st c d f in
        let one : formula_of z es ≡ newest st = formula_is_of z es (newest st) all in
        record {
          fair = fair;
          formulas = st;
          after = f;
          one = one;
          whole = one ∙ ap (λ r. newest (left r)) (sym f) ∙ ap (λ k. newest (left (stack z es k))) (sym last);
          is = all ∙ ap Ok (sym one);
        }

pub passed_by : (z : List ℕ) (es : List Entry) (φ : Formula) → assemble z es ≡ Ok φ → Passed z es
passed_by z es φ e = passed z es (ap is_ok e)
