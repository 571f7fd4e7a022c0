-- The formula of a rule: what is read is lawful and spelled by the bytes, and what is lawful and spelled is read. Assumes nothing.
use Rattle.std.proofs.Common.{◌≡◌, ℕ, ◌-◌, List, [], ◌∷◌, ◌++◌, map, length, Ok, Err, Result, sym, ap, ◌∙◌, append-nil, arith}
use Rattle.std.specs.List.{concat}
use Rattle.formulas.specs.Formula.{Formula}
use Rattle.entries.proofs.Decoding.{writes}
use Rattle.entries.specs.Operations.{OperationModel}
use Rattle.entries.specs.Writing.{entry_of}
use Rattle.rules.proofs.Assembling.{assembled}
use Rattle.rules.specs.Assemble.{assemble}
use Rattle.rules.specs.Lawful.{Lawful}
use Rattle.rules.specs.Spelling.{entries, spelled, Written}
use Rattle.rules.specs.declared.fault.RuleFault.{RuleFault}
use Rattle.sheets.specs.Formulas.{Formulas, formula_by}
use Rattle.sheets.specs.Layout.{StretchModel, ended}
use Rattle.sheets.specs.Parts.{at_rule, rule_formula}
use Rattle.sheets.specs.Spelling.{formula_bytes}
use Rattle.sheets.proofs.FormulasBuilt.{built, put, formula_entries, built_spells}
use Rattle.sheets.proofs.FormulasRead.{formula_reads}
use Rattle.sheets.proofs.FormulasSpelled.{Parted, formula_parted}
use Rattle.sheets.proofs.Records.{Bytes, ended_good, ended_reads}
use Rattle.sheets.proofs.Chains.{bind_on, good_on}

at_rule_good : (at : ℕ) (r : Result Formula RuleFault) (φ : Formula) → at_rule at r ≡ Ok φ → r ≡ Ok φ
at_rule_good at (Ok ψ) φ e = cc
at_rule_good at (Err f) φ e = absurd (cc)

module _ (at : ℕ) (heads : List ℕ) (s : StretchModel) (φ : Formula) where
  -- what a good result went by
  by_formulas : {P : Type 0} → rule_formula at heads s ≡ Ok φ → ((f : Formulas) → formula_by 24 24 s ≡ Ok f → f.behind.bytes ≡ [] → assemble heads f.entries ≡ Ok φ → P) → P
  by_formulas e then =
      good_on (formula_by 24 24 s) _ φ e (λ f read e. good_on (ended at f.behind) _ φ e (λ _ full e. then f read (ended_good at f.behind full) (at_rule_good at (assemble heads f.entries) φ e)))

  pub rule_formula_lawful : rule_formula at heads s ≡ Ok φ → Lawful heads φ
  rule_formula_lawful e = by_formulas e (λ f _ _ meant. (assembled heads f.entries).lawful φ meant)

  one_part : (parts : List (List ℕ)) (xs : List ℕ) → length parts ≡ 1 → put parts [] ≡ xs ∷ [] → concat parts ≡ xs
  one_part [] xs one is = absurd (omega arith)
  one_part (x ∷ []) xs one is = let same : x ≡ xs = cc in append-nil x ∙ same
  one_part (x ∷ (y ∷ parts)) xs one is = absurd (omega arith)

  parted_spelled : (f : Formulas) → Parted 1 s f → f.behind.bytes ≡ [] → built f.entries [] ≡ formula_bytes φ ∷ [] → s.bytes ≡ formula_bytes φ
  parted_spelled f p full is =
      p.bytes ∙ ap (λ l. concat p.parts ++ l) full ∙ append-nil (concat p.parts) ∙ one_part p.parts (formula_bytes φ) p.many (sym (p.builds []) ∙ is)

  pub rule_formula_spelled : rule_formula at heads s ≡ Ok φ → Bytes s.bytes → s.bytes ≡ formula_bytes φ
  rule_formula_spelled e b =
      by_formulas e (λ f read full meant. parted_spelled f (formula_parted 24 24 s f b read) full (built_spells f.entries φ [] ((assembled heads f.entries).spells φ meant)))

written : (os : List OperationModel) → Written (map entry_of os) os
written [] = tt
written (o ∷ os) = (writes o, written os)

pub rule_formula_reads : (at place : ℕ) (heads : List ℕ) (φ : Formula) → Lawful heads φ → rule_formula at heads (record { place = place; bytes = formula_bytes φ }) ≡ Ok φ
rule_formula_reads at place heads φ law =
    let r = formula_reads heads φ law.ranged 24 24 (record { place = place; bytes = formula_bytes φ }) [] law.few_entries (omega arith) (omega arith) (sym (append-nil (formula_bytes φ))) in
    bind_on _ _ (record { entries = formula_entries φ; room = 24 - entries φ; behind = r.behind }) _ r.is
    (bind_on _ _ tt _ (ended_reads at r.behind r.bytes) (ap (at_rule at) ((assembled heads (formula_entries φ)).assembles φ (written (spelled φ)) law)))
