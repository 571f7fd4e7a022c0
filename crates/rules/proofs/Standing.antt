-- What is known of every rule, and of each of its entries. Assumes nothing.
use Rattle.std.proofs.Common.{◌≡◌, ℕ, ◌-◌, ◌<◌, ◌≤◌, length, get_or, sym, ap, ◌∙◌, arith}
use Rattle.std.proofs.lemmas.List.{get_or_default}
use Rattle.formulas.specs.Formula.{horizon, reads}
use Rattle.rules.specs.Lawful.{Lawful}
use Rattle.rules.specs.Needs.{widths, widths_to}
use Rattle.rules.specs.Parts.{Part, Whole}
use Rattle.rules.specs.Rules.{zone, listed, formula, part}
use Rattle.rules.specs.Spans.{formula_at, no_line}
use Rattle.rules.specs.Spelling.{Spells}
use Rattle.rules.specs.declared.line.Line.{Line}
use Rattle.rules.specs.declared.rule.Rule.{Rule}
use Rattle.rules.proofs.Assembling.{spells_formula, lawful_formula}
use Rattle.rules.proofs.Depths.{near_at, ranged_at, reads_at}
use Rattle.rules.proofs.Grounds.{Passed, passed}
use Rattle.rules.proofs.Spelt.{operands}
use Rattle.rules.proofs.Stacks.{listed-length as lines_listed-length}
use Rattle.rules.proofs.Widths.{widths_all}

pub passes : (r : Rule) → Passed (zone r) (listed r)
passes r = passed (zone r) (listed r) r.lawful

-- the entries spell the formula, and it is lawful
pub spells_it : (r : Rule) → Spells (listed r) (formula r)
spells_it r = spells_formula (zone r) (listed r) (formula r) (passes r).is

pub lawful_is : (r : Rule) → Lawful (zone r) (formula r)
lawful_is r = lawful_formula (zone r) (listed r) (formula r) (passes r).is

module _ (r : Rule) where
  pub listed-length : length (listed r) ≡ r.lines.count
  listed-length = lines_listed-length r.lines

  pub some : 1 ≤ r.lines.count
  some = omega (arith, listed-length, (passes r).fair.some)

  pub horizon_is : (n : ℕ) (d : Line) → n ≡ length (listed r) → (get_or r.lines.rows (n - 1) d).span.horizon ≡ horizon (formula r)
  horizon_is n d all =
      let within : n - 1 < length r.lines.rows = omega (arith, some, listed-length, r.lines.room, r.lines.few) in
      ap (λ x. x.span.horizon) (get_or_default r.lines.rows (n - 1) d no_line within)
      ∙ ap (λ s. s.horizon) (r.known (n - 1) (omega (arith, some, listed-length)))
      ∙ ap (λ k. horizon (formula_at (zone r) (listed r) (k - 1))) all
      ∙ ap horizon (sym (passes r).whole)

  pub part_is : (i : ℕ) → i < r.lines.count → Part r i
  part_is i lt =
      let p = passes r in
      let within : i < length (listed r) = omega (arith, listed-length) in
      record {
        operands = operands (zone r) (listed r) p.formulas i p.after within;
        ranged = ranged_at (zone r) (listed r) p.formulas i p.after within;
        near = omega (arith, near_at (zone r) (listed r) p.formulas i p.after within, ap horizon p.one);
        reads_on = λ h e. ap (λ φ. reads (zone r) φ h) p.one ∙ reads_at (zone r) (listed r) h p.formulas i p.after within e;
      }

  pub whole_is : Whole r
  whole_is =
      record {
        spells = spells_it r;
        lawful = lawful_is r;
        last = ap (λ k. part r (k - 1)) (sym listed-length) ∙ sym (passes r).whole;
        windows = ap (widths_to (part r)) (sym listed-length) ∙ widths_all (zone r) (listed r) (passes r).formulas (passes r).fair.some (passes r).after ∙ ap widths (sym (passes r).one);
      }
