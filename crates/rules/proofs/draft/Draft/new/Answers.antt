use Rattle.std.proofs.Common.{ℕ, Err, sym, ap, ◌∙◌}
use Rattle.rules.specs.Assemble.{fair}
use Rattle.rules.specs.declared.fault.RuleFault.TheVariants.{ZoneHeadCount}
use Rattle.rules.proofs.Grounds.{bad_count, bad_heads}
use Rattle.rules.proofs.draft.Draft.new.Goals as goal

pub returns-then-not-fair : goal.returns-then-not-fair
returns-then-not-fair c = bad_count _ _ (sym c.fair.ensures ∙ c.if-not-fair.true)

pub returns-then-not-fair-2 : goal.returns-then-not-fair-2
returns-then-not-fair-2 c =
    let none = ap (λ n. fair n 32) (sym c.size-heads.ensures) ∙ sym c.fair-2.ensures ∙ c.if-not-fair-2.true in
    bad_heads _ _ (sym c.fair.ensures ∙ c.if-not-fair.false) none ∙ sym (ap (λ (n : ℕ). Err (ZoneHeadCount n)) c.size-heads.ensures)
