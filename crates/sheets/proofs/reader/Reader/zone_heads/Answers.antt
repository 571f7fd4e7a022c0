use Rattle.std.proofs.Common.{refl, sym, ◌∙◌, arith}
use Rattle.sheets.proofs.ZoneHeads.{refused_above, refused_falling, refused_again, one_more, all_passed, all_listed, set_from_ok}
use Rattle.sheets.proofs.reader.Reader.zone_heads.Goals as goal

pub loop-head-init : goal.loop-head-init
loop-head-init c = record { left = λ zs m. refl; listed = λ h. rw c.empty-set.ensures refl }

pub returns-then-head-self : goal.returns-then-head-self
returns-then-head-self c zs met = refused_above c.loop-head.invariant _ refl zs met (omega arith) (omega arith)

pub returns-then-head-low : goal.returns-then-head-low
returns-then-head-low c zs met = refused_falling c.loop-head.invariant _ refl zs met (omega arith) (omega arith) (omega arith)

pub returns-then-contains : goal.returns-then-contains
returns-then-contains c zs met =
    refused_again c.loop-head.invariant _ refl zs met (omega arith) (omega arith) (omega arith) (sym c.contains.ensures ∙ c.if-contains.true)

pub loop-head-preserved : goal.loop-head-preserved
loop-head-preserved c =
    one_more c.loop-head.invariant _ refl _ (omega arith) (omega arith) (omega arith) (sym c.contains.ensures ∙ c.if-contains.false)
    (set_from_ok _ _ _ _ _ c.with.ensures c.in_ok-set.ensures.value)

pub returns : goal.returns
returns c zs met = (all_passed c.loop-head.invariant zs met (omega arith), all_listed c.loop-head.invariant zs met (omega arith))
