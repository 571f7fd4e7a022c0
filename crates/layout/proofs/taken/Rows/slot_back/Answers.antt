use Rattle.std.proofs.Common.{◌+◌, ◌-◌, ap, ◌∙◌, arith}
use Rattle.layout.proofs.RingLaws.{back_within, back_round}
use Rattle.layout.proofs.taken.Rows.slot_back.Goals as goal

pub returns-then-back-self : goal.returns-then-back-self
returns-then-back-self c = let r = c.args.self in ap (λ s. s - c.args.back) r.standing ∙ back_within r.ring r.count c.args.back r.some (omega (arith, r.standing, c.if-back-self.true))

pub returns-else-back-self : goal.returns-else-back-self
returns-else-back-self c = let r = c.args.self in ap (λ s. s + (r.ring - c.args.back)) r.standing ∙ back_round r.ring r.count c.args.back r.some (omega (arith, r.standing)) c.requires.taken c.requires.held
