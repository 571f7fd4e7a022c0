use Rattle.std.proofs.Common.{◌+◌, ap, ◌∙◌, mod-lt, arith}
use Rattle.layout.proofs.RingLaws.{next_within, next_round}
use Rattle.layout.proofs.taken.Rows.slot_after.Goals as goal

pub overflow_add-after : goal.overflow_add-after
overflow_add-after c = let r = c.args.self in omega (arith, r.standing, mod-lt r.count {m = r.ring} r.some)

pub returns-then-after-self : goal.returns-then-after-self
returns-then-after-self c = let r = c.args.self in ap (λ s. s + 1) r.standing ∙ next_within r.ring r.count r.some (omega (arith, r.standing))

pub returns-else-after-self : goal.returns-else-after-self
returns-else-after-self c = let r = c.args.self in next_round r.ring r.count r.some (omega (arith, r.standing))
