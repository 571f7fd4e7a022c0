use Rattle.std.proofs.Common.{◌≡◌, ◌+◌, ◌-◌, ◌*◌, ◌%◌, ap, ◌∙◌, arith}
use Rattle.layout.specs.Shape.{shape}
use Rattle.layout.proofs.Workings.{entered_none, entered_one}
use Rattle.layout.proofs.entry_step.EntryStep.enter.Goals as goal

pub returns-in_default : goal.returns-in_default
returns-in_default g c = entered_none c.args.self.now.below c.take_in.ensures c.in_default.ensures

pub returns : goal.returns
returns g c =
    let step = c.args.self.now in
    let size = (shape step.row.now.rule.now).ring in
    let now : step.row.now.rows.count - 0 ≡ step.row.now.rows.count = omega arith in
    entered_one step.below c.take_in.ensures c.in-Some.ensures (omega (arith, step.far)) (c.place-place.ensures.place ∙ ap (λ row. step.at * size + row % size) now) (omega (arith, step.below)) (omega arith)
