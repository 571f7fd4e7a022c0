use Rattle.std.proofs.Common.{◌-◌, sym, ap, ◌∙◌}
use Rattle.rules.specs.Spans.{over_two}
use Rattle.rules.proofs.Stacks.{none_left, first, told, one_left}
use Rattle.rules.proofs.lines.Lines.over_two.Goals as goal

pub returns-in_err-right : goal.returns-in_err-right
returns-in_err-right c st h = c.from_residual.ensures ∙ sym (ap over_two (none_left _ _ st h (first c.args.self.now _ c.in_err-right.ensures)))

pub returns-in_err-left : goal.returns-in_err-left
returns-in_err-left c st h =
    let l = c.args.self.now in
    let right = told l l.count c.in_ok-right.right c.in_ok-right.ensures in
    c.from_residual-in_err-left.ensures ∙ one_left l.rows l.count _ right.0 (ap (λ s. l.count - s.size) right.1) st h (first l _ c.in_err-left.ensures)
