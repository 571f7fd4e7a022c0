use Rattle.std.proofs.Common.{sym, ap, ◌∙◌}
use Rattle.rules.specs.Spans.{over_one}
use Rattle.rules.proofs.Stacks.{none_left, first}
use Rattle.rules.proofs.lines.Lines.over_one.Goals as goal

pub returns-in_err-below : goal.returns-in_err-below
returns-in_err-below c st h = c.from_residual.ensures ∙ sym (ap (over_one c.args.further) (none_left _ _ st h (first c.args.self.now _ c.in_err-below.ensures)))
