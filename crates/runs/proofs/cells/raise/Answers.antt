use Rattle.std.proofs.Common.{set, ap, ◌∙◌, arith}
use Rattle.runs.proofs.Shifts.{turned_up, copied_up}
use Rattle.runs.proofs.cells.raise.Goals as goal

pub returns-then-last-at-lt-SHORT : goal.returns-then-last-at-lt-SHORT
returns-then-last-at-lt-SHORT g c = λ m. ap (λ l. set l c.args.at m) c.copy_within.ensures.after ∙ copied_up c.args.cells.now c.args.at _ m c.requires (omega arith)

pub returns-else-last-at-lt-SHORT : goal.returns-else-last-at-lt-SHORT
returns-else-last-at-lt-SHORT g c = λ m. turned_up c.args.cells.now c.args.at m _ c.requires c.rotate_right.ensures.after
