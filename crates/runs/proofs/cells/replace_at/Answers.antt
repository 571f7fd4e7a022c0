use Rattle.std.proofs.Common.{arith}
use Rattle.runs.proofs.Shifts.{moved_down}
use Rattle.runs.proofs.cells.replace_at.Goals as goal

pub returns-else-at-gone-clause-down : goal.returns-else-at-gone-clause-down
returns-else-at-gone-clause-down g c h = moved_down c.args.cells.now c.args.gone c.args.at c.args.m _ h (omega arith) c.remove_at.ensures
