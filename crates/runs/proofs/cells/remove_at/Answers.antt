use Rattle.std.proofs.Common.{sym, arith}
use Rattle.runs.proofs.Shifts.{taken_down}
use Rattle.runs.proofs.cells.remove_at.Goals as goal

pub returns : goal.returns
returns g c = taken_down c.args.cells.now c.args.at _ _ _ c.requires (omega arith) (sym c.index-cells-last.is) c.rotate_left.ensures.after
