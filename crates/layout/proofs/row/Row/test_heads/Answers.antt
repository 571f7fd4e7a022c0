use Rattle.layout.proofs.Workings.{tested_next, tested_stop, tested_all}
use Rattle.layout.proofs.row.Row.test_heads.Goals as goal

pub loop-place-preserved : goal.loop-place-preserved
loop-place-preserved g c = tested_next c.loop-place.invariant c.in-Some.ensures.steps c.requires.heads c.in_ok-cells.ensures

pub returns-in_err-cells : goal.returns-in_err-cells
returns-in_err-cells g c = rw c.from_residual.ensures (tested_stop c.loop-place.invariant c.in-Some.ensures.steps c.requires.heads c.in_err-cells.ensures)

pub returns : goal.returns
returns g c = tested_all c.loop-place.invariant c.in-None.ensures.steps.0
