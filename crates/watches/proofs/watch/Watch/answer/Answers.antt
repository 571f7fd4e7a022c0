use Rattle.std.proofs.Common.{length, arith}
use Rattle.watches.proofs.RowFaults.{enough_cells}
use Rattle.watches.proofs.AskLaws.{has_rows, asked_at}
use Rattle.watches.proofs.watch.Watch.answer.Goals as goal

pub returns : goal.returns
returns g c =
    asked_at g.S.Scale.model c.args.self.now c.args.cells.now c.horizon-horizon.result (enough_cells c.args.self.now.rule (length c.args.cells.now) c.in_ok-check_cells.ensures) c.horizon-horizon.ensures.value _ _ c.in-Some.margin (omega (arith, c.horizon-horizon.ensures.value))
    (omega (arith, has_rows c.args.self.now.rule _ _ c.in-Some.ensures.there, c.horizon-horizon.ensures.value)) (omega arith) c.in-Some.ensures.value
