use Rattle.std.proofs.Common.{length, arith}
use Rattle.watches.proofs.RowFaults.{enough_cells}
use Rattle.watches.proofs.StepLaws.{written}
use Rattle.watches.proofs.watch.Watch.write_row.Goals as goal

pub returns : goal.returns
returns g c =
    written (g.S.Scale.model c.args.self.now.scale) c.args.self.now.rule (g.R.Record.model c.args.«record».now) c.args.poll c.args.self.now.rows.count c.args.cells.now
    (enough_cells c.args.self.now.rule (length c.args.cells.now) c.in_ok-check_cells.ensures) (omega arith) _ c.take_row.result c.in_ok-check_row.ensures c.take_row.ensures
