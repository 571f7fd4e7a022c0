use Rattle.std.proofs.Common.{refl}
use Rattle.watches.proofs.StepLaws.{stepped}
use Rattle.watches.proofs.watch.Watch.step.Goals as goal

pub returns : goal.returns
returns g c = stepped g.S.Scale.model (g.R.Record.model c.args.«record».now) c.args.poll c.args.self.now c.args.cells.now _ _ refl refl c.next-self.ensures.count c.in_ok-write_row.ensures
