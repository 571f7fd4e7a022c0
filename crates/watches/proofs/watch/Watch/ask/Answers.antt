use Rattle.watches.proofs.WorthLaws.{after_every_run}
use Rattle.watches.proofs.watch.Watch.ask.Goals as goal

pub returns : goal.returns
returns g c = record { asked = c.answer.ensures; worth = after_every_run g.S.Scale.model c.args.self.now c.args.cells.now _ c.answer.ensures }
