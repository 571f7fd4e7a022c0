use Rattle.std.proofs.Common.{refl, arith}
use Rattle.watches.proofs.StepLaws.{cleared}
use Rattle.watches.proofs.watch.Watch.clear.Goals as goal

pub returns : goal.returns
returns g c = cleared g.S.Scale.model c.args.self.now _ refl refl (omega arith)
