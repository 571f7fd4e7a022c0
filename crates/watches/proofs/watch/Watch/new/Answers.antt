use Rattle.std.proofs.Common.{refl, arith}
use Rattle.watches.proofs.StepLaws.{made}
use Rattle.watches.proofs.watch.Watch.new.Goals as goal

pub returns : goal.returns
returns g c = made g.S.Scale.model c.args.rule c.args.scale _ refl refl (omega arith)
