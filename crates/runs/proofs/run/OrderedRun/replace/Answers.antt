use Rattle.std.proofs.Common.{arith, length-take}
use Rattle.runs.proofs.Splices.{replace_done}
use Rattle.runs.proofs.run.OrderedRun.replace.Goals as goal

pub returns-clause-replaces : goal.returns-clause-replaces
returns-clause-replaces g c =
    let xs = c.args.self.now.cells.now in
    replace_done (g.S.Scale.model c.args.scale.now).whole xs c.args.self.now.kept c.args.old c.args.new _ c.in-Some.gone c.place-at.result (omega arith) c.in-Some.ensures (omega (arith, length-take c.args.self.now.kept xs)) c.place-at.ensures.counts
    c.replace_at.ensures.up c.replace_at.ensures.down
