use Rattle.std.proofs.Common.{ap, ◌∙◌, arith, length-take}
use Rattle.std.specs.List.{insert}
use Rattle.runs.proofs.Shifts.{all_but_last}
use Rattle.runs.proofs.Kept.{put_done}
use Rattle.runs.proofs.run.OrderedRun.put.Goals as goal

pub returns-clause-puts : goal.returns-clause-puts
returns-clause-puts g c =
    let xs = c.args.self.now.cells.now in
    put_done (g.S.Scale.model c.args.scale.now).whole xs c.args.self.now.kept c.args.m _ c.place-at.result (omega arith) (omega (arith, length-take c.args.self.now.kept xs)) c.place-at.ensures.counts
    (c.insert_at.ensures ∙ ap (λ y. insert y c.place-at.result c.args.m) (all_but_last xs c.args.self.now.kept (omega arith)))
