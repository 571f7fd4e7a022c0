use Rattle.std.proofs.Common.{take-append-drop, arith}
use Rattle.runs.proofs.Kept.{take_none, take_done}
use Rattle.runs.proofs.run.OrderedRun.take.Goals as goal

pub returns-in_default-clause-takes : goal.returns-in_default-clause-takes
returns-in_default-clause-takes g c =
    rw take-append-drop (take_none (g.S.Scale.model c.args.scale.now).whole c.args.self.now.cells.now c.args.self.now.kept c.args.m (c.in_default.ensures))

pub returns-clause-takes : goal.returns-clause-takes
returns-clause-takes g c =
    take_done (g.S.Scale.model c.args.scale.now).whole c.args.self.now.cells.now c.args.self.now.kept c.args.m _ c.in-Some.at (omega arith) c.in-Some.ensures c.remove_at.ensures
