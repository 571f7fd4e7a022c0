use Rattle.std.proofs.Common.{refl}
use Rattle.worked.proofs.CallLaws.{worth_anew}
use Rattle.worked.proofs.calls.begun_anew.Goals as goal

pub returns : goal.returns
returns g c =
    worth_anew g.S.Scale.model c.args.rule c.args.scale (g.A.Record.model c.args.early.now) (g.B.Record.model c.args.late.now) _ _ _ _ _ _ _ c.args.cells.now c.step.new.cells _ c.step-2.new.cells c.step.new.cells _ _ _ _ _ _ _ _ _ c.ask.result _
    c.new-watch.ensures c.step.ensures refl refl c.step-2.ensures refl c.play.ensures c.ask.ensures.asked c.clear.ensures c.play-2.ensures c.step-3.ensures c.ask-2.ensures.worth
