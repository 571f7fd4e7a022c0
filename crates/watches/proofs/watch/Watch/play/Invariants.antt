use Rattle.watches.proofs.PlayLaws.{Playing}
use Rattle.watches.proofs.watch.Watch.play.Given as goal

abbrev pub invariant-loop-taken : goal.invariant-loop-taken
invariant-loop-taken g l = Playing g.S.Scale.model (g.R.Record.model l.«record») l.first l.initial.self l.initial.cells l.taken l.self l.cells
