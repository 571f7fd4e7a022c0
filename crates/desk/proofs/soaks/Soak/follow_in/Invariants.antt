use Rattle.desk.proofs.HearLaws.{Heard}
use Rattle.desk.proofs.soaks.Soak.follow_in.Given as goal

abbrev pub invariant-loop-poll : goal.invariant-loop-poll
invariant-loop-poll g l =
    Heard g.S.Scale.model l.rule l.self.scale (g.R.Record.model l.self.«record».now) g.L.Listener.heard l.poll l.pair.margins l.pair.verdicts l.cells l.verdict_cells l.initial.listener l.listener
