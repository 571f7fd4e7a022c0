use Rattle.firmware.proofs.Playing.{Going}
use Rattle.firmware.proofs.plays.play_record.Given as goal

abbrev pub invariant-loop-poll : goal.invariant-loop-poll
invariant-loop-poll g l = Going g.S.Plain.most g.S.Scale.model g.S.Plain.told (g.R.Record.model l.«record») l.initial.watch l.initial.cells l.initial.list l.poll l.watch l.cells l.list l.margins
