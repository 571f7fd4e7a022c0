use Rattle.std.specs.Fmt.{WritesInCalls}
use Rattle.desk.specs.Ticks.{poll_step_of, ticks_from}
use Rattle.desk.proofs.plot.write_polls.Given as goal

abbrev pub invariant-loop-tick : goal.invariant-loop-tick
invariant-loop-tick g l = WritesInCalls g.W.Write.write_str_gives l.fn.out (ticks_from l.fn.frame.polls (poll_step_of l.fn.frame.polls) l.tick) l.out
