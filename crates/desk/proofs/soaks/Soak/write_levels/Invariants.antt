use Rattle.std.specs.Fmt.{WritesInCalls}
use Rattle.desk.specs.Ticks.{levels_text}
use Rattle.desk.proofs.soaks.Soak.write_levels.Given as goal

abbrev pub invariant-loop-at : goal.invariant-loop-at
invariant-loop-at g l = WritesInCalls g.W.Write.write_str_gives l.initial.out (levels_text g.S.Measured.told_in l.fn.frame l.fn.step l.fn.below l.at) l.out
