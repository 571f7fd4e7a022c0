use Rattle.std.specs.Fmt.{WritesInCalls}
use Rattle.desk.specs.Bands.{highest_text}
use Rattle.desk.proofs.plot.write_highest.Given as goal

abbrev pub invariant-loop-at : goal.invariant-loop-at
invariant-loop-at g l = WritesInCalls g.W.Write.write_str_gives l.fn.out (highest_text l.fn.frame l.fn.columns.each l.fn.columns.columns.items l.at) l.out
