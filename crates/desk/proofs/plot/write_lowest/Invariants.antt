use Rattle.std.proofs.Common.{◌≡◌, ◌-◌, ◌++◌, ℕ, List, length}
use Rattle.std.specs.Fmt.{WritesInCalls}
use Rattle.desk.specs.Bands.{lowest_text}
use Rattle.desk.proofs.plot.write_lowest.Given as goal

abbrev pub invariant-loop-back : goal.invariant-loop-back
invariant-loop-back g l =
    (text : List ℕ) × WritesInCalls g.W.Write.write_str_gives l.fn.out text l.out
    × (text ++ lowest_text l.fn.frame l.fn.columns.each l.fn.columns.columns.items (length l.fn.columns.columns.items - l.back) ≡ lowest_text l.fn.frame l.fn.columns.each l.fn.columns.columns.items (length l.fn.columns.columns.items))
