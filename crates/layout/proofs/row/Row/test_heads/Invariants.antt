use Rattle.entries.specs.Iter.{heads_left}
use Rattle.layout.specs.Shape.{shape}
use Rattle.layout.specs.Steps.{row_at}
use Rattle.layout.proofs.Workings.{TestedTo}
use Rattle.layout.proofs.row.Row.test_heads.Given as goal

abbrev pub invariant-loop-place : goal.invariant-loop-place
invariant-loop-place g l =
    TestedTo (g.S.Scale.model l.self.scale.now) (shape l.self.rule.now) (row_at (g.R.Record.model l.self.record) l.self.poll) l.test.sense l.test.limit.value l.place (heads_left l.head-iterator) l.cells
