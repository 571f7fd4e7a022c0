use Rattle.layout.specs.Steps.{row_at}
use Rattle.layout.specs.Shape.{shape}
use Rattle.layout.proofs.Passes.{EnteredTo}
use Rattle.layout.proofs.rows.take_row.Given as goal

abbrev pub invariant-loop-at : goal.invariant-loop-at
invariant-loop-at g l =
    -- the last field of the row
    let rows = l.row.1.1.1.1.0 in
    EnteredTo (g.S.Scale.model l.scale) (shape l.rule) (row_at (g.R.Record.model l.«record») l.poll) rows.count l.at l.from l.leaving l.initial.cells l.cells
