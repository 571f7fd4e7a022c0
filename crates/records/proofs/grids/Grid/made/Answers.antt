-- The grid made has the numbers that it was given. Assumes nothing.
use Rattle.records.proofs.grids.Grid.made.Goals as goal

pub returns-clause-grid : goal.returns-clause-grid
returns-clause-grid g c = cc (c.in_ok-size.ensures.heads, c.in_ok-size.ensures.polls)
