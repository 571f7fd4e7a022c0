-- What is read is a grid, and what is refused is none. Assumes nothing.
use Rattle.std.proofs.Common.{◌≡◌, ◌++◌, length, sym, ap, ◌∙◌, arith, rules}
use Rattle.texts.specs.Parts.{lines, lines_of}
use Rattle.texts.specs.Grids.{FaultIs, rows_fault, readings_in, grid_lines_fault}
use Rattle.texts.proofs.GridSense.{is_grid, refused_by}
use Rattle.texts.proofs.RowLaws.{lawful_grid, some_head}
use Rattle.texts.proofs.grid_text.read_grid.Goals as goal

pub returns-clause-lawful : goal.returns-clause-lawful
returns-clause-lawful g c =
    let read = c.in_ok-polls.ensures in
    let few = some_head c.in-Some.first.text.now c.heads_of-heads.result c.heads_of-heads.ensures in
    lawful_grid c.heads_of-heads.result c.in_ok-polls.polls _ few.0 few.1 read.few (omega (arith, read.filled, ap length c.new-readings.ensures.items))

pub returns-clause-grid : goal.returns-clause-grid
returns-clause-grid g c =
    let w = g.T.Written.written in
    let heads = c.heads_of-heads.result in
    let polls = c.in_ok-polls.polls in
    let read = c.in_ok-polls.ensures in
    let few = some_head c.in-Some.first.text.now heads c.heads_of-heads.ensures in
    let same : lines c.content-text.result.now ≡ lines_of c.args.text.now = ap lines c.content-text.ensures in
    let some = sym (ap (λ t. length (lines t)) c.of-lines.ensures.rest) ∙ ap length c.in-Some.ensures.0 in
    is_grid w (lines_of c.args.text.now) heads polls _
    (ap (rows_fault w heads 1) (sym same) ∙ read.fault)
    (read.readings ∙ ap (λ xs. xs ++ readings_in w (lines c.content-text.result.now)) c.new-readings.ensures.items ∙ ap (readings_in w) same)
    (read.polls ∙ ap length same)
    (omega (arith, read.polls, some))
    read.few
    few.1

pub returns-in_err-polls-clause-refused : goal.returns-in_err-polls-clause-refused
returns-in_err-polls-clause-refused g c =
    let w = g.T.Written.written in
    let fault : FaultIs (grid_lines_fault w (lines_of c.args.text.now)) c.from_residual.result = search rules in
    refused_by w (lines_of c.args.text.now) c.from_residual.result fault
