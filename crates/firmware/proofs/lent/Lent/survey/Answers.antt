use Rattle.std.proofs.Common.{◌≡◌, length, Some, Ok, Err, ap, ◌∙◌, to_z-of_z, w32, to_z, of_z, rules}
use Rattle.entries.specs.Heads.{heads as heads_of}
use Rattle.firmware.specs.Cells.{cell_whole}
use Rattle.firmware.specs.Surveys.{told_whole}
use Rattle.firmware.proofs.InCells.{answered, passed_on}
use Rattle.firmware.proofs.lent.Lent.survey.Goals as goal

pub returns-in_err-cell-clause-answer : goal.returns-in_err-cell-clause-answer
returns-in_err-cell-clause-answer g c =
    ap (told_whole g.S.Plain.told) (passed_on _ _ c.from_residual-in_err-cell.ensures.0 c.from_residual-in_err-cell.ensures.1)
    ∙ answered g.S.Plain.most (g.S.Scale.model c.args.scale) (heads_of c.args.self.zone) c.args.self.entries.now c.args.self.heads c.args.self.polls c.args.self.readings.now (length c.args.cells.now) c.args.poll c.in_ok-rule.rule _ (Err c.in_err-cell.field-0.0) c.in_ok-rule.ensures c.in_ok-grid.ensures.0
    c.in_ok-grid.ensures.1 c.in_err-cell.ensures.answer

pub returns-clause-answer : goal.returns-clause-answer
returns-clause-answer g c =
    let cell = c.in_ok-cell.cell in
    let read : to_z w32 (of_z w32 cell) ≡ cell = to_z-of_z {w = w32} (search rules) in
    ap Ok (c.tell.ensures ∙ ap (λ z. Some (cell_whole g.S.Plain.most z)) read)
    ∙ answered g.S.Plain.most (g.S.Scale.model c.args.scale) (heads_of c.args.self.zone) c.args.self.entries.now c.args.self.heads c.args.self.polls c.args.self.readings.now (length c.args.cells.now) c.args.poll c.in_ok-rule.rule _ (Ok cell) c.in_ok-rule.ensures c.in_ok-grid.ensures.0 c.in_ok-grid.ensures.1
    c.in_ok-cell.ensures.answer
