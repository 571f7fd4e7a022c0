use Rattle.std.proofs.Common.{rules, arith}
use Rattle.layout.proofs.Moves.{fits, taken_in}
use Rattle.layout.proofs.EntrySteps.{stands}
use Rattle.layout.proofs.entry_step.EntryStep.take_in.Goals as goal

pub offset_bounds-cells-self : goal.offset_bounds-cells-self
offset_bounds-cells-self g c = let at = fits (stands c.args.self.now _ c.node.ensures c.in-Window.is c.requires) in search rules

pub slice_bounds-part-end : goal.slice_bounds-part-end
slice_bounds-part-end g c = let at = fits (stands c.args.self.now _ c.node.ensures c.in-Window.is c.requires) in search rules

pub returns : goal.returns
returns g c =
    let step = c.args.self.now in
    taken_in (g.S.Scale.model step.row.now.scale.now).whole step.row.now.rows.count c.args.cells.now (stands step _ c.node.ensures c.in-Window.is c.requires)
    _ c.back-newest.result c.slide.result c.unwrap.result _ (omega arith) (omega arith) (omega arith) (c.back-newest.ensures _) c.args.leaving c.slide.ensures
