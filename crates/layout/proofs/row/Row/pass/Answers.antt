use Rattle.std.proofs.Common.{length, ap, ◌∙◌, arith}
use Rattle.layout.specs.Shape.{shape, run_width}
use Rattle.layout.proofs.Shapes.{standing, node_there}
use Rattle.layout.proofs.Passes.{next_fits}
use Rattle.layout.proofs.row.Row.pass.Goals as goal

pub overflow_add-to : goal.overflow_add-to
overflow_add-to g c =
    let r = c.args.self.now.rule.now in
    let node = node_there r c.args.at c.node.result c.unwrap-node.result c.unwrap-node.ensures c.node.ensures.value (omega (arith, c.requires.below)) in
    omega (arith, next_fits (shape r) _ c.args.at (standing r (length c.args.cells.now) c.requires.enough) c.requires.below, c.width.ensures.value ∙ ap run_width node, c.requires.begins)
