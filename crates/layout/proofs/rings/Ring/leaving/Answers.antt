use Rattle.std.proofs.Common.{◌+◌, ap, ◌∙◌, arith}
use Rattle.rules.specs.Nodes.{model}
use Rattle.layout.specs.Shape.{shape, run_width}
use Rattle.layout.proofs.Shapes.{lawful, node_there, node_below}
use Rattle.layout.proofs.Moves.{leaving_one, wide}
use Rattle.layout.proofs.rings.Ring.leaving.Goals as goal

pub back-requires : goal.back-requires
back-requires g c =
    let ring = c.args.self.now in
    let r = ring.rule.now in
    let below = node_below r (ring.at + 1) c.node.result c.in-Some-Window.over c.in-Some-Window.is c.node.ensures.value in
    let is = node_there r (ring.at + 1) c.node.result c.in-Some-Window.over c.in-Some-Window.is c.node.ensures.value below in
    record { taken = omega arith; held = omega (arith, c.width-width.ensures.value ∙ ap run_width is, wide (shape r) (ring.at + 1) (lawful r) below) }

pub returns : goal.returns
returns g c whole below =
    let ring = c.args.self.now in
    let r = ring.rule.now in
    leaving_one (shape r) whole ring.rows.count ring.at c.width-width.result _ ring.cells.now c.back.result (lawful r) below (omega (arith, ring.far)) (omega arith) (c.back.ensures whole) (model c.in-Some-Window.over)
    (node_there r (ring.at + 1) c.node.result c.in-Some-Window.over c.in-Some-Window.is c.node.ensures.value below) c.width-width.ensures.value
