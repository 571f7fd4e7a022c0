use Rattle.std.proofs.Common.{◌+◌, ◌-◌, arith}
use Rattle.layout.specs.Shape.{shape}
use Rattle.layout.proofs.Shapes.{standing}
use Rattle.layout.proofs.rings.Ring.operand.Goals as goal

pub back-requires : goal.back-requires
back-requires g c =
    let ring = c.args.self.now in
    let near = (standing ring.rule.now _ ring.enough).lawful.near ring.at ring.below in
    record { taken = omega (arith, ring.far); held = omega (arith, ring.far, near) }

pub returns : goal.returns
returns g c whole want r =
    let ring = c.args.self.now in
    let rule = ring.rule.now in
    let near = (standing rule _ ring.enough).lawful.near ring.at ring.below in
    c.back.ensures whole want (ring.rows.count + 1) (ring.rows.count - (shape rule).hz ring.at) r (omega (arith, ring.far)) (omega arith) (omega arith)
