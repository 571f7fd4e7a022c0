use Rattle.std.proofs.Common.{◌+◌, arith}
use Rattle.layout.proofs.Shapes.{zone_size}
use Rattle.layout.proofs.Frames.{part_outside, part_long}
use Rattle.layout.proofs.Workings.{zoned_none, zoned_some}
use Rattle.layout.proofs.row.Row.zone_margin.Goals as goal

pub returns-in_err-test_heads : goal.returns-in_err-test_heads
returns-in_err-test_heads g c =
    let from = c.args.from in
    let to = c.args.from + c.size.result in
    let size = zone_size c.args.self.now.rule.now c.size.ensures c.zone.ensures in
    let long = part_long from to c.args.cells.now _ (omega arith) c.test_heads.auto.cells in
    rw c.from_residual.ensures (zoned_none (omega arith) (part_outside from to c.args.cells.now _ (omega arith) (omega arith) long) c.in_err-test_heads.ensures)

pub returns : goal.returns
returns g c =
    let from = c.args.from in
    let to = c.args.from + c.size.result in
    let size = zone_size c.args.self.now.rule.now c.size.ensures c.zone.ensures in
    let long = part_long from to c.args.cells.now _ (omega arith) c.test_heads.auto.cells in
    zoned_some (omega arith) (omega arith) (omega arith) (omega arith) (part_outside from to c.args.cells.now _ (omega arith) (omega arith) long) c.in_ok-test_heads.ensures c.pick.ensures.is
