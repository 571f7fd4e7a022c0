use Rattle.std.proofs.Common.{rules, ◌+◌, ◌-◌, ◌<◌, length, arith}
use Rattle.layout.specs.Steps.{row_at}
use Rattle.layout.proofs.Shapes.{tests_at}
use Rattle.layout.proofs.Moves.{fair, fits}
use Rattle.layout.proofs.EntrySteps.{stands}
use Rattle.layout.proofs.Workings.{work_head, work_zone, work_not, work_either, work_both, work_window}
use Rattle.layout.proofs.entry_step.EntryStep.work_out.Goals as goal

pub overflow_sub-tests : goal.overflow_sub-tests
overflow_sub-tests g c =
    let r = c.args.self.now.row.now.rule.now in
    let f = fair (stands c.args.self.now _ c.node.ensures c.in-ZoneTest.is c.requires.enough) in
    (tests_at r c.need.ensures c.size.ensures c.zone.ensures f.1).fits

pub zone_margin-requires : goal.zone_margin-requires
zone_margin-requires g c =
    let r = c.args.self.now.row.now.rule.now in
    let f = fair (stands c.args.self.now _ c.node.ensures c.in-ZoneTest.is c.requires.enough) in
    record { heads = f.0; rank = (f.2, f.3); room = omega (arith, (tests_at r c.need.ensures c.size.ensures c.zone.ensures f.1).room, c.requires.enough) }

pub operand-requires : goal.operand-requires
operand-requires g c = let f = fair (stands c.args.self.now _ c.node.ensures c.in-Not.is c.requires.enough) in record { earlier = f.0; nearer = f.1; ripe = c.requires.ripe }

pub operand-requires-in-Either : goal.operand-requires-in-Either
operand-requires-in-Either g c = let f = fair (stands c.args.self.now _ c.node.ensures c.in-Either.is c.requires.enough) in record { earlier = f.0; nearer = f.2; ripe = c.requires.ripe }

pub operand-requires-in-Either-2 : goal.operand-requires-in-Either-2
operand-requires-in-Either-2 g c = let f = fair (stands c.args.self.now _ c.node.ensures c.in-Either.is c.requires.enough) in record { earlier = f.1; nearer = f.3; ripe = c.requires.ripe }

pub operand-requires-in-Both : goal.operand-requires-in-Both
operand-requires-in-Both g c = let f = fair (stands c.args.self.now _ c.node.ensures c.in-Both.is c.requires.enough) in record { earlier = f.0; nearer = f.2; ripe = c.requires.ripe }

pub operand-requires-in-Both-2 : goal.operand-requires-in-Both-2
operand-requires-in-Both-2 g c = let f = fair (stands c.args.self.now _ c.node.ensures c.in-Both.is c.requires.enough) in record { earlier = f.1; nearer = f.3; ripe = c.requires.ripe }

pub overflow_add-result : goal.overflow_add-result
overflow_add-result g c =
    let at = stands c.args.self.now _ c.node.ensures c.in-Window.is c.requires.enough in
    omega (arith, (fair at).3, (fair at).4, (fits at).1, at.ends)

pub overflow_sub-result : goal.overflow_sub-result
overflow_sub-result g c = let f = fair (stands c.args.self.now _ c.node.ensures c.in-Window.is c.requires.enough) in omega (arith, f.3)

pub bounds-cells-self : goal.bounds-cells-self
bounds-cells-self g c =
    let at = stands c.args.self.now _ c.node.ensures c.in-Window.is c.requires.enough in
    omega (arith, (fair at).3, (fair at).4, (fits at).1, at.ends)

pub offset_bounds-cells-self : goal.offset_bounds-cells-self
offset_bounds-cells-self g c =
    let at = stands c.args.self.now _ c.node.ensures c.in-Window.is c.requires.enough in
    let f = fair at in
    let inside = fits at in
    let below : c.args.self.now.from + c.in-Window.rank - 1 < length c.args.cells.now = omega (arith, at.ends) in
    search rules

pub returns-in-HeadTest : goal.returns-in-HeadTest
returns-in-HeadTest g c = work_head (stands c.args.self.now _ c.node.ensures c.in-HeadTest.is c.requires.enough) c.test.ensures

pub returns-in-ZoneTest : goal.returns-in-ZoneTest
returns-in-ZoneTest g c =
    let r = c.args.self.now.row.now.rule.now in
    let f = fair (stands c.args.self.now _ c.node.ensures c.in-ZoneTest.is c.requires.enough) in
    work_zone {row = row_at (g.R.Record.model c.args.self.now.row.now.record) c.args.self.now.row.now.poll} (stands c.args.self.now _ c.node.ensures c.in-ZoneTest.is c.requires.enough) (tests_at r c.need.ensures c.size.ensures c.zone.ensures f.1).place c.zone_margin.ensures

pub returns-in-Not : goal.returns-in-Not
returns-in-Not g c = work_not c.operand.result (stands c.args.self.now _ c.node.ensures c.in-Not.is c.requires.enough) (c.operand.ensures _) c.complement.ensures

pub returns-in-Either : goal.returns-in-Either
returns-in-Either g c = work_either c.operand-in-Either.result c.operand-in-Either-2.result (stands c.args.self.now _ c.node.ensures c.in-Either.is c.requires.enough) (c.operand-in-Either.ensures _) (c.operand-in-Either-2.ensures _) c.higher.ensures

pub returns-in-Both : goal.returns-in-Both
returns-in-Both g c = work_both c.operand-in-Both.result c.operand-in-Both-2.result (stands c.args.self.now _ c.node.ensures c.in-Both.is c.requires.enough) (c.operand-in-Both.ensures _) (c.operand-in-Both-2.ensures _) c.lower.ensures

pub returns-in-Window : goal.returns-in-Window
returns-in-Window g c = work_window (stands c.args.self.now _ c.node.ensures c.in-Window.is c.requires.enough) c.requires.ripe c.index-cells-self.is
