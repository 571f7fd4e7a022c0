use Rattle.std.proofs.Common.{◌-◌, ◌<◌, length, arith}
use Rattle.std.proofs.lemmas.Int.{ints}
use Rattle.runs.proofs.Margins.{place_before, place_here, above_le}
use Rattle.runs.proofs.cells.start.Goals as goal

pub returns-then-exceeds-clause-holds : goal.returns-then-exceeds-clause-holds
returns-then-exceeds-clause-holds g c d =
    let whole = (g.S.Scale.model c.args.scale.now).whole in
    let ms = c.args.margins.now in
    let first = length ms - c.args.width in
    let within : first < length ms = omega arith in
    (omega (arith, place_before whole ms (whole c.args.m) first _ within c.index-margins-first.is (omega (arith, ints, c.if-exceeds.ensures)) d), omega (arith, above_le whole ms (whole c.args.m)))

pub returns-else-exceeds-clause-holds : goal.returns-else-exceeds-clause-holds
returns-else-exceeds-clause-holds g c d =
    let whole = (g.S.Scale.model c.args.scale.now).whole in
    let ms = c.args.margins.now in
    let first = length ms - c.args.width in
    let within : first < length ms = omega arith in
    (omega arith, omega (arith, place_here whole ms (whole c.args.m) first _ within c.index-margins-first.is (omega (arith, ints, c.if-exceeds.ensures)) d))
