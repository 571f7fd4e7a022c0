-- A grid reads what stands at the place of head and poll. Assumes nothing.
use Rattle.std.proofs.Common.{◌<◌, length, rules}
use Rattle.records.proofs.GridLaws.{place_below, read}
use Rattle.records.proofs.grids.GridRecord.reading.Goals as goal

pub bounds-self-place : goal.bounds-self-place
bounds-self-place g c = place_below _ _ _ _ _ _ c.args.self.now.lawful c.if-not-holds.ensures c.place.ensures

pub offset_bounds-self-place : goal.offset_bounds-self-place
offset_bounds-self-place g c =
    let lt : c.place.result < length c.args.self.now.readings.now = place_below _ _ _ _ _ _ c.args.self.now.lawful c.if-not-holds.ensures c.place.ensures in
    search rules

pub returns : goal.returns
returns g c = read _ _ _ _ _ _ _ c.args.self.now.lawful c.if-not-holds.ensures c.place.ensures
