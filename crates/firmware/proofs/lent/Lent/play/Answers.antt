use Rattle.entries.specs.Heads.{heads as heads_of}
use Rattle.firmware.proofs.Grids.{grid_played}
use Rattle.firmware.proofs.lent.Lent.play.Goals as goal

pub returns-in-Ok-grid : goal.returns-in-Ok-grid
returns-in-Ok-grid g c =
    grid_played (g.S.Scale.model c.args.scale) g.S.Plain.told (heads_of c.args.self.zone) c.args.self.entries.now c.args.self.heads c.args.self.polls c.args.self.readings.now c.args.cells.now c.play_record.new.cells c.args.list.now c.play_record.new.list c.play_record.result c.in-Ok.rule _
    c.in-Ok.ensures c.in-Ok-grid.ensures.0 c.in-Ok-grid.ensures.1 c.play_record.ensures
