use Rattle.std.proofs.Common.{length, Ok, sym, ap, ◌∙◌}
use Rattle.watches.specs.Calls.{meant}
use Rattle.firmware.proofs.Latest.{at_latest, none_waiting, none_refused}
use Rattle.firmware.proofs.plays.latest.Goals as goal

pub returns-in-Ok-At : goal.returns-in-Ok-At
returns-in-Ok-At g c rest rows h =
    let sm = g.S.Scale.model c.args.watch.now.scale in
    at_latest sm c.args.watch.now.rule rows (length c.args.cells.now) c.in-Ok-At.field-0-0 (sm.whole c.in-Ok-At.margin) (ap (λ a. meant sm.whole (Ok a)) (sym c.in-Ok-At.field-0-is) ∙ c.in-Ok-At.ensures.asked rest rows h)

pub returns-in-Ok-Waiting : goal.returns-in-Ok-Waiting
returns-in-Ok-Waiting g c rest rows h =
    let sm = g.S.Scale.model c.args.watch.now.scale in
    none_waiting sm c.args.watch.now.rule rows (length c.args.cells.now) c.in-Ok-Waiting.field-0-0 (ap (λ a. meant sm.whole (Ok a)) (sym c.in-Ok-Waiting.field-0-is) ∙ c.in-Ok-Waiting.ensures.asked rest rows h)

pub returns-in-Err : goal.returns-in-Err
returns-in-Err g c rest rows h = none_refused (g.S.Scale.model c.args.watch.now.scale) c.args.watch.now.rule rows (length c.args.cells.now) _ (c.in-Err.ensures.asked rest rows h)
