use Rattle.std.proofs.Common.{length, Ok, Err, subst, arith}
use Rattle.watches.specs.Watching.{Stepped}
use Rattle.watches.proofs.ExcerptLaws.{same_reading}
use Rattle.watches.proofs.PlayLaws.{play_none, play_more, play_stop, play_all, few_taken}
use Rattle.watches.proofs.watch.Watch.play.Goals as goal

pub loop-taken-init : goal.loop-taken-init
loop-taken-init g c = play_none g.S.Scale.model (g.R.Record.model c.args.«record».now) c.args.first c.args.self.now c.args.cells.now

pub returns-in-Err : goal.returns-in-Err
returns-in-Err g c =
    let rm = g.R.Record.model c.args.«record».now in
    let over = subst (λ ex. Stepped g.S.Scale.model ex c.loop-taken.taken c.loop-taken.self c.loop-taken.cells c.step.new.self c.step.new.cells (Err c.in-Err.fault)) c.new-excerpt.ensures c.in-Err.ensures in
    play_stop g.S.Scale.model rm c.args.first c.args.self.now c.args.cells.now _ c.loop-taken.taken _ _ _ _ (same_reading rm c.args.first c.count_polls-count.result _ c.loop-taken.taken (omega arith) c.loop-taken-test.true)
    c.loop-taken.invariant c.args.last c.loop-taken.taken _ _ (omega arith) c.told_at.ensures (omega arith) over

pub loop-taken-preserved : goal.loop-taken-preserved
loop-taken-preserved g c =
    let rm = g.R.Record.model c.args.«record».now in
    let over = subst (λ ex. Stepped g.S.Scale.model ex c.loop-taken.taken c.loop-taken.self c.loop-taken.cells c.step.new.self c.step.new.cells (Ok tt)) c.new-excerpt.ensures c.in_default.ensures in
    play_more g.S.Scale.model rm c.args.first c.args.self.now c.args.cells.now _ c.loop-taken.taken _ _ _ _ (same_reading rm c.args.first c.count_polls-count.result _ c.loop-taken.taken (omega arith) c.loop-taken-test.true) c.loop-taken.invariant over

pub overflow_cast-result-2 : goal.overflow_cast-result-2
overflow_cast-result-2 g c =
    omega (arith, few_taken (g.S.Scale.model c.args.self.now.scale) c.args.self.now.rule (g.R.Record.model c.args.«record».now) (length c.args.cells.now) c.args.self.now.rows.count c.args.first c.loop-taken.taken c.loop-taken.invariant.unstopped, c.loop-taken-test.false)

pub returns : goal.returns
returns g c =
    play_all g.S.Scale.model (g.R.Record.model c.args.«record».now) c.args.first c.args.self.now c.args.cells.now c.args.last c.loop-taken.taken _ _ _ (omega (arith, c.loop-taken-test.false, c.loop-taken.auto.taken-end, c.count_polls-count.ensures)) (omega (arith, c.loop-taken-test.false, c.loop-taken.auto.taken-end))
    c.loop-taken.invariant
