use Rattle.std.proofs.Common.{◌≡◌, Some, ap, ◌∙◌, to_z-of_z, w32, to_z, of_z, rules, arith}
use Rattle.firmware.specs.Cells.{cell_whole}
use Rattle.firmware.proofs.Playing.{starts, written, full, waiting, finished, stopped}
use Rattle.firmware.proofs.plays.play_record.Goals as goal
use Rattle.firmware.proofs.plays.play_record.Goals.{in-Some+then-margins-list, in-Some+else-margins-list, in_default-latest}

pub loop-poll-init : goal.loop-poll-init
loop-poll-init g c = starts g.S.Plain.most g.S.Scale.model g.S.Plain.told (g.R.Record.model c.args.«record».now) c.new-watch.result c.args.cells.now c.args.list.now

pub returns-in-Err : goal.returns-in-Err
returns-in-Err g c =
    stopped g.S.Plain.most g.S.Scale.model g.S.Plain.told (g.R.Record.model c.args.«record».now) c.new-watch.result c.args.cells.now c.args.list.now c.args.rule _ c.new-watch.ensures c.loop-poll.poll c.loop-poll.watch c.loop-poll.cells c.loop-poll.list c.loop-poll.margins
    c.loop-poll.invariant _ _ _ c.in-Err.fault (omega (arith, c.loop-poll-test.true, c.polls-polls.ensures)) c.into.ensures c.in-Err.ensures

pub loop-poll-preserved : goal.loop-poll-preserved
loop-poll-preserved g c =
    elim c.match-latest.branch [
      | in-Some+then-margins-list w ↦
          let read : to_z w32 (of_z w32 w.in-Some.cell) ≡ w.in-Some.cell = to_z-of_z {w = w32} (search rules) in
          written g.S.Plain.most g.S.Scale.model g.S.Plain.told (g.R.Record.model c.args.«record».now) c.new-watch.result c.args.cells.now c.args.list.now c.args.rule _ c.new-watch.ensures c.loop-poll.poll c.loop-poll.watch c.loop-poll.cells c.loop-poll.list c.loop-poll.margins
          c.loop-poll.invariant _ _ c.in_default.ensures c.latest.result c.latest.ensures w.in-Some.cell _ _ _ w.in-Some.is (w.tell.ensures ∙ ap (λ z. Some (cell_whole g.S.Plain.most z)) read) w.list-is w.margins-is w.if-margins-list.true
      | in-Some+else-margins-list w ↦
          full g.S.Plain.most g.S.Scale.model g.S.Plain.told (g.R.Record.model c.args.«record».now) c.new-watch.result c.args.cells.now c.args.list.now c.args.rule _ c.new-watch.ensures c.loop-poll.poll c.loop-poll.watch c.loop-poll.cells c.loop-poll.list c.loop-poll.margins
          c.loop-poll.invariant _ _ c.in_default.ensures c.latest.result c.latest.ensures _ _ w.list-is w.margins-is w.if-margins-list.false
      | in_default-latest w ↦
          waiting g.S.Plain.most g.S.Scale.model g.S.Plain.told (g.R.Record.model c.args.«record».now) c.new-watch.result c.args.cells.now c.args.list.now c.args.rule _ c.new-watch.ensures c.loop-poll.poll c.loop-poll.watch c.loop-poll.cells c.loop-poll.list c.loop-poll.margins
          c.loop-poll.invariant _ _ c.in_default.ensures c.latest.result c.latest.ensures _ _ w.list-is w.margins-is w.in_default-latest.is
    ]

pub returns : goal.returns
returns g c =
    finished g.S.Plain.most g.S.Scale.model g.S.Plain.told (g.R.Record.model c.args.«record».now) c.new-watch.result c.args.cells.now c.args.list.now c.args.rule _ c.new-watch.ensures c.loop-poll.poll c.loop-poll.watch c.loop-poll.cells c.loop-poll.list c.loop-poll.margins
    c.loop-poll.invariant _ _ (omega (arith, c.loop-poll-test.false, c.loop-poll.auto.poll-end)) (omega (arith, c.loop-poll-test.false, c.loop-poll.auto.poll-end, c.polls-polls.ensures)) c.none.ensures
