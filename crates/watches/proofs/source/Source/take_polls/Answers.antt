use Rattle.std.proofs.Common.{arith}
use Rattle.watches.proofs.SurveyLaws.{taken_none, taken_more}
use Rattle.watches.proofs.source.Source.take_polls.Goals as goal

pub loop-ahead-init : goal.loop-ahead-init
loop-ahead-init g c = (taken_none (g.S.Scale.model c.args.self.now.scale.now) c.args.self.now.rule.now (g.R.Record.model c.args.self.now.record.now) c.args.poll c.args.cells.now, c.none-rows.ensures.count)

pub loop-ahead-preserved : goal.loop-ahead-preserved
loop-ahead-preserved g c = (
  taken_more (g.S.Scale.model c.args.self.now.scale.now) c.args.self.now.rule.now (g.R.Record.model c.args.self.now.record.now) c.args.poll c.loop-ahead.ahead _ _ c.args.cells.now c.loop-ahead.cells _ c.take_row.result c.loop-ahead.invariant.1 (omega arith) c.take_row.ensures c.loop-ahead.invariant.0,
  omega (arith, c.next-rows.ensures.count, c.loop-ahead.invariant.1),
)
