use Rattle.std.proofs.Common.{◌+◌, arith}
use Rattle.std.proofs.lemmas.Result.{err_from_is_err_and}
use Rattle.formulas.specs.Formula.{horizon}
use Rattle.rules.specs.Rules.{formula}
use Rattle.watches.proofs.SurveyLaws.{no_polls, poll_fine, poll_fault}
use Rattle.watches.proofs.source.Source.check_polls.Goals as goal

pub loop-ahead-init : goal.loop-ahead-init
loop-ahead-init g c = no_polls (g.S.Scale.model c.args.self.now.scale.now) c.args.self.now.rule.now (g.R.Record.model c.args.self.now.record.now) c.args.poll

pub returns-in_err-check_row : goal.returns-in_err-check_row
returns-in_err-check_row g c =
    let p = err_from_is_err_and c.from_residual.result c.from_residual.ensures.1 in
    rw (p.1, p.2) (poll_fault (g.S.Scale.model c.args.self.now.scale.now) c.args.self.now.rule.now (g.R.Record.model c.args.self.now.record.now) c.args.poll c.loop-ahead.ahead (horizon (formula c.args.self.now.rule.now) + 1) c.in_err-check_row.field-0.0 (omega (arith, c.horizon-ahead-end.ensures.value)) c.in_err-check_row.ensures c.loop-ahead.invariant)

pub loop-ahead-preserved : goal.loop-ahead-preserved
loop-ahead-preserved g c = poll_fine (g.S.Scale.model c.args.self.now.scale.now) c.args.self.now.rule.now (g.R.Record.model c.args.self.now.record.now) c.args.poll c.loop-ahead.ahead c.in_ok-check_row.ensures c.loop-ahead.invariant
