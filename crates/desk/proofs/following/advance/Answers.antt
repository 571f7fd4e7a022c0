use Rattle.std.proofs.Common.{◌≡◌, Err, rules}
use Rattle.desk.proofs.FollowLaws.{refused, advanced}
use Rattle.desk.proofs.following.advance.Goals as goal

pub returns-in_err-step : goal.returns-in_err-step
returns-in_err-step g c rule scale within follows =
    let told : c.from_residual.result ≡ Err c.in_err-step.field-0.0 = search rules in
    refused g.S.Scale.model rule scale (g.R.Record.model c.args.«record».now) c.args.poll c.args.watch.now c.args.cells.now follows within _ _ c.step.result _ _
    c.step.ensures c.in_err-step.was told

pub returns : goal.returns
returns g c rule scale within follows =
    advanced g.S.Scale.model rule scale (g.R.Record.model c.args.«record».now) c.args.poll c.args.watch.now c.args.cells.now follows within _ _ c.step.result _
    c.step.ensures c.in_ok-step.was c.ask.ensures.asked
