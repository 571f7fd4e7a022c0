use Rattle.std.proofs.Common.{subst}
use Rattle.layout.specs.Rows.{Latest}
use Rattle.watches.proofs.SurveyLaws.{is_surveyed}
use Rattle.watches.proofs.surveys.survey.Goals as goal

pub returns : goal.returns
returns g c =
    is_surveyed (g.S.Scale.model c.args.scale.now) c.args.rule.now (g.R.Record.model c.args.«record».now) c.args.poll c.args.cells.now c.take_polls-rows.new.cells _ c.unwrap.result c.take_polls-rows.ensures.count
    c.in_ok-check_survey.ensures c.take_polls-rows.ensures.taken (subst (Latest c.args.rule.now _ c.take_polls-rows.new.cells) c.unwrap.ensures c.latest_margin.ensures.value)
