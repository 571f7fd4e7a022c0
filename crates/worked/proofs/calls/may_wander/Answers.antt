use Rattle.std.proofs.Common.{Some, sym, ap, ◌∙◌, arith}
use Rattle.worked.specs.Wander.{less_one}
use Rattle.worked.proofs.WanderLaws.{wander_of, by_ok, checked_less, played_and_asked}
use Rattle.worked.proofs.calls.may_wander.Goals as goal

pub returns-in_err-ok : goal.returns-in_err-ok
returns-in_err-ok g c =
    played_and_asked c.args.rule _ (g.R.Record.model c.args.«record».now) c.args.first c.args.last _ _ c.args.cells.now _ _ c.ask.result _ c.new-watch.ensures c.play.ensures c.ask.ensures.worth
    (c.from_residual.ensures ∙ sym (by_ok c.ask.result ∙ ap wander_of (sym c.ok.ensures.value ∙ c.in_err-ok.was)))

pub returns-in-Waiting : goal.returns-in-Waiting
returns-in-Waiting g c =
    played_and_asked c.args.rule _ (g.R.Record.model c.args.«record».now) c.args.first c.args.last _ _ c.args.cells.now _ _ c.ask.result _ c.new-watch.ensures c.play.ensures c.ask.ensures.worth
    (sym (by_ok c.ask.result ∙ ap wander_of (sym c.ok.ensures.value ∙ c.in_ok-ok.was ∙ ap Some c.in-Waiting.is)))

pub returns-in-At : goal.returns-in-At
returns-in-At g c =
    played_and_asked c.args.rule _ (g.R.Record.model c.args.«record».now) c.args.first c.args.last _ _ c.args.cells.now _ _ c.ask.result _ c.new-watch.ensures c.play.ensures c.ask.ensures.worth
    (checked_less c.size.result _ _ (omega arith) c.checked_sub.ensures ∙ ap less_one c.size.ensures ∙ sym (by_ok c.ask.result ∙ ap wander_of (sym c.ok.ensures.value ∙ c.in_ok-ok.was ∙ ap Some c.in-At.is)))
