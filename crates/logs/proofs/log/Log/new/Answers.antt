-- The log made has the model of what it was given. Assumes nothing.
use Rattle.std.proofs.Common.{◌≡◌, List, [], sym, ap, ◌∙◌, subst}
use Rattle.std.proofs.lemmas.Result.{IfOk-weaker}
use Rattle.logs.specs.declared.entries.LogEntry.{LogEntry}
use Rattle.logs.specs.declared.timeline.Timeline.{Timeline}
use Rattle.logs.specs.Lawful.{Told}
use Rattle.logs.specs.Log.{log_record}
use Rattle.logs.specs.Timeline.{told_by}
use Rattle.logs.proofs.LawfulLaws.{told}
use Rattle.logs.proofs.LogLaws.{told_of}
use Rattle.records.proofs.ModelLaws.{made_or_empty}
use Rattle.logs.proofs.log.Log.new.Goals as goal

pub returns : goal.returns
returns g c =
    let f = g.T.Word.spelled in
    let s = c.args.standing in
    let es = c.args.entries.now in
    let m = λ (t : Timeline). told_by f t s in
    let none : List LogEntry = [] in
    let made = IfOk-weaker c.new.result _ (λ t. told_by f t s ≡ log_record f c.args.heads c.args.polls es s) (λ t is. told_of f s c.args.heads c.args.polls es t is) c.new.ensures.timeline in
    let same : told_by f c.unwrap_or-timeline.result s ≡ log_record f c.args.heads c.args.polls es s =
    ap m c.unwrap_or-timeline.ensures
    ∙ made_or_empty c.new.result _ m _ _ c.new.ensures.fault made (ap (λ h. log_record f h c.none.result.polls none s) c.none.ensures.heads) in
    record {
      model = same;
      told = λ l. subst (Told f c.args.heads c.args.polls es s) (sym same) (told f c.args.heads c.args.polls es s l);
    }
