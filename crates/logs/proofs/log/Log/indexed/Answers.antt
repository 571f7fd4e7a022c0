-- An index leaves the numbers and the entries as they were. Assumes nothing.
use Rattle.std.proofs.Common.{sym, ◌∙◌, subst}
use Rattle.logs.specs.Lawful.{Told}
use Rattle.logs.proofs.LogLaws.{told_of}
use Rattle.logs.proofs.log.Log.indexed.Goals as goal

pub returns : goal.returns
returns g c =
    let f = g.T.Word.spelled in
    let log = c.new-log.result in
    let t = log.timeline in
    let same = told_of f log.standing t.size.heads t.size.polls t.entries.now c.indexed.result c.indexed.ensures.same in
    record {
      laid = c.indexed.ensures.laid;
      model = same ∙ c.new-log.ensures.model;
      told = λ l. subst (Told f c.args.heads c.args.polls c.args.entries.now c.args.standing) (sym same) (c.new-log.ensures.told l);
    }
