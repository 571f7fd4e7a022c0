use Rattle.std.proofs.Common.{◌≡◌, Err, sym, subst, rules}
use Rattle.desk.specs.Pairs.{BothTaken}
use Rattle.desk.proofs.PairLaws.{both_taken}
use Rattle.desk.proofs.soaks.Soak.take.Goals as goal

pub returns-in_err-verdict : goal.returns-in_err-verdict
returns-in_err-verdict g c rule within follows =
    let told : c.from_residual-in_err-verdict.result ≡ Err c.in_err-verdict.field-0.0 = search rules in
    let a = c.in_err-verdict.ensures rule (record { lower = c.args.self.now.scale }) within follows.verdicts in
    subst (BothTaken g.S.Scale.model rule c.args.self.now.scale (g.R.Record.model c.args.self.now.«record».now) c.args.poll _ _ _ _) (sym told) (record { told = a.told; answers = tt; follows = tt })

pub returns : goal.returns
returns g c rule within follows =
    both_taken g.S.Scale.model rule c.args.self.now.scale (g.R.Record.model c.args.self.now.«record».now) c.args.poll _ _ _ _ _ _ _
    (c.in_ok-margin.ensures rule c.args.self.now.scale within follows.margins) (c.in_ok-verdict.ensures rule (record { lower = c.args.self.now.scale }) within follows.verdicts) c.join.ensures
