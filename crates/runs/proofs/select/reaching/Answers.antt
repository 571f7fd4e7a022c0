use Rattle.std.proofs.Common.{sym, ◌∙◌, rules}
use lib.Signed.{le_z}
use Rattle.runs.proofs.Picks.{tally-map}
use Rattle.runs.proofs.select.reaching.Goals as goal

pub returns : goal.returns
returns g c =
    let whole = (g.S.Scale.model c.args.scale.now).whole in
    let p = le_z (whole c.args.m) in
    c.counted.ensures (λ x. p (whole x)) (λ x b q. search rules) ∙ sym (tally-map whole p c.args.margins.now)
