use Rattle.std.proofs.Common.{◌≡◌, [], ◌∷◌, sym, ap, ◌∙◌}
use Rattle.entries.specs.Heads.{heads}
use Rattle.rules.specs.Assemble.{starting}
use Rattle.rules.specs.Rules.{formula, zone, made}
use Rattle.rules.proofs.Starts.{only_starting, makes_starting}
use Rattle.rules.proofs.rule.Rule.starting.Goals as goal

pub unwrap-requires : goal.unwrap-requires
unwrap-requires c = makes_starting _ _ c.starting.ensures c.new.ensures.value

pub returns : goal.returns
returns c =
    let says : formula c.unwrap.result ≡ starting = only_starting _ _ c.starting.ensures (sym (ap made c.unwrap.ensures) ∙ c.new.ensures.value) in
    let kept = rw c.unwrap.ensures at c.new.ensures.kept in
    let lies : zone c.unwrap.result ≡ 0 ∷ [] = ap (λ z. heads z.bits) kept.1 ∙ c.starting.ensures in
    λ i. (says i, lies i)
