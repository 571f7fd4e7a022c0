use Rattle.std.proofs.Common.{Some, ap, ◌∙◌}
use Rattle.std.proofs.lemmas.Bool.{cond_below}
use Rattle.rules.specs.Nodes.{model}
use Rattle.rules.proofs.Stacks.{got}
use Rattle.rules.proofs.Standing.{part_is}
use Rattle.rules.proofs.rule.Rule.node.Goals as goal

pub returns : goal.returns
returns c =
    let r = c.args.self.now in
    let line = got r.lines c.args.at _ c.in_ok-get.ensures in
    record {
      value = ap (λ x. Some (model x.node)) line.1 ∙ ap Some (r.noded c.args.at line.0) ∙ cond_below c.args.at r.lines.count _ _ line.0;
      part = part_is r c.args.at;
    }
