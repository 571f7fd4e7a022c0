use Rattle.std.proofs.Common.{◌∙◌}
use Rattle.rules.proofs.Standing.{listed-length}
use Rattle.rules.proofs.Starts.{holds_rule}
use Rattle.rules.proofs.place.RulePlace.new.Goals as goal

pub returns-clause-rule : goal.returns-clause-rule
returns-clause-rule c = holds_rule c.args.rule.now _ _ (c.len.ensures.value ∙ listed-length c.args.rule.now) c.entries.ensures
