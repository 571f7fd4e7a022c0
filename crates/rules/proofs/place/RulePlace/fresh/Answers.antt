use Rattle.entries.specs.Heads.{heads}
use Rattle.rules.proofs.Starts.{fresh_means}
use Rattle.rules.proofs.place.RulePlace.fresh.Goals as goal

pub returns-clause-rule : goal.returns-clause-rule
returns-clause-rule c = fresh_means (heads c.starting.result.bits) c.starting.ensures
