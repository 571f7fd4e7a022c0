use Rattle.std.proofs.Common.{None, refl}
use Rattle.desk.proofs.soaks.Soak.outcome.Goals as goal

pub returns-clause-outcome : goal.returns-clause-outcome
returns-clause-outcome g c = c.outcome_of.ensures _ (c.in_ok-follow.ensures.heard (record { summary = None }) refl)
