use Rattle.std.proofs.Common.{◌+◌, sym, subst, ap, ◌∙◌}
use Rattle.desk.specs.Summaries.{Summarizes, Tallied}
use Rattle.desk.proofs.outcome.TallyListener.hear.Goals as goal
use Rattle.desk.proofs.outcome.TallyListener.hear.Goals.{in-None, in-Some}

pub returns-clause-heard : goal.returns-clause-heard
returns-clause-heard c first answers n few e old =
    elim c.match-self.branch [
      | in-None w ↦
          let none = subst (Tallied answers n) w.in-None.is old in
          subst (Summarizes answers (n + 1)) (sym w.self-is) (subst (λ k. Summarizes answers (k + 1) w.of.result) (sym none) (w.of.ensures answers (e ∙ ap answers none)))
      | in-Some w ↦
          subst (Summarizes answers (n + 1)) (sym w.self-is) (w.with.ensures answers n few e (subst (Tallied answers n) w.in-Some.is old))
    ]
