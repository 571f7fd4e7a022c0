-- A step of an entry stands at its entry. Assumes nothing.
use Rattle.std.proofs.Common.{◌≡◌, ℕ, ◌≤◌, sym, refl, ap, ◌∙◌, subst}
use Rattle.rules.specs.Nodes.{model}
use Rattle.rules.specs.declared.node.Node.{Node}
use Rattle.layout.specs.Shape.{shape, need}
use Rattle.layout.specs.declared.entry_step.EntryStep.{EntryStep}
use Rattle.layout.proofs.Shapes.{standing}
use Rattle.layout.proofs.Moves.{At}

pub stands : {S R : Type 0} (s : EntryStep S R) {own node : Node} (lent : ℕ) → model own ≡ (shape s.row.now.rule.now).nodes s.at → own ≡ node → need (shape s.row.now.rule.now) ≤ lent → At (shape s.row.now.rule.now) lent s.at (model node) s.from s.to
stands s lent is e le = subst (λ n. At (shape s.row.now.rule.now) lent s.at n s.from s.to) (sym is ∙ ap model e)
    (record { ready = standing s.row.now.rule.now lent le; below = s.below; is = refl; begins = s.begins; ends = s.ends })
