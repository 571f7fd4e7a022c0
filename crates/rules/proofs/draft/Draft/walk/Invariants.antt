use Rattle.std.proofs.Common.{◌≡◌}
use Rattle.entries.specs.Heads.{heads}
use Rattle.rules.proofs.Walks.{Walked}
use Rattle.rules.proofs.draft.Draft.walk.Given as goal

abbrev pub invariant-loop-entry : goal.invariant-loop-entry
invariant-loop-entry l = Walked (heads l.self.zone.bits) l.self.entries.now l.lines × (l.lines.count ≡ l.entry-index)
