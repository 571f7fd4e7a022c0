use Rattle.std.proofs.Common.{◌≡◌}
use Rattle.watches.specs.Surveys.{Taken}
use Rattle.watches.proofs.source.Source.take_polls.Given as goal

abbrev pub invariant-loop-ahead : goal.invariant-loop-ahead
invariant-loop-ahead g l = Taken (g.S.Scale.model l.self.scale.now) l.self.rule.now (g.R.Record.model l.self.record.now) l.poll l.ahead l.initial.cells l.cells × (l.rows.count ≡ l.ahead)
