use Rattle.std.proofs.Common.{◌≡◌, None}
use Rattle.watches.specs.Surveys.{polls_fault}
use Rattle.watches.proofs.source.Source.check_polls.Given as goal

abbrev pub invariant-loop-ahead : goal.invariant-loop-ahead
invariant-loop-ahead g l = polls_fault (g.S.Scale.model l.self.scale.now) l.self.rule.now (g.R.Record.model l.self.record.now) l.poll l.ahead ≡ None
