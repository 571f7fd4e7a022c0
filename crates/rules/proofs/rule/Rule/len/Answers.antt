use Rattle.std.proofs.Common.{sym}
use Rattle.rules.proofs.Standing.{listed-length, whole_is}
use Rattle.rules.proofs.rule.Rule.len.Goals as goal

pub returns : goal.returns
returns c = record { value = sym (listed-length c.args.self.now); whole = whole_is c.args.self.now }
