use Rattle.std.proofs.Common.{arith}
use Rattle.rules.proofs.Standing.{some, horizon_is, lawful_is, listed-length}
use Rattle.rules.proofs.rule.Rule.horizon.Goals as goal

pub overflow_sub-result : goal.overflow_sub-result
overflow_sub-result c = omega (arith, some c.args.self.now, listed-length c.args.self.now, c.len.ensures.value)

pub returns : goal.returns
returns c =
    let is = horizon_is c.args.self.now c.len.result c.index-self-len.result c.len.ensures.value in
    record { value = is; near = omega (arith, is, (lawful_is c.args.self.now).near) }
