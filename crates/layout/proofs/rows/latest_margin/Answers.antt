use Rattle.std.proofs.Common.{arith}
use Rattle.layout.proofs.Holdings.{latest_is}
use Rattle.layout.proofs.Shapes.{lawful, ready, last_far}
use Rattle.layout.proofs.rows.latest_margin.Goals as goal

pub overflow_sub-last : goal.overflow_sub-last
overflow_sub-last g c = omega (arith, (lawful c.args.rule.now).some)

pub invariant_of-last : goal.invariant_of-last
invariant_of-last g c = record {
  below = omega (arith, (lawful c.args.rule.now).some);
  far = last_far c.args.rule.now _ _ c.len.ensures.value c.horizon-horizon.ensures.value;
  enough = (ready c.args.rule.now _ _ c.need.ensures (omega arith)).enough;
  fits = c.within.ensures.ring;
}

pub returns-clause-value : goal.returns-clause-value
returns-clause-value g c = latest_is c.args.rule.now c.args.rows.count c.args.cells.now c.need.result c.horizon-horizon.result _ _ c.back.result c.need.ensures (omega arith) c.horizon-horizon.ensures.value (omega arith) (omega arith) (omega arith) c.back.ensures
