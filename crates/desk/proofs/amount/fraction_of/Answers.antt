use Rattle.std.proofs.Common.{sym, ◌∙◌, arith}
use Rattle.desk.proofs.DecimalLaws.{one_place_fewer, nought_dropped, none_left}
use Rattle.desk.proofs.amount.fraction_of.Goals as goal

pub loop-places-preserved : goal.loop-places-preserved
loop-places-preserved c = (
  one_place_fewer c.loop-places.digits c.args.parts c.loop-places.places c.loop-places-test.true c.if-digits-eq0.true c.loop-places.invariant.0,
  let few = c.loop-places.invariant.1 in omega arith,
  sym (nought_dropped c.loop-places.digits c.loop-places.places c.loop-places-test.true c.if-digits-eq0.true) ∙ c.loop-places.invariant.2,
)

pub returns-else-digits-eq0-clause-shortest : goal.returns-else-digits-eq0-clause-shortest
returns-else-digits-eq0-clause-shortest c = none_left c.loop-places.digits c.loop-places.places (λ some last. c.if-digits-eq0.false last) ∙ c.loop-places.invariant.2

pub returns-after-loop-places-clause-shortest : goal.returns-after-loop-places-clause-shortest
returns-after-loop-places-clause-shortest c = none_left c.loop-places.digits c.loop-places.places (λ some last. let none = c.loop-places-test.false in omega arith) ∙ c.loop-places.invariant.2
