use Rattle.std.proofs.Common.{◌<◌, ◌≤◌, map, subst, arith}
use Rattle.std.specs.List.{All}
use Rattle.std.proofs.lemmas.List.{take_all}
use Rattle.runs.specs.Highest.{above, at_least}
use Rattle.runs.proofs.Bounding.{IsNot, outside_is_not, low_is_not, high_is_not, with_low, with_high, one_more, none_is, this_is}
use Rattle.runs.proofs.select.pick.Goals as goal
use Rattle.runs.proofs.select.pick.Goals.{then-k-exceeding, else-k-exceeding+then-reaching-k}

pub loop-x-preserved-then-not-is_between : goal.loop-x-preserved-then-not-is_between
loop-x-preserved-then-not-is_between g c =
    let whole = (g.S.Scale.model c.args.scale.now).whole in
    let ms = c.args.margins.now in
    let ws = map whole ms in
    let not = outside_is_not whole c.args.k ws c.loop-x.low c.loop-x.high _ c.loop-x.invariant.bounded (c.is_between.ensures c.if-not-is_between.true) in
    record {
      within = omega (arith, c.loop-x-test.true);
      bounded = c.loop-x.invariant.bounded;
      others = one_more whole c.args.k ws ms c.loop-x.x-index _ (omega (arith, c.loop-x-test.true)) c.x-item.is c.loop-x.invariant.others not;
    }

pub returns-else-reaching-k : goal.returns-else-reaching-k
returns-else-reaching-k g c =
    let whole = (g.S.Scale.model c.args.scale.now).whole in
    this_is whole c.args.k c.args.margins.now _ (omega (arith, c.if-k-exceeding.false, c.exceeding.ensures)) (omega (arith, c.if-reaching-k.false, c.reaching.ensures))

pub loop-x-preserved : goal.loop-x-preserved
loop-x-preserved g c =
    let whole = (g.S.Scale.model c.args.scale.now).whole in
    let ms = c.args.margins.now in
    let ws = map whole ms in
    let more = one_more whole c.args.k ws ms c.loop-x.x-index _ (omega (arith, c.loop-x-test.true)) c.x-item.is c.loop-x.invariant.others in
    elim c.if-k-exceeding.branch [
      | then-k-exceeding w ↦
          let far : c.args.k ≤ above (whole c.x-item.result) ws = omega (arith, w.if-k-exceeding, c.exceeding.ensures) in
          record {
            within = omega (arith, c.loop-x-test.true);
            bounded = rw w.low-is (rw w.high-is (with_low whole c.args.k ws c.loop-x.low c.loop-x.high c.x-item.result c.loop-x.invariant.bounded far));
            others = more (low_is_not whole c.args.k ws c.x-item.result far);
          }
      | else-k-exceeding+then-reaching-k w ↦
          let far : at_least (whole c.x-item.result) ws < c.args.k = omega (arith, w.if-reaching-k, w.reaching.ensures) in
          record {
            within = omega (arith, c.loop-x-test.true);
            bounded = rw w.low-is (rw w.high-is (with_high whole c.args.k ws c.loop-x.low c.loop-x.high c.x-item.result c.loop-x.invariant.bounded far));
            others = more (high_is_not whole c.args.k ws c.x-item.result far);
          }
    ]

pub returns : goal.returns
returns g c =
    let whole = (g.S.Scale.model c.args.scale.now).whole in
    let ms = c.args.margins.now in
    none_is whole c.args.k ms (subst (λ xs. All (IsNot whole c.args.k (map whole ms)) xs) (take_all c.loop-x.x-index ms (omega (arith, c.loop-x-test.false))) c.loop-x.invariant.others)
