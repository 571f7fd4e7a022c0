use Rattle.std.proofs.Common.{length, drop, ◌-◌, arith}
use Rattle.std.proofs.lemmas.List.{length-take, length-drop}
use Rattle.runs.proofs.Picks.{front_and_rest}
use Rattle.runs.proofs.select.counted.Goals as goal

pub returns : goal.returns
returns g c p serves =
    let xs = c.args.margins.now in
    let f = c.min-front.result in
    front_and_rest p xs f c.loop-x.x-index c.loop-x-2.x-index c.loop-x.few c.loop-x-2.n (omega (arith, c.min-front.ensures)) (omega (arith, c.loop-x-test.false, c.min-front.ensures, length-take f xs))
    (omega (arith, c.loop-x-2-test.false, length-take (length xs - f) (drop f xs), length-drop f xs)) (c.loop-x.invariant.counts p serves) (c.loop-x-2.invariant.counts p serves)
