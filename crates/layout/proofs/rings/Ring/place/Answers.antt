use Rattle.std.proofs.Common.{◌-◌, ◌*◌, ◌%◌, ap, arith}
use Rattle.layout.specs.Shape.{shape}
use Rattle.layout.proofs.Shapes.{standing}
use Rattle.layout.proofs.Moves.{ring_place}
use Rattle.layout.proofs.rings.Ring.place.Goals as goal

pub overflow_mul-result : goal.overflow_mul-result
overflow_mul-result g c =
    let ring = c.args.self.now in
    let r = ring.rule.now in
    omega (arith, (ring_place (shape r) ring.at (ring.rows.count - c.args.back) _ (standing r _ ring.enough) ring.below).2, ap (λ size. ring.at * size) ring.fits)

pub overflow_add-result : goal.overflow_add-result
overflow_add-result g c =
    let ring = c.args.self.now in
    let r = ring.rule.now in
    omega (arith, (ring_place (shape r) ring.at (ring.rows.count - c.args.back) _ (standing r _ ring.enough) ring.below).2, ap (λ size. ring.at * size) ring.fits, c.slot_back.ensures, ap (λ size. (ring.rows.count - c.args.back) % size) ring.fits)

pub returns-clause-place : goal.returns-clause-place
returns-clause-place g c =
    let ring = c.args.self.now in
    omega (arith, ap (λ size. ring.at * size) ring.fits, c.slot_back.ensures, ap (λ size. (ring.rows.count - c.args.back) % size) ring.fits)

pub returns-clause-within : goal.returns-clause-within
returns-clause-within g c =
    let ring = c.args.self.now in
    let r = ring.rule.now in
    omega (arith, (ring_place (shape r) ring.at (ring.rows.count - c.args.back) _ (standing r _ ring.enough) ring.below).2, ap (λ size. ring.at * size) ring.fits, c.slot_back.ensures, ap (λ size. (ring.rows.count - c.args.back) % size) ring.fits)
