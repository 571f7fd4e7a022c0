use Rattle.std.proofs.Common.{◌≡◌, pos, ap, ◌∙◌, to_z-of_z, w32, to_z, of_z, rules, arith}
use lib.Signed.{lt_z}
use Rattle.std.specs.Int.{int_min}
use Rattle.std.proofs.lemmas.Int.{to_z_pos}
use Rattle.scales.specs.Order.{clipped}
use Rattle.firmware.proofs.Ranges.{upper_end}
use Rattle.firmware.proofs.cell_scale.CellScaleScale.exceeds.Goals as goal

pub returns : goal.returns
returns g c =
    let most = g.S.Plain.most in
    let a : to_z w32 (of_z w32 c.args.a) ≡ c.args.a = to_z-of_z {w = w32} (search rules) in
    let b : to_z w32 (of_z w32 c.args.b) ≡ c.args.b = to_z-of_z {w = w32} (search rules) in
    let read_low : to_z w32 (of_z w32 c.in_range.result) ≡ c.in_range.result = to_z-of_z {w = w32} (search rules) in
    let read_high : to_z w32 (of_z w32 c.min.result) ≡ c.min.result = to_z-of_z {w = w32} (search rules) in
    let low : to_z w32 (of_z w32 c.in_range.result) ≡ clipped most c.args.b = read_low ∙ c.in_range.ensures.value ∙ ap (clipped c.most.result) b ∙ ap (λ m. clipped m c.args.b) c.most.ensures.is in
    let small : to_z w32 c.most-2.result ≡ pos c.most-2.result = to_z_pos w32 c.most-2.result (omega (arith, c.most-2.ensures.small)) in
    let end : to_z w32 c.most-2.result ≡ pos most = small ∙ ap pos c.most-2.ensures.is in
    let high : to_z w32 (of_z w32 c.min.result) ≡ int_min c.args.a (pos most) = read_high ∙ c.min.ensures.value ∙ ap (λ x. int_min x (to_z w32 c.most-2.result)) a ∙ ap (int_min c.args.a) end in
    ap (λ x. lt_z x (to_z w32 (of_z w32 c.min.result))) low ∙ ap (lt_z (clipped most c.args.b)) high ∙ upper_end most c.args.a c.args.b
