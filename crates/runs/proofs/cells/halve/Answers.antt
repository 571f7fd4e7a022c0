use Rattle.std.proofs.Common.{◌≡◌, ◌+◌, ◌-◌, ◌*◌, ◌^◌, ◌<◌, length, sym, refl, ◌∙◌, arith}
use Rattle.std.proofs.lemmas.Nat.{pow_pos}
use Rattle.std.proofs.lemmas.Int.{ints}
use Rattle.runs.proofs.Margins.{place_before, place_here}
use Rattle.runs.proofs.Powers.{narrows}
use Rattle.runs.proofs.cells.halve.Goals as goal

pub returns-clause-narrows : goal.returns-clause-narrows
returns-clause-narrows g c =
    let whole = (g.S.Scale.model c.args.scale.now).whole in
    let ms = c.args.margins.now in
    let z = whole c.args.m in
    let hit = c.exceeds-hit.result in
    let base = c.args.base in
    let p = 2 ^ c.args.level in
    let at : c.jump.result ≡ p = c.jump.ensures in
    let i = base + c.jump.result - 1 in
    let inside : i < length ms = omega (arith, c.requires.within, pow_pos c.args.level, at) in
    λ d. narrows hit _ base p (2 * p) _ refl (pow_pos c.args.level) c.jump-2.ensures
    (λ e. let told = sym e ∙ c.exceeds-hit.ensures in omega (arith, at, place_before whole ms z i _ inside c.index-margins-base.is (omega (arith, ints, told)) d))
    (λ e. let told = sym e ∙ c.exceeds-hit.ensures in omega (arith, at, place_here whole ms z i _ inside c.index-margins-base.is (omega (arith, ints, told)) d))
