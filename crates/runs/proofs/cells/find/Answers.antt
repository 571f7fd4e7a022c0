use Rattle.std.proofs.Common.{◌≡◌, Bool, true, false, cond, not, ◌&&◌, slice_get, Some, None, refl, ◌∙◌, ap}
use lib.Signed.{lt_z}
use Rattle.std.specs.Ordering.{is_eq}
use Rattle.std.specs.declared.cmp.Ordering.TheVariants.{Less, Equal, Greater}
use Rattle.std.proofs.lemmas.Option.{slice_get_past, slice_get_read}
use Rattle.runs.proofs.Kept.{absent_past, looked_at}
use Rattle.runs.proofs.cells.find.Goals as goal

-- neither of two tests says that one is above the other
level : (below above : Bool) → is_eq (cond below Less (cond above Greater Equal)) ≡ (not above && not below)
level true true = refl
level true false = refl
level false true = refl
level false false = refl

pub returns-in_err-x : goal.returns-in_err-x
returns-in_err-x g c =
    let past : slice_get c.args.margins.now c.place-at.result ≡ None = slice_get_past c.args.margins.now c.place-at.result c.in_err-x.ensures.lookup.3 in
    rw c.from_residual.ensures (absent_past (g.S.Scale.model c.args.scale.now).whole c.args.margins.now c.args.m c.place-at.result c.place-at.ensures.counts past)

pub returns : goal.returns
returns g c =
    let whole = (g.S.Scale.model c.args.scale.now).whole in
    let ms = c.args.margins.now in
    let x = c.in_ok-x.field-0.now in
    let read : slice_get ms c.place-at.result ≡ Some x = slice_get_read ms _ c.place-at.result x refl c.in_ok-x.ensures.lookup.3.0 c.in_ok-x.ensures.lookup.1 in
    let same = c.is_eq.ensures ∙ ap is_eq c.compare.ensures ∙ level (lt_z (whole c.args.m) (whole x)) (lt_z (whole x) (whole c.args.m)) in
    rw c.then_some.ensures (looked_at whole ms c.args.m c.place-at.result c.place-at.ensures.counts x c.is_eq.result read same)
