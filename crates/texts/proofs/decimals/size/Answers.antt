-- A number with a point is its whole and its decimals. Assumes nothing.
use Rattle.std.proofs.Common.{◌≡◌, ◌+◌, ◌*◌, Err, ap, sym, ◌∙◌, rules}
use Rattle.texts.specs.Decimals.{in_step_range}
use Rattle.texts.proofs.SizeLaws.{sized, clipped_range, found, then_range}
use Rattle.texts.proofs.decimals.size.Goals as goal

pub returns-in_err-part-in-Some-decimals : goal.returns-in_err-part-in-Some-decimals
returns-in_err-part-in-Some-decimals c =
    let text = c.args.text.now in
    let whole = c.cut.result.0.now in
    let decimals = c.in-Some-decimals.decimals.now in
    let parts = rw c.in-Some-decimals.is at c.cut.ensures in
    let is : c.from_residual.result ≡ Err c.in_err-part-in-Some-decimals.field-0.0 = search rules in
    let numeral = found _ _ c.in-Some.percent c.in-Some.ensures in
    is ∙ sym (sized text whole decimals parts.0 numeral.0 ∙ ap (then_range _) (sym c.in_err-part-in-Some-decimals.ensures.value))

pub returns-in_ok-part-in-Some-decimals : goal.returns-in_ok-part-in-Some-decimals
returns-in_ok-part-in-Some-decimals c =
    let text = c.args.text.now in
    let whole = c.cut.result.0.now in
    let decimals = c.in-Some-decimals.decimals.now in
    let parts = rw c.in-Some-decimals.is at c.cut.ensures in
    let numeral = found _ _ c.in-Some.percent c.in-Some.ensures in
    let part = c.in_ok-part-in-Some-decimals.field-0 in
    c.in_range.ensures
    ∙ ap (λ n. in_step_range (256 * n + part)) numeral.1
    ∙ clipped_range _ part c.in_ok-part-in-Some-decimals.ensures.below
    ∙ sym (sized text whole decimals parts.0 numeral.0 ∙ ap (then_range _) (sym c.in_ok-part-in-Some-decimals.ensures.value))
