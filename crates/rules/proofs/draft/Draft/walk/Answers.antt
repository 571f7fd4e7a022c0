use Rattle.std.proofs.Common.{Err, get_or, sym, ap, ◌∙◌, arith}
use Rattle.std.proofs.lemmas.Result.{err_from_is_err_and}
use Rattle.rules.specs.Assemble.{blank}
use Rattle.rules.proofs.Walks.{begins, more, fits, stops, stays}
use Rattle.rules.proofs.draft.Draft.walk.Goals as goal

pub loop-entry-init : goal.loop-entry-init
loop-entry-init c = (begins _ _ _ c.requires, c.requires)

pub returns-in_err-line : goal.returns-in_err-line
returns-in_err-line c =
    let p = err_from_is_err_and c.from_residual.result c.from_residual.ensures.1 in
    let w = c.loop-entry.invariant.0 in
    let f = c.in_err-line.field-0.0 in
    let at = stops _ _ _ w f (c.in_err-line.ensures.span w.formulas w.stacked) in
    rw p.1 (stays _ _ f _ _ (omega (arith, c.loop-entry.invariant.1)) at ∙ ap Err (sym p.2))

pub push-requires : goal.push-requires
push-requires c = let w = c.loop-entry.invariant.0 in let f = fits _ _ _ w c.in_ok-line.line (omega (arith, c.loop-entry.invariant.1)) (c.in_ok-line.ensures.span w.formulas w.stacked) in record { room = omega (arith, c.loop-entry.invariant.1); sized = f.0; near = f.1 }

pub loop-entry-preserved : goal.loop-entry-preserved
loop-entry-preserved c =
    let w = c.loop-entry.invariant.0 in
    let line = c.in_ok-line.ensures in
    (more _ _ _ w _ _ (omega (arith, c.loop-entry.invariant.1)) (line.entry ∙ ap (λ k. get_or c.args.self.now.entries.now k blank) (sym c.loop-entry.invariant.1)) (line.span w.formulas w.stacked) (line.node w.formulas w.stacked) c.push.ensures.rows c.push.ensures.count, omega (arith, c.loop-entry.invariant.1, c.push.ensures.count))
