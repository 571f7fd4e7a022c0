use Rattle.std.proofs.Common.{rules, ◌≡◌, ℕ, slice_index_or, get_or, ◌∙◌}
use Rattle.desk.specs.Ticks.{step_in}
use Rattle.desk.proofs.TickLaws.{next_step, this_step, no_step}
use Rattle.desk.proofs.picture.step_of.Goals as goal

pub returns-then-span-step-clause-step : goal.returns-then-span-step-clause-step
returns-then-span-step-clause-step c =
    let steps = c.args.steps.now in
    let i = c.loop-step.step-index in
    let here : ℕ = slice_index_or steps i 0 in
    let is : here ≡ get_or steps i here = search rules in
    c.max.ensures ∙ this_step steps i here c.args.span (step_in steps c.args.span) c.loop-step-test.true is c.if-span-step.true c.loop-step.invariant

pub loop-step-preserved : goal.loop-step-preserved
loop-step-preserved c =
    let steps = c.args.steps.now in
    let i = c.loop-step.step-index in
    let here : ℕ = slice_index_or steps i 0 in
    let is : here ≡ get_or steps i here = search rules in
    next_step steps i here c.args.span (step_in steps c.args.span) c.loop-step-test.true is c.if-span-step.false c.loop-step.invariant

pub returns-clause-step : goal.returns-clause-step
returns-clause-step c = no_step c.args.steps.now c.loop-step.step-index 0 c.args.span (step_in c.args.steps.now c.args.span) c.loop-step-test.false c.loop-step.invariant
