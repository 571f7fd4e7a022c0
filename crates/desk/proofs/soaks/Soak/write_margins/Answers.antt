use Rattle.std.proofs.Common.{◌≡◌, ◌/◌, true, false, ap, ◌∙◌, subst}
use Rattle.std.specs.Fmt.{WritesInCalls}
use Rattle.std.proofs.Output.{writes_in_calls_append}
use Rattle.desk.specs.Frames.{height_of}
use Rattle.desk.specs.Ticks.{levels_text, lines_at, margin_step_of}
use Rattle.desk.proofs.soaks.Soak.write_margins.Goals as goal

pub returns : goal.returns
returns g c =
    let took = g.W.Write.write_str_gives in
    let unit = g.S.Measured.told_in in
    let frame = c.args.frame.now in
    let first = c.args.out.now in
    let last = c.write_levels-2.new.out in
    let step = c.margin_step-step.result in
    let is : step ≡ margin_step_of unit (height_of frame) = c.margin_step-step.ensures.step ∙ ap (λ u. margin_step_of u (height_of frame)) c.unit.ensures in
    subst (λ s. WritesInCalls took first (lines_at unit frame s) last) is
    (writes_in_calls_append took first (levels_text unit frame step false (frame.above / step)) c.write_levels.new.out (levels_text unit frame step true (frame.below / step)) last c.in_ok-write_levels.ensures c.in_ok-write_levels-2.ensures)
