use Rattle.std.proofs.Common.{◌≡◌, ◌≤◌, ◌*◌, ◌-◌, ◌^◌, ap, ◌∙◌, subst, arith}
use Rattle.std.specs.Int.{div_ceil}
use Rattle.std.specs.Prelude.{min}
use Rattle.std.specs.Fmt.{WritesInCalls}
use Rattle.desk.specs.Ticks.{poll_step_of, mark_text, number_text, ticks_from}
use Rattle.desk.proofs.TickLaws.{no_ticks, tick_written}
use Rattle.desk.proofs.plot.write_polls.Goals as goal

pub loop-tick-init : goal.loop-tick-init
loop-tick-init g c = no_ticks g.W.Write.write_str_gives c.args.frame.now.polls (poll_step_of c.args.frame.now.polls) c.args.out.now

pub loop-tick-preserved : goal.loop-tick-preserved
loop-tick-preserved g c =
    let took = g.W.Write.write_str_gives in
    let polls = c.args.frame.now.polls in
    let poll = c.saturating_mul-poll.result in
    let x = c.x-x.result in
    let at : poll ≡ min (c.loop-tick.tick * poll_step_of polls) (2 ^ 32 - 1) = c.saturating_mul-poll.ensures ∙ ap (λ k. min (c.loop-tick.tick * k) (2 ^ 32 - 1)) c.poll_step-step.ensures.step in
    let mark : WritesInCalls took c.loop-tick.out (mark_text x) c.writeln.new.self = c.in_ok-writeln.ensures.writes in
    let number : WritesInCalls took c.writeln.new.self (number_text x poll) c.writeln-in-loop-tick.new.self = c.in_ok-writeln-2.ensures.writes in
    tick_written took polls (poll_step_of polls) c.loop-tick.tick x poll c.args.out.now c.loop-tick.out c.writeln.new.self c.writeln-in-loop-tick.new.self at c.x-x.ensures c.loop-tick.invariant mark number

pub returns : goal.returns
returns g c =
    let took = g.W.Write.write_str_gives in
    let polls = c.args.frame.now.polls in
    let most : c.loop-tick.tick ≤ c.div_ceil-tick-end.result = c.loop-tick.auto.tick-end in
    let past : c.div_ceil-tick-end.result ≤ c.loop-tick.tick = c.loop-tick-test.false in
    let all : c.loop-tick.tick ≡ c.div_ceil-tick-end.result = omega arith in
    let step : c.poll_step-step.result ≡ poll_step_of polls = c.poll_step-step.ensures.step in
    let many : c.div_ceil-tick-end.result ≡ div_ceil polls c.poll_step-step.result = c.div_ceil-tick-end.ensures in
    let as_many : c.loop-tick.tick ≡ div_ceil polls (poll_step_of polls) = all ∙ many ∙ ap (div_ceil polls) step in
    subst (λ n. WritesInCalls took c.args.out.now (ticks_from polls (poll_step_of polls) n) c.loop-tick.out) as_many c.loop-tick.invariant
