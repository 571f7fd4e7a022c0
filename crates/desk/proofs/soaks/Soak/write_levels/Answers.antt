use Rattle.std.proofs.Common.{rules, ◌≡◌, ◌≤◌, codes, w32, to_z, of_z, ap, ◌∙◌, subst, arith}
use Rattle.std.specs.Fmt.{WritesInCalls}
use Rattle.desk.specs.Amounts.{amount_of, amount_text}
use Rattle.desk.specs.Frames.{down_at}
use Rattle.desk.specs.Ticks.{level_text, levels_text, margin_text}
use Rattle.desk.proofs.TickLaws.{no_levels, level_written}
use Rattle.desk.proofs.soaks.Soak.write_levels.Goals as goal

pub loop-at-init : goal.loop-at-init
loop-at-init g c = no_levels g.W.Write.write_str_gives g.S.Measured.told_in c.args.frame.now c.args.step c.args.below c.args.out.now

pub loop-at-preserved : goal.loop-at-preserved
loop-at-preserved g c =
    let unit = g.S.Measured.told_in in
    let frame = c.args.frame.now in
    let steps = c.level_at-steps.result in
    let own : to_z w32 (of_z w32 steps) ≡ steps = search rules in
    let down : c.y.result ≡ down_at frame steps = c.y.ensures ∙ ap (down_at frame) own in
    let words : c.amount.result ≡ amount_of unit steps = c.amount.ensures ∙ ap (amount_of unit) own in
    level_written g.W.Write.write_str_gives unit frame c.args.step c.args.below c.loop-at.at c.args.out.now c.loop-at.out c.write_level.new.out _
    (ap (λ y. level_text (codes "#ddd") y (amount_text c.amount.result)) down ∙ ap (λ a. level_text (codes "#ddd") (down_at frame steps) (amount_text a)) words
    ∙ ap (margin_text (codes "#ddd") unit frame) c.level_at-steps.ensures) c.loop-at.invariant c.in_ok-write_level.ensures

pub returns : goal.returns
returns g c =
    let most : c.loop-at.at ≤ c.args.many = c.loop-at.auto.at-end in
    let past : c.args.many ≤ c.loop-at.at = c.loop-at-test.false in
    let all : c.loop-at.at ≡ c.args.many = omega arith in
    subst (λ n. WritesInCalls g.W.Write.write_str_gives c.args.out.now (levels_text g.S.Measured.told_in c.args.frame.now c.args.step c.args.below n) c.loop-at.out) all c.loop-at.invariant
