use Rattle.std.proofs.Common.{rules, ◌≡◌, ◌≤◌, length, slice_index_or, pos, w32, to_z, of_z, ap, ◌∙◌, subst, arith}
use Rattle.std.specs.Fmt.{WritesInCalls}
use Rattle.desk.specs.Bands.{column_at, highest_text, pen_text, point_text}
use Rattle.desk.specs.Columns.{middle_of, one_margin}
use Rattle.desk.specs.declared.columns.Column.{Column}
use Rattle.desk.proofs.BandLaws.{no_point, higher_point}
use Rattle.desk.proofs.plot.write_highest.Goals as goal

pub loop-at-init : goal.loop-at-init
loop-at-init g c = no_point g.W.Write.write_str_gives c.args.frame.now c.args.columns.now.each c.args.columns.now.columns.items c.args.out.now

pub loop-at-preserved : goal.loop-at-preserved
loop-at-preserved g c =
    let cs = c.args.columns.now.columns.items in
    let each = c.args.columns.now.each in
    let frame = c.args.frame.now in
    let at = c.loop-at.at in
    let here : Column = slice_index_or c.as_slice-all.result.now at (record { lowest = pos 0; highest = pos 0 }) in
    let items : c.as_slice-all.result.now ≡ cs = search rules in
    let column : here ≡ column_at cs at = ap (λ l. slice_index_or l at (one_margin (pos 0))) items in
    let own : to_z w32 (of_z w32 here.highest) ≡ here.highest = search rules in
    let pen : c.pen.result.now ≡ pen_text at = c.pen.ensures in
    let middle : c.middle.result ≡ middle_of each at = c.middle.ensures in
    let margin : to_z w32 (of_z w32 here.highest) ≡ (column_at cs at).highest = own ∙ ap (λ x. x.highest) column in
    higher_point g.W.Write.write_str_gives frame each cs c.args.out.now c.loop-at.out c.write_point.new.out at _
    (ap (λ p. point_text p frame c.middle.result (to_z w32 (of_z w32 here.highest))) pen ∙ ap (λ m. point_text (pen_text at) frame m (to_z w32 (of_z w32 here.highest))) middle ∙ ap (point_text (pen_text at) frame (middle_of each at)) margin)
    c.loop-at.invariant c.in_ok-write_point.ensures

pub returns : goal.returns
returns g c =
    let cs = c.args.columns.now.columns.items in
    let each = c.args.columns.now.each in
    let len : c.as_slice-all.result.now ≡ cs = search rules in
    let most : c.loop-at.at ≤ length c.as_slice-all.result.now = c.loop-at.auto.at-end in
    let past : length c.as_slice-all.result.now ≤ c.loop-at.at = c.loop-at-test.false in
    let all : c.loop-at.at ≡ length c.as_slice-all.result.now = omega arith in
    subst (λ n. WritesInCalls g.W.Write.write_str_gives c.args.out.now (highest_text c.args.frame.now each cs n) c.loop-at.out) (all ∙ ap length len) c.loop-at.invariant
