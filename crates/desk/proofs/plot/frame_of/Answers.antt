use Rattle.std.proofs.Common.{rules, ◌≡◌, slice_index_or, get_or, max, pos, w32, to_z, of_z, ap, ◌∙◌, arith}
use Rattle.desk.specs.Frames.{fall_by, framed, rise_by, rise_over}
use Rattle.desk.specs.declared.columns.Column.{Column}
use Rattle.desk.proofs.FrameLaws.{fall_all, fall_next, rise_all, rise_next}
use Rattle.desk.proofs.plot.frame_of.Goals as goal

pub loop-column-init : goal.loop-column-init
loop-column-init c = (omega arith, omega arith)

pub loop-column-preserved : goal.loop-column-preserved
loop-column-preserved c =
    let cs = c.args.columns.now in
    let i = c.loop-column.column-index in
    let here : Column = slice_index_or cs i (record { lowest = pos 0; highest = pos 0 }) in
    let is : here ≡ get_or cs i here = search rules in
    let high : c.rise.result ≡ rise_by here.highest = let own : to_z w32 (of_z w32 here.highest) ≡ here.highest = search rules in c.rise.ensures ∙ ap rise_by own in
    let low : c.fall.result ≡ fall_by here.lowest = let own : to_z w32 (of_z w32 here.lowest) ≡ here.lowest = search rules in c.fall.ensures ∙ ap fall_by own in (
      rise_next cs i c.loop-column.above _ here c.max-above.result (c.max-above.ensures ∙ ap (max c.loop-column.above) high) c.loop-column-test.true is c.loop-column.invariant.0,
      fall_next cs i c.loop-column.below _ here c.max-below.result (c.max-below.ensures ∙ ap (max c.loop-column.below) low) c.loop-column-test.true is c.loop-column.invariant.1,
    )

pub returns : goal.returns
returns c =
    let cs = c.args.columns.now in
    let i = c.loop-column.column-index in
    let high = rise_all cs i c.loop-column.above _ c.loop-column-test.false c.loop-column.invariant.0 in
    let low = fall_all cs i c.loop-column.below _ c.loop-column-test.false c.loop-column.invariant.1 in
    c.of.ensures ∙ ap (λ a. framed c.args.polls a c.loop-column.below) high ∙ ap (framed c.args.polls (rise_over cs)) low
