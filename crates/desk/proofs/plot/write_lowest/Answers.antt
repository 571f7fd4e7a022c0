use Rattle.std.proofs.Common.{rules, ◌≡◌, ◌-◌, ◌<◌, ◌≤◌, codes, length, slice_index_or, pos, w32, to_z, of_z, ap, ◌∙◌, subst}
use Rattle.desk.specs.Bands.{column_at, point_text}
use Rattle.desk.specs.Columns.{middle_of, one_margin}
use Rattle.desk.specs.declared.columns.Column.{Column}
use Rattle.desk.proofs.BandLaws.{last_point, lower_point}
use Rattle.desk.proofs.plot.write_lowest.Goals as goal

pub loop-back-preserved : goal.loop-back-preserved
loop-back-preserved g c =
    let cs = c.args.columns.now.columns.items in
    let each = c.args.columns.now.each in
    let frame = c.args.frame.now in
    let all = c.as_slice-all.result.now in
    let back = c.loop-back.back in
    let items : all ≡ cs = search rules in
    let own_at = length all - 1 - back in
    let at = length cs - 1 - back in
    let here : Column = slice_index_or all own_at (record { lowest = pos 0; highest = pos 0 }) in
    let column : here ≡ column_at cs at = ap (λ l. slice_index_or l (length l - 1 - back) (one_margin (pos 0))) items in
    let own : to_z w32 (of_z w32 here.lowest) ≡ here.lowest = search rules in
    let middle : c.middle.result ≡ middle_of each at = c.middle.ensures ∙ ap (λ l. middle_of each (length l - 1 - back)) items in
    let margin : to_z w32 (of_z w32 here.lowest) ≡ (column_at cs at).lowest = own ∙ ap (λ x. x.lowest) column in
    let there : back < length all = c.loop-back-test.true in
    let lt : back < length cs = subst (λ l. back < length l) items there in
    lower_point g.W.Write.write_str_gives frame each cs c.args.out.now c.loop-back.out c.write_point.new.out back _ lt
    (ap (λ m. point_text (codes "L") frame m (to_z w32 (of_z w32 here.lowest))) middle ∙ ap (point_text (codes "L") frame (middle_of each at)) margin) c.loop-back.invariant c.in_ok-write_point.ensures

pub returns : goal.returns
returns g c =
    let cs = c.args.columns.now.columns.items in
    let all = c.as_slice-all.result.now in
    let items : all ≡ cs = search rules in
    let past : length all ≤ c.loop-back.back = c.loop-back-test.false in
    let past_all : length cs ≤ c.loop-back.back = subst (λ l. length l ≤ c.loop-back.back) items past in
    last_point g.W.Write.write_str_gives c.args.frame.now c.args.columns.now.each cs c.args.out.now c.loop-back.out c.loop-back.back past_all c.loop-back.invariant
