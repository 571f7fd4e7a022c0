use Rattle.std.proofs.Common.{rules, ◌≡◌, ◌++◌, codes, pos, ap, ◌∙◌, subst}
use Rattle.std.specs.Fmt.{WritesInCalls}
use Rattle.std.proofs.Output.{writes_in_calls_append}
use Rattle.desk.specs.Amounts.{amount_of, amount_text}
use Rattle.desk.specs.Bands.{band_text}
use Rattle.desk.specs.Frames.{frame_over}
use Rattle.desk.specs.Pictures.{ringed_text, sketch_in}
use Rattle.desk.specs.Ticks.{level_text, lines_text, margin_text, ticks_text}
use Rattle.desk.proofs.soaks.Soak.write_sketch.Goals as goal

pub returns : goal.returns
returns g c =
    let took = g.W.Write.write_str_gives in
    let unit = g.S.Measured.told_in in
    let first = c.args.out.now in
    let last = c.write_nearest.new.out in
    let a = c.args.summary.now.nearest in
    let frame = c.frame_of-frame.result in
    let columns = c.args.columns.now in
    let band = band_text frame columns.each columns.columns.items in
    let nought : WritesInCalls took c.write_band.new.out (margin_text (codes "#c00") unit frame (pos 0)) c.write_level.new.out =
    subst (λ y. WritesInCalls took c.write_band.new.out (level_text (codes "#c00") y (amount_text (amount_of unit (pos 0)))) c.write_level.new.out) c.y.ensures
    (subst (λ m. WritesInCalls took c.write_band.new.out (level_text (codes "#c00") c.y.result (amount_text m)) c.write_level.new.out) c.amount.ensures c.in_ok-write_level.ensures) in
    let behind_band : WritesInCalls took c.write_band.new.out (margin_text (codes "#c00") unit frame (pos 0) ++ ringed_text unit frame a) last =
    writes_in_calls_append took c.write_band.new.out (margin_text (codes "#c00") unit frame (pos 0)) c.write_level.new.out (ringed_text unit frame a) last nought c.in_ok-write_nearest.ensures in
    let behind_ticks : WritesInCalls took c.write_polls.new.out (band ++ (margin_text (codes "#c00") unit frame (pos 0) ++ ringed_text unit frame a)) last =
    writes_in_calls_append took c.write_polls.new.out band c.write_band.new.out (margin_text (codes "#c00") unit frame (pos 0) ++ ringed_text unit frame a) last c.in_ok-write_band.ensures behind_band in
    let behind_lines : WritesInCalls took c.write_margins.new.out (ticks_text frame.polls ++ (band ++ (margin_text (codes "#c00") unit frame (pos 0) ++ ringed_text unit frame a))) last =
    writes_in_calls_append took c.write_margins.new.out (ticks_text frame.polls) c.write_polls.new.out (band ++ (margin_text (codes "#c00") unit frame (pos 0) ++ ringed_text unit frame a)) last c.in_ok-write_polls.ensures behind_ticks in
    let all : WritesInCalls took first (sketch_in unit frame columns.each columns.columns.items a) last =
    writes_in_calls_append took first (lines_text unit frame) c.write_margins.new.out (ticks_text frame.polls ++ (band ++ (margin_text (codes "#c00") unit frame (pos 0) ++ ringed_text unit frame a))) last c.in_ok-write_margins.ensures behind_lines in
    let items : c.deref.result.now ≡ columns.columns.items = search rules in
    let is : frame ≡ frame_over c.args.summary.now.polls columns.columns.items = c.frame_of-frame.ensures ∙ ap (frame_over c.args.summary.now.polls) items in
    subst (λ f. WritesInCalls took first (sketch_in unit f columns.each columns.columns.items a) last) is all
