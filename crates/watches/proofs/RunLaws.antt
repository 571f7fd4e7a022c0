-- After every run of calls, the watch and the cells stand for the accepted rows. Assumes nothing.
use Rattle.std.proofs.Common.{◌≡◌, List, [], ◌++◌, length, ◌∙◌}
use Rattle.rules.specs.declared.rule.Rule.{Rule}
use Rattle.scales.specs.Model.{ScaleModel}
use Rattle.layout.specs.Rows.{Row}
use Rattle.watches.specs.Calls.{after_step, after_play}
use Rattle.watches.specs.Runs.{Call, accepted, Run}
use Rattle.watches.specs.Watching.{Holds, Advances}
use Rattle.watches.specs.declared.watch.Watch.{Watch}
use Rattle.watches.proofs.PlayLaws.{along}

-- the watch is of the rule and the scale, and stands for the rows
pub record Standing {S Reading Margin : Type 0} (model : S → ScaleModel Reading Margin) (rule : Rule) (scale : S) (rows : List Row) (w : Watch S) (cells : List Margin) : Type 0 where
  pub rule_is : w.rule ≡ rule
  pub scale_is : w.scale ≡ scale
  pub holds : Holds (model scale) rule w.rows.count cells rows

advanced : {S Reading Margin : Type 0} (model : S → ScaleModel Reading Margin) (rule : Rule) (scale : S) (rows : List Row) (w w' : Watch S) (front front' rest : List Margin) (next : ScaleModel Reading Margin → Rule → List Row → List Row)
    → Standing model rule scale rows w (front ++ rest) → Advances model w front w' front' (next (model w.scale) w.rule) → Standing model rule scale (next (model scale) rule rows) w' (front' ++ rest)
advanced model rule scale rows w w' front front' rest next s a = record {
  rule_is = a.same_rule ∙ s.rule_is;
  scale_is = a.same_scale ∙ s.scale_is;
  holds = along (λ ru sc. Holds (model sc) ru w.rows.count (front ++ rest) rows → Holds (model sc) ru w'.rows.count (front' ++ rest) (next (model sc) ru rows)) s.rule_is s.scale_is (a.kept rest rows) s.holds;
}

pub stands : {S Reading Margin : Type 0} {model : S → ScaleModel Reading Margin} {rule : Rule} {scale : S} {calls : List (Call Reading)} {w : Watch S} {cells : List Margin}
    → Run model rule scale calls w cells → Standing model rule scale (accepted (model scale) rule calls) w cells
unfolding accepted
stands {cells = cells} (Run.made m) = record { rule_is = m.made_rule; scale_is = m.made_scale; holds = m.holds cells }
stands {model = model} {rule = rule} {scale = scale} (Run.step {calls = calls} {w = w} {w' = w'} front front' rest {rm = rm} {poll = poll} run done) =
    advanced model rule scale (accepted (model scale) rule calls) w w' front front' rest (λ sm ru. after_step sm ru rm poll (length front)) (stands run) done.advances
stands {model = model} {rule = rule} {scale = scale} (Run.play {calls = calls} {w = w} {w' = w'} front front' rest {rm = rm} {first = first} {last = last} run done) =
    advanced model rule scale (accepted (model scale) rule calls) w w' front front' rest (λ sm ru. after_play sm ru rm first last (length front)) (stands run) done.advances
stands (Run.ask front rest r run done) = stands run
stands {model = model} (Run.clear {w' = w'} {cells = cells} run done) =
    let s = stands run in
    record {
      rule_is = done.same_rule ∙ s.rule_is;
      scale_is = done.same_scale ∙ s.scale_is;
      holds = along (λ ru sc. Holds (model sc) ru w'.rows.count cells []) s.rule_is s.scale_is (done.holds cells);
    }
