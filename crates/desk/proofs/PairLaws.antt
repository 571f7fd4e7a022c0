-- The margin and the verdict that two watches answer together. Assumes nothing.
use Rattle.std.proofs.Common.{◌≡◌, ℕ, ◌+◌, ◌-◌, Bool, true, false, cond, leb, List, pos, Some, None, Ok, Option, refl, ap, ◌∙◌}
use Rattle.std.specs.Prelude.{int_le, ℤ}
use Rattle.formulas.specs.Formula.{horizon}
use Rattle.formulas.specs.Margin.{margin}
use Rattle.records.specs.Model.{RecordModel}
use Rattle.rules.specs.Rules.{zone, formula}
use Rattle.rules.specs.declared.rule.Rule.{Rule}
use Rattle.scales.specs.Model.{ScaleModel}
use Rattle.scales.specs.Verdict.{verdict, verdict_mark, verdict_whole}
use Rattle.scales.specs.declared.verdict.Verdict.{Verdict}
use Rattle.scales.specs.declared.verdict.VerdictMargin.{VerdictMargin}
use Rattle.watches.specs.Readings.{steps_at}
use Rattle.watches.specs.declared.answers.Answer.{Answer}
use Rattle.watches.specs.declared.answers.Answer.TheVariants.{Waiting, At}
use Rattle.watches.specs.declared.watch.Watch.{Watch}
use Rattle.desk.specs.Follows.{Advanced, answer_after, meant}
use Rattle.desk.specs.Pairs.{BothTaken, joined, heard_after, verdicts_over}
use Rattle.desk.specs.declared.answered.Answered.{Answered}

joined_after : {Reading Margin : Type 0} (sm : ScaleModel Reading Margin) (rule : Rule) (rm : RecordModel Reading) (n : ℕ) → joined (answer_after sm rule rm n) (answer_after (verdict sm) rule rm n) ≡ heard_after sm rule rm n
joined_after sm rule rm n = by (leb n h)
  where
    h : ℕ
    h = horizon (formula rule)

    by : (b : Bool) → joined (cond {A = Answer ℤ} b (Waiting (horizon (formula rule) + 1 - n)) (At (n - 1 - horizon (formula rule)) (margin sm.mark (zone rule) (formula rule) (steps_at sm rm) (n - 1 - horizon (formula rule)))))
        (cond {A = Answer ℤ} b (Waiting (horizon (formula rule) + 1 - n)) (At (n - 1 - horizon (formula rule)) (margin (verdict_mark sm.mark) (zone rule) (formula rule) (steps_at sm rm) (n - 1 - horizon (formula rule)))))
        ≡ cond {A = Option Answered} b None (Some (record {
          poll = n - 1 - horizon (formula rule);
          margin = margin sm.mark (zone rule) (formula rule) (steps_at sm rm) (n - 1 - horizon (formula rule));
          yes = int_le (pos 0) (margin (verdict_mark sm.mark) (zone rule) (formula rule) (steps_at sm rm) (n - 1 - horizon (formula rule)));
        }))
    by true = refl
    by false = refl

module _ {S Reading Margin : Type 0} (model : S → ScaleModel Reading Margin) (rule : Rule) (scale : S) (rm : RecordModel Reading) (n : ℕ) (w : Watch S) (v : Watch (Verdict S)) (cells : List Margin) (cells' : List VerdictMargin) where
  pub both_taken : (x : Answer Margin) (y : Answer VerdictMargin) (o : Option Answered) → Advanced model rule scale rm n w cells (Ok x) → Advanced (verdicts_over model) rule (record { lower = scale }) rm n v cells' (Ok y)
      → o ≡ joined (meant (model scale).whole x) (meant verdict_whole y) → BothTaken model rule scale rm n w v cells cells' (Ok o)
  both_taken x y o a b e = record {
    told = a.told;
    answers = e ∙ ap (λ z. joined z (meant verdict_whole y)) a.answers ∙ ap (joined (answer_after (model scale) rule rm (n + 1))) b.answers ∙ joined_after (model scale) rule rm (n + 1);
    follows = record { margins = a.follows; verdicts = b.follows };
  }
