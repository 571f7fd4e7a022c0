-- The picture of a rule's columns is that of its answers. Assumes nothing.
use Rattle.std.proofs.Common.{◌≡◌, ℕ, List, ap, ◌∙◌, subst}
use Rattle.std.specs.Fmt.{WritesInCalls}
use Rattle.formulas.specs.Formula.{Formula, horizon}
use Rattle.records.specs.Model.{RecordModel}
use Rattle.rules.specs.Rules.{zone, formula}
use Rattle.rules.specs.declared.rule.Rule.{Rule}
use Rattle.scales.specs.Model.{ScaleModel}
use Rattle.desk.specs.Answers.{answered_at, answers_of, polls_of}
use Rattle.desk.specs.Columns.{columns_of, each_of}
use Rattle.desk.specs.Frames.{fall_over, frame_over, frame_shown, framed, rise_of}
use Rattle.desk.specs.Pictures.{last_text, sketch_in, sketch_over, sketch_shown}
use Rattle.desk.specs.Summaries.{IsOutcome}
use Rattle.desk.specs.declared.amount.Unit.{Unit}
use Rattle.desk.specs.declared.answered.Answered.{Answered}
use Rattle.desk.specs.declared.columns.Column.{Column}
use Rattle.desk.specs.declared.outcome.Outcome.{Outcome}
use Rattle.desk.proofs.FrameLaws.{fall_columns, rise_columns}

-- what a rule comes to is what its zone and formula come to
pub outcome_are : {Reading Margin : Type 0} (sm : ScaleModel Reading Margin) (rm : RecordModel Reading) (rule : Rule) (zone' : List ℕ) (φ : Formula) (o : Outcome) → zone rule ≡ zone' → formula rule ≡ φ
    → IsOutcome (answers_of sm rule rm) (horizon (formula rule)) rm.polls o → IsOutcome (answered_at sm zone' φ rm) (horizon φ) rm.polls o
outcome_are sm rm rule zone' φ o ez ef h =
    subst (λ f. IsOutcome (answered_at sm zone' f rm) (horizon f) rm.polls o) ef (subst (λ z. IsOutcome (answered_at sm z (formula rule) rm) (horizon (formula rule)) rm.polls o) ez h)

-- the sketch of the columns is that of the answers
pub sketch_are : (unit : Unit) (answers : ℕ → Answered) (own each n polls : ℕ) (cs : List Column) (nearest : Answered) → polls ≡ n → own ≡ each → each ≡ each_of n → cs ≡ columns_of each answers n
    → sketch_over unit polls own cs nearest ≡ sketch_shown unit answers n nearest
sketch_are unit answers own each n polls cs nearest e of_own of_each are =
    let frame : frame_over polls cs ≡ frame_shown answers n =
    ap (λ p. frame_over p cs) e ∙ ap (frame_over n) are ∙ ap (λ a. framed n a (fall_over (columns_of each answers n))) (rise_columns each answers n) ∙ ap (framed n (rise_of answers n)) (fall_columns each answers n) in
    let shown = frame_shown answers n in
    ap (λ f. sketch_in unit f own cs nearest) frame ∙ ap (λ k. sketch_in unit shown k cs nearest) (of_own ∙ of_each)
    ∙ ap (λ l. sketch_in unit shown (each_of n) l nearest) (are ∙ ap (λ k. columns_of k answers n) of_each)

-- what is drawn is of what the zone and the formula answer
pub last_are : {W Reading Margin : Type 0} (took : W → List ℕ → W → Type 0) (w v : W) (unit : Unit) (sm : ScaleModel Reading Margin) (rm : RecordModel Reading) (rule : Rule) (zone' : List ℕ) (φ : Formula) (o : Outcome) → zone rule ≡ zone' → formula rule ≡ φ
    → WritesInCalls took w (last_text unit (answers_of sm rule rm) (polls_of (formula rule) rm) o) v → WritesInCalls took w (last_text unit (answered_at sm zone' φ rm) (polls_of φ rm) o) v
last_are took w v unit sm rm rule zone' φ o ez ef h =
    subst (λ f. WritesInCalls took w (last_text unit (answered_at sm zone' f rm) (polls_of f rm) o) v) ef
    (subst (λ z. WritesInCalls took w (last_text unit (answered_at sm z (formula rule) rm) (polls_of (formula rule) rm) o) v) ez h)
