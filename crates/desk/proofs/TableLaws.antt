-- A line more of a table. Assumes nothing.
use Rattle.std.proofs.Common.{◌≡◌, ℕ, suc, ◌+◌, List, ◌++◌, codes, decimal, ap, ◌∙◌, subst, arith}
use Rattle.std.specs.Prelude.{ℤ}
use Rattle.std.specs.Fmt.{WritesInCalls}
use Rattle.std.proofs.Output.{writes_in_calls_append}
use Rattle.formulas.specs.Formula.{Formula}
use Rattle.records.specs.Model.{RecordModel}
use Rattle.rules.specs.Rules.{zone, formula}
use Rattle.rules.specs.declared.rule.Rule.{Rule}
use Rattle.scales.specs.Model.{ScaleModel}
use Rattle.desk.specs.Amounts.{steps_text}
use Rattle.desk.specs.Answers.{answered_at, answers_of, polls_of}
use Rattle.desk.specs.Tables.{verdict_text, line_text, lines_text}
use Rattle.desk.specs.declared.amount.Unit.{Unit}
use Rattle.desk.specs.declared.answered.Answered.{Answered}

module _ {W : Type 0} (took : W → List ℕ → W → Type 0) (unit : Unit) (answers : ℕ → Answered) where
  pub line_written : (n : ℕ) (a : Answered) (steps : ℤ) (word : List ℕ) (w v u : W) → a ≡ answers n → steps ≡ a.margin → word ≡ verdict_text a.yes → WritesInCalls took w (lines_text unit answers n) v
      → WritesInCalls took v (decimal a.poll ++ (codes "," ++ (steps_text unit steps ++ (codes "," ++ (word ++ codes "\n"))))) u → WritesInCalls took w (lines_text unit answers (n + 1)) u
  line_written n a steps word w v u is steps_are word_is before line =
      let more : suc n ≡ n + 1 = omega arith in
      let text : decimal a.poll ++ (codes "," ++ (steps_text unit steps ++ (codes "," ++ (word ++ codes "\n")))) ≡ line_text unit a =
      ap (λ z. decimal a.poll ++ (codes "," ++ (steps_text unit z ++ (codes "," ++ (word ++ codes "\n"))))) steps_are
      ∙ ap (λ t. decimal a.poll ++ (codes "," ++ (steps_text unit a.margin ++ (codes "," ++ (t ++ codes "\n"))))) word_is in
      subst (λ k. WritesInCalls took w (lines_text unit answers k) u) more
      (writes_in_calls_append took w _ v _ u before (subst (λ t. WritesInCalls took v t u) (text ∙ ap (line_text unit) is) line))

-- the lines of a rule are those of its zone and formula
module _ {W Reading Margin : Type 0} (took : W → List ℕ → W → Type 0) (sm : ScaleModel Reading Margin) (rm : RecordModel Reading) where
  pub lines_are : (rule : Rule) (zone' : List ℕ) (φ : Formula) (unit unit' : Unit) (w v : W) → zone rule ≡ zone' → formula rule ≡ φ → unit ≡ unit' → WritesInCalls took w (lines_text unit (answers_of sm rule rm) (polls_of (formula rule) rm)) v
      → WritesInCalls took w (lines_text unit' (answered_at sm zone' φ rm) (polls_of φ rm)) v
  lines_are rule zone' φ unit unit' w v ez ef eu h =
      subst (λ u. WritesInCalls took w (lines_text u (answered_at sm zone' φ rm) (polls_of φ rm)) v) eu
      (subst (λ f. WritesInCalls took w (lines_text unit (answered_at sm zone' f rm) (polls_of f rm)) v) ef
      (subst (λ z. WritesInCalls took w (lines_text unit (answered_at sm z (formula rule) rm) (polls_of (formula rule) rm)) v) ez h))
