-- The calls of a soak begun anew, by their contracts: what its last answer is worth. Assumes nothing.
use Rattle.std.proofs.Common.{◌≡◌, ℕ, ◌+◌, List, [], ◌∷◌, ◌++◌, length, Result, sym, ap, ◌∙◌, subst, append-nil}
use Rattle.records.specs.Model.{RecordModel}
use Rattle.rules.specs.declared.rule.Rule.{Rule}
use Rattle.scales.specs.Model.{ScaleModel}
use Rattle.std.proofs.lemmas.List.{length-append}
use Rattle.watches.specs.Runs.{Call, accepted, Run}
use Rattle.watches.specs.Watching.{Made, Stepped, Played, Asked, Cleared}
use Rattle.watches.specs.Worth.{DefinedNearSafeTight, AfterEveryRun}
use Rattle.watches.specs.declared.answers.Answer.{Answer}
use Rattle.watches.specs.declared.answers.Play.{Play}
use Rattle.watches.specs.declared.refusals.WatchFault.{WatchFault}
use Rattle.watches.specs.declared.watch.Watch.{Watch}
use Rattle.worked.specs.Calls.{begun_anew}

module _ {S Reading Margin : Type 0} (model : S → ScaleModel Reading Margin) (rule : Rule) (scale : S) (early late : RecordModel Reading) where
  -- the calls, each lent so many cells
  abbrev lent_each : ℕ → ℕ → ℕ → ℕ → ℕ → ℕ → List (Call Reading)
  lent_each a b c d e f = Call.step late 10 f ∷ (Call.play late 0 9 e ∷ (Call.clear ∷ (Call.ask d ∷ (Call.play early 3 4294967295 c ∷ (Call.step early 6 b ∷ (Call.step early 5 a ∷ []))))))

  abbrev Worth : ℕ → ℕ → ℕ → ℕ → ℕ → ℕ → ℕ → Result (Answer Margin) WatchFault → Type 0
  Worth a b c d e f n r = DefinedNearSafeTight (model scale) rule (accepted (model scale) rule (lent_each a b c d e f)) n r

  same_lent : (a b c d e f n : ℕ) (r : Result (Answer Margin) WatchFault) → b ≡ 0 → c ≡ a → d ≡ a → e ≡ a → f ≡ a → n ≡ a → Worth a b c d e f n r → Worth a 0 a a a a a r
  same_lent a b c d e f n r pb pc pd pe pf pn h =
      subst (λ k. Worth a 0 a a a a k r) pn
      (subst (λ k. Worth a 0 a a a k n r) pf
      (subst (λ k. Worth a 0 a a k f n r) pe
      (subst (λ k. Worth a 0 a k e f n r) pd
      (subst (λ k. Worth a 0 k d e f n r) pc
      (subst (λ k. Worth a k c d e f n r) pb h)))))

  module _ (w₀ w₁ w₂ w₃ w₄ w₅ w₆ : Watch S) (c₀ c₁ front front' rest c₂ c₃ c₄ c₅ : List Margin) (r₁ r₂ r₅ : Result (Unit {0}) WatchFault) (p₃ p₄ : Play) (a r : Result (Answer Margin) WatchFault) where
    pub worth_anew : Made model rule scale w₀ → Stepped model early 5 w₀ c₀ w₁ c₁ r₁ → front ++ rest ≡ c₁ → length front ≡ 0 → Stepped model early 6 w₁ front w₂ front' r₂ → front' ++ rest ≡ c₂
        → Played model early 3 4294967295 w₂ c₂ w₃ c₃ p₃ → Asked model w₃ c₃ a → Cleared model w₃ w₄ → Played model late 0 9 w₄ c₃ w₅ c₄ p₄ → Stepped model late 10 w₅ c₄ w₆ c₅ r₅ → AfterEveryRun model w₆ c₅ r
        → DefinedNearSafeTight (model scale) rule (accepted (model scale) rule (begun_anew early late (length c₀))) (length c₀) r
    worth_anew made s₁ before none s₂ after p q cl p' s₃ worth =
        let run₁ : Run model rule scale (Call.step early 5 (length c₀) ∷ []) w₁ (c₁ ++ []) = Run.step c₀ c₁ [] (Run.made made) s₁ in
        let run₂ : Run model rule scale (Call.step early 6 (length front) ∷ (Call.step early 5 (length c₀) ∷ [])) w₂ (front' ++ rest) = Run.step front front' rest (subst (Run model rule scale (Call.step early 5 (length c₀) ∷ []) w₁) (append-nil c₁ ∙ sym before) run₁) s₂ in
        let run₃ = Run.play c₂ c₃ [] (subst (Run model rule scale (Call.step early 6 (length front) ∷ (Call.step early 5 (length c₀) ∷ [])) w₂) (after ∙ sym (append-nil c₂)) run₂) p in
        let run₆ = Run.step c₄ c₅ [] (Run.play c₃ c₄ [] (Run.clear (Run.ask c₃ [] a run₃ q) cl) p') s₃ in
        let l₁ : length c₁ ≡ length c₀ = s₁.advances.same_length in
        let l₂ : length c₂ ≡ length c₀ = ap length (sym after) ∙ length-append front' rest ∙ ap (λ k. k + length rest) s₂.advances.same_length ∙ sym (length-append front rest) ∙ ap length before ∙ l₁ in
        let l₃ : length c₃ ≡ length c₀ = p.advances.same_length ∙ l₂ in
        let l₄ : length c₄ ≡ length c₀ = p'.advances.same_length ∙ l₃ in
        let l₅ : length c₅ ≡ length c₀ = s₃.advances.same_length ∙ l₄ in
        same_lent (length c₀) (length front) (length c₂) (length c₃) (length c₃) (length c₄) (length c₅) r none l₂ l₃ l₃ l₄ l₅
        (worth rule scale (lent_each (length c₀) (length front) (length c₂) (length c₃) (length c₃) (length c₄)) [] run₆)
