-- The rows of several polls, one after another. Assumes nothing.
use Rattle.std.proofs.Common.{◌≡◌, ℕ, zero, suc, ◌+◌, ◌<◌, [], ◌∷◌, ◌++◌, length, pos, sym, refl, ap, ◌∙◌, ⊎_elim, arith}
use Rattle.std.proofs.lemmas.List.{length_push, get_or_push, get_or_append_left}
use Rattle.std.proofs.lemmas.Bool.{cases_eq}
use Rattle.records.specs.Model.{RecordModel}
use Rattle.rules.specs.declared.rule.Rule.{Rule}
use Rattle.scales.specs.Model.{ScaleModel}
use Rattle.layout.specs.Rows.{signal}
use Rattle.watches.specs.Readings.{row}
use Rattle.watches.specs.Surveys.{rows_from}

module _ {Reading Margin : Type 0} (sm : ScaleModel Reading Margin) (rule : Rule) (rm : RecordModel Reading) (t : ℕ) where
  pub no_rows : rows_from sm rule rm t 0 ≡ []
  unfolding rows_from
  no_rows = refl

  pub more_rows : (n : ℕ) → rows_from sm rule rm t (n + 1) ≡ rows_from sm rule rm t n ++ (row sm rule rm (t + n) ∷ [])
  unfolding rows_from
  more_rows n = let e : n + 1 ≡ suc n = omega arith in ap (rows_from sm rule rm t) e

  pub length_rows : (n : ℕ) → length (rows_from sm rule rm t n) ≡ n
  length_rows zero = ap length no_rows
  length_rows (suc n) =
      let e : suc n ≡ n + 1 = omega arith in
      ap (λ k. length (rows_from sm rule rm t k)) e ∙ ap length (more_rows n) ∙ length_push (rows_from sm rule rm t n) (row sm rule rm (t + n)) ∙ ap (λ k. k + 1) (length_rows n) ∙ sym e

  pub row_of : (n u : ℕ) → u < n → signal (rows_from sm rule rm t n) u ≡ row sm rule rm (t + u)
  row_of zero u lt = absurd (omega arith)
  row_of (suc n) u lt =
      let e : suc n ≡ n + 1 = omega arith in
      ap (λ k. signal (rows_from sm rule rm t k) u) e ∙ ap (λ rows. signal rows u) (more_rows n) ∙ ⊎_elim
      (λ (q : u ≡ n). get_or_push (rows_from sm rule rm t n) (row sm rule rm (t + n)) (λ _. pos 0) u (length_rows n ∙ sym q) ∙ ap (λ k. row sm rule rm (t + k)) (sym q))
      (λ (q : u ≡ n → ⊥). get_or_append_left (rows_from sm rule rm t n) (row sm rule rm (t + n) ∷ []) (λ _. pos 0) u (omega (arith, length_rows n)) ∙ row_of n u (omega arith))
      (cases_eq u n)
