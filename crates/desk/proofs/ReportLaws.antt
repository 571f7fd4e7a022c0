-- The rows of a report, one after another. Assumes nothing.
use Rattle.std.proofs.Common.{◌≡◌, ℕ, suc, ◌+◌, ◌<◌, ◌≤◌, List, [], ◌∷◌, ◌++◌, append_assoc, append-nil, drop, length, get_or, None, Option, codes, refl, sym, ap, ◌∙◌, subst, drop-cons, arith}
use Rattle.std.proofs.Math.ListN.{drop_of_length-le}
use Rattle.std.specs.Fmt.{WritesInCalls}
use Rattle.std.proofs.Output.{writes_in_calls_append, writes_in_calls_nil}
use Rattle.records.specs.Model.{RecordModel}
use Rattle.rules.specs.declared.place.RulePlace.{RulePlace}
use Rattle.scales.specs.Model.{ScaleModel}
use Rattle.desk.specs.Reports.{AreRows, IsReport, head_text, report_text, row_text, rows_text, smallest_from, smallest_text}
use Rattle.desk.specs.Rows.{IsRow, smaller_of}
use Rattle.desk.specs.declared.amount.Unit.{Unit}
use Rattle.desk.specs.declared.report.RuleRow.{RuleRow}
use Rattle.desk.specs.declared.report.Smallest.{Smallest}

more_rows : (unit : Unit) (rows : List RuleRow) (row : RuleRow) → rows_text unit (rows ++ row ∷ []) ≡ rows_text unit rows ++ row_text unit row
more_rows unit [] row = append-nil (row_text unit row)
more_rows unit (r ∷ rows) row = ap (λ t. row_text unit r ++ t) (more_rows unit rows row) ∙ sym (append_assoc (row_text unit r) (rows_text unit rows) (row_text unit row))

-- the rows of the first i places are written, and the smallest margin of these is known
pub record Reported {W Reading Margin : Type 0} (took : W → List ℕ → W → Type 0) (sm : ScaleModel Reading Margin) (unit : Unit) (places : List RulePlace) (rm : RecordModel Reading) (i : ℕ) (smallest : Option Smallest) (w v : W) : Type 0 where
  pub rows : List RuleRow
  pub each : (rest : List RuleRow) → AreRows sm (drop i places) rm rest → AreRows sm places rm (rows ++ rest)
  pub left : (rest : List RuleRow) → smallest_from smallest rest ≡ smallest_from None (rows ++ rest)
  pub written : WritesInCalls took w (rows_text unit rows) v

module _ {W Reading Margin : Type 0} (took : W → List ℕ → W → Type 0) (sm : ScaleModel Reading Margin) (unit : Unit) (places : List RulePlace) (rm : RecordModel Reading) (w : W) where
  pub none_reported : Reported took sm unit places rm 0 None w w
  none_reported = record {
    rows = [];
    each = λ rest h. h;
    left = λ rest. refl;
    written = writes_in_calls_nil took w;
  }

  module _ (i : ℕ) (smallest : Option Smallest) (v : W) (so_far : Reported took sm unit places rm i smallest w v) where
    pub row_reported : (place : RulePlace) (row : RuleRow) (next : Option Smallest) (u : W) → i < length places → place ≡ get_or places i place → IsRow sm place rm row → next ≡ smaller_of smallest row
        → WritesInCalls took v (row_text unit row) u → Reported took sm unit places rm (i + 1) next w u
    row_reported place row next u lt is own next_is line =
        let more : suc i ≡ i + 1 = omega arith in
        let places_are : drop i places ≡ place ∷ drop (i + 1) places = drop-cons places i place lt ∙ ap (λ p. p ∷ drop (suc i) places) (sym is) ∙ ap (λ k. place ∷ drop k places) more in
        let grouped : (rest : List RuleRow) → so_far.rows ++ (row ∷ rest) ≡ (so_far.rows ++ row ∷ []) ++ rest = λ rest. sym (append_assoc so_far.rows (row ∷ []) rest) in
        record {
          rows = so_far.rows ++ row ∷ [];
          each = λ rest h. subst (AreRows sm places rm) (grouped rest) (so_far.each (row ∷ rest) (subst (λ ps. AreRows sm ps rm (row ∷ rest)) (sym places_are) (own, h)));
          left = λ rest. ap (λ s. smallest_from s rest) next_is ∙ so_far.left (row ∷ rest) ∙ ap (smallest_from None) (grouped rest);
          written = subst (λ t. WritesInCalls took w t u) (sym (more_rows unit so_far.rows row))
              (writes_in_calls_append took w _ v _ u so_far.written line);
        }

    pub all_reported : (first u : W) → length places ≤ i → WritesInCalls took first (head_text unit rm.polls) w → WritesInCalls took v (codes "\n" ++ smallest_text unit smallest) u → (text : List ℕ) × IsReport sm unit places rm text × WritesInCalls took first text u
    all_reported first u past head line =
        let none : drop i places ≡ [] = drop_of_length-le places past in
        let rows = so_far.rows in
        let all : rows ++ [] ≡ rows = append-nil rows in
        let last : smallest ≡ smallest_from None rows = so_far.left [] ∙ ap (smallest_from None) all in (
          report_text unit rm.polls rows,
          record { rows = rows; each = subst (AreRows sm places rm) all (so_far.each [] (subst (λ ps. AreRows sm ps rm []) (sym none) tt)); is = refl },
          writes_in_calls_append took first _ w _ u head
              (writes_in_calls_append took w _ v _ u so_far.written (subst (λ s. WritesInCalls took v (codes "\n" ++ smallest_text unit s) u) last line)),
        )
