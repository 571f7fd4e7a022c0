-- A step over an excerpt is a step over the record, its fault told at the record's own poll. Assumes nothing.
use Rattle.std.proofs.Common.{◌≡◌, ℕ, zero, suc, ◌+◌, ◌<◌, min, Bool, true, false, cond, ltb, leb, ℤ, pos, Some, None, Option, unwrap_or, sym, refl, ap, ◌∙◌, ap₂, ⊎_elim, arith}
use mathlib.Core.Path.{fun_ext}
use Rattle.std.specs.Option.{option_map, option_or}
use Rattle.std.proofs.lemmas.Bool.{cond-true, cond-false, cases_Bool, ltb-false}
use Rattle.records.specs.Excerpt.{left_from, excerpt_record}
use Rattle.records.specs.Model.{RecordModel}
use Rattle.rules.specs.declared.rule.Rule.{Rule}
use Rattle.scales.specs.Model.{ScaleModel}
use Rattle.layout.specs.Rows.{cells_of}
use Rattle.layout.specs.Steps.{steps_of}
use Rattle.watches.specs.Calls.{most_rows, refusal}
use Rattle.watches.specs.Faults.{at_poll}
use Rattle.watches.specs.Readings.{reads_head, step_fault, reading_fault, first_fault, row_fault, row}
use Rattle.watches.specs.declared.refusals.WatchFault.{WatchFault}
use Rattle.watches.specs.declared.refusals.WatchFault.TheVariants.{TooFewCells, Full}

-- the excerpt of all polls from the first to the last reads what the record reads
pub same_reading : {Reading : Type 0} (rm : RecordModel Reading) (first count most t : ℕ) → most ≡ min count 4294967295 → t < count → (h : ℕ) → (excerpt_record rm first most).at h t ≡ rm.at h (first + t)
unfolding excerpt_record
same_reading rm first count most t is below h =
    let few = rm.few_polls in
    ⊎_elim
    (λ (q : ltb t (left_from rm.polls first most) ≡ true). cond-true _ _ _ q)
    (λ (q : ltb t (left_from rm.polls first most) ≡ false). cond-false _ _ _ q ∙ sym (rm.no_such_poll h (first + t) (omega (arith, ltb-false t (left_from rm.polls first most) q))))
    (cases_Bool (ltb t (left_from rm.polls first most)))

told_step : (head t p : ℕ) (o : Option ℤ) → step_fault head p o ≡ option_map (at_poll p) (step_fault head t o)
told_step head t p None = refl
told_step head t p (Some s) = refl

told_other : (p : ℕ) (a b : Option WatchFault) → option_map (at_poll p) (option_or a b) ≡ option_or (option_map (at_poll p) a) (option_map (at_poll p) b)
told_other p None b = refl
told_other p (Some e) b = refl

told-cond : (p : ℕ) (b : Bool) (o : Option WatchFault) → option_map (at_poll p) (cond b o None) ≡ cond b (option_map (at_poll p) o) None
told-cond p true o = refl
told-cond p false o = refl

told_refusal : (p need lent : ℕ) (a b : Bool) (o : Option WatchFault)
    → cond a (Some (TooFewCells need lent)) (cond b (Some Full) (option_map (at_poll p) o)) ≡ option_map (at_poll p) (cond a (Some (TooFewCells need lent)) (cond b (Some Full) o))
told_refusal p need lent true b o = refl
told_refusal p need lent false true o = refl
told_refusal p need lent false false o = refl

told_faults : (p : ℕ) (read : ℕ → Bool) (f g : ℕ → Option WatchFault) → ((h : ℕ) → g h ≡ option_map (at_poll p) (f h)) → (n : ℕ) → first_fault read g n ≡ option_map (at_poll p) (first_fault read f n)
unfolding first_fault
told_faults p read f g each zero = refl
told_faults p read f g each (suc n) =
    ap₂ option_or (told_faults p read f g each n) (ap (λ o. cond (read n) o None) (each n) ∙ sym (told-cond p (read n) (f n))) ∙ sym (told_other p (first_fault read f n) (cond (read n) (f n) None))

module _ {Reading Margin : Type 0} (sm : ScaleModel Reading Margin) where
  told_reading : (head t p : ℕ) (o : Option Reading) → reading_fault sm head p o ≡ option_map (at_poll p) (reading_fault sm head t o)
  told_reading head t p None = refl
  told_reading head t p (Some x) = told_step head t p (sm.steps x)

  -- poll t of one record reads what poll p of another does
  module _ (rule : Rule) (ex rm : RecordModel Reading) (t p : ℕ) (same : (h : ℕ) → ex.at h t ≡ rm.at h p) where
    pub same_row : row sm rule ex t ≡ row sm rule rm p
    same_row = fun_ext (λ h. ap (λ o. cond (reads_head rule h) (unwrap_or (steps_of sm o) (pos 0)) (pos 0)) (same h))

    same_faults : row_fault sm rule rm p ≡ option_map (at_poll p) (row_fault sm rule ex t)
    same_faults =
        told_faults p (reads_head rule) (λ h. reading_fault sm h t (ex.at h t)) (λ h. reading_fault sm h p (rm.at h p))
        (λ h. ap (reading_fault sm h p) (sym (same h)) ∙ told_reading h t p (ex.at h t)) 64

    pub same_refusal : (lent n : ℕ) → refusal sm rule rm p lent n ≡ option_map (at_poll p) (refusal sm rule ex t lent n)
    same_refusal lent n =
        ap (λ o. cond (ltb lent (cells_of rule)) (Some (TooFewCells (cells_of rule) lent)) (cond (leb most_rows n) (Some Full) o)) same_faults
        ∙ told_refusal p (cells_of rule) lent (ltb lent (cells_of rule)) (leb most_rows n) (row_fault sm rule ex t)
