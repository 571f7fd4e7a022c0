-- The cells that are enough, the first fault among the heads that are read, and the row of a poll with none. Assumes nothing.
use Rattle.std.proofs.Common.{◌≡◌, ℕ, zero, suc, ◌<◌, ◌≤◌, Bool, true, false, cond, ltb, ℤ, pos, Some, None, Ok, Err, Option, unwrap_or, sym, refl, ap, ◌∙◌, ⊎_elim, arith}
use Rattle.std.specs.Option.{option_or}
use Rattle.std.proofs.lemmas.Bool.{cases_eq, cond-true, ltb-false}
use Rattle.faults.specs.Checks.{checked}
use Rattle.records.specs.Model.{RecordModel}
use Rattle.rules.specs.declared.rule.Rule.{Rule}
use Rattle.scales.specs.Model.{ScaleModel}
use Rattle.layout.specs.Rows.{cells_of}
use Rattle.layout.specs.Shape.{shape}
use Rattle.layout.specs.Steps.{row_at, steps_of, Lit}
use Rattle.watches.specs.Readings.{reads_head, cells_fault, step_fault, reading_fault, first_fault, row_fault, steps_at, row}
use Rattle.watches.specs.declared.refusals.WatchFault.{WatchFault}
use Rattle.watches.specs.declared.refusals.WatchFault.TheVariants.{TooFewCells}

pub none_told : (o : Option WatchFault) → Ok tt ≡ checked o → o ≡ None
none_told None e = refl
none_told (Some f) e = absurd (cc)

pub some_told : (o : Option WatchFault) (f : WatchFault) → Err f ≡ checked o → o ≡ Some f
some_told None f e = absurd (cc)
some_told (Some f') f e = cc

pub enough_cells : (rule : Rule) (lent : ℕ) → Ok tt ≡ checked (cells_fault rule lent) → cells_of rule ≤ lent
enough_cells rule lent e = by (ltb lent (cells_of rule)) refl (none_told (cells_fault rule lent) e)
  where
    by : (b : Bool) → ltb lent (cells_of rule) ≡ b → cond b (Some (TooFewCells (cells_of rule) lent)) None ≡ None → cells_of rule ≤ lent
    by true eb q = absurd (cc)
    by false eb q = ltb-false lent (cells_of rule) eb

module _ (read : ℕ → Bool) (fault : ℕ → Option WatchFault) where
  next : (n : ℕ) → first_fault read fault (suc n) ≡ option_or (first_fault read fault n) (cond (read n) (fault n) None)
  unfolding first_fault
  next n = refl

  -- a head that is read has no fault where there is none
  pub no_fault_at : (n h : ℕ) → first_fault read fault n ≡ None → h < n → read h ≡ true → fault h ≡ None
  no_fault_at zero h e lt y = absurd (omega arith)
  no_fault_at (suc n) h e lt y = ⊎_elim
      (λ (q : h ≡ n). ap fault q ∙ sym (cond-true (read n) (fault n) None (ap read (sym q) ∙ y)) ∙ both.1)
      (λ (q : h ≡ n → ⊥). no_fault_at n h both.0 (omega arith) y)
      (cases_eq h n)
    where
      parts : (a b : Option WatchFault) → option_or a b ≡ None → (a ≡ None) × (b ≡ None)
      parts None b e = (refl, e)
      parts (Some f) b e = absurd (cc)

      both : (first_fault read fault n ≡ None) × (cond (read n) (fault n) None ≡ None)
      both = parts (first_fault read fault n) (cond (read n) (fault n) None) (sym (next n) ∙ e)

module _ {Reading Margin : Type 0} (sm : ScaleModel Reading Margin) (rule : Rule) (rm : RecordModel Reading) (poll : ℕ) where
  has_steps : (head : ℕ) (o : Option Reading) → reading_fault sm head poll o ≡ None → steps_of sm o ≡ Some (unwrap_or (steps_of sm o) (pos 0))
  has_steps head None e = absurd (cc)
  has_steps head (Some x) e = go (sm.steps x) e
    where
      go : (s : Option ℤ) → step_fault head poll s ≡ None → s ≡ Some (unwrap_or s (pos 0))
      go None q = absurd (cc)
      go (Some s) q = refl

  -- the readings of a poll with no fault stand for its row
  pub row_lit : row_fault sm rule rm poll ≡ None → Lit sm (shape rule) (row_at rm poll) (row sm rule rm poll)
  row_lit e h lt y =
      has_steps h (rm.at h poll) (no_fault_at (reads_head rule) (λ g. reading_fault sm g poll (rm.at g poll)) 64 h e lt y)
      ∙ ap Some (sym (cond-true (reads_head rule h) (steps_at sm rm poll h) (pos 0) y))
