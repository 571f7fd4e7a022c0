-- The polls of a survey: their faults, and their rows. Assumes nothing.
use Rattle.std.proofs.Common.{◌≡◌, ℕ, zero, suc, ◌+◌, ◌-◌, ◌<◌, ◌≤◌, Bool, true, false, cond, ltb, leb, List, [], ◌∷◌, ◌++◌, length, pos, Some, None, Ok, Err, Option, sym, refl, ap, ◌∙◌, subst, arith}
use Rattle.std.proofs.lemmas.Bool.{le-ltb, le-leb, lt-leb, cond-true, cond-false, ltb-false, leb-false, false≢true}
use Rattle.faults.specs.Checks.{checked}
use Rattle.formulas.specs.Formula.{horizon}
use Rattle.formulas.specs.Margin.{margin}
use Rattle.formulas.proofs.Near.{margin_local, margin_later}
use Rattle.records.specs.Model.{RecordModel}
use Rattle.rules.specs.Rules.{zone, formula}
use Rattle.rules.specs.declared.rule.Rule.{Rule}
use Rattle.rules.proofs.Standing.{whole_is}
use Rattle.scales.specs.Model.{ScaleModel}
use Rattle.layout.specs.Rows.{Row, signal, cells_of, Holds, Advanced, Latest}
use Rattle.layout.specs.Steps.{row_at}
use Rattle.layout.proofs.Holdings.{holds_none}
use Rattle.layout.proofs.Shapes.{formed}
use Rattle.std.specs.Option.{option_or}
use Rattle.watches.specs.Readings.{reads_head, row_fault, steps_at, row}
use Rattle.watches.specs.Surveys.{faults_from, polls_fault, rows_from, or_fault, survey_fault, Taken, Surveyed}
use Rattle.watches.specs.declared.refusals.WatchFault.{WatchFault}
use Rattle.watches.specs.declared.refusals.WatchFault.TheVariants.{TooFewCells, PastTheEnd}
use Rattle.watches.proofs.RowFaults.{none_told, some_told, row_lit}
use Rattle.watches.proofs.RowLists.{no_rows, more_rows, length_rows, row_of}

module _ {Reading Margin : Type 0} (sm : ScaleModel Reading Margin) (rule : Rule) (rm : RecordModel Reading) (t : ℕ) where
  -- ---- the faults of the polls
  pub no_polls : polls_fault sm rule rm t 0 ≡ None
  unfolding faults_from
  no_polls = refl

  next : (n : ℕ) → polls_fault sm rule rm t (suc n) ≡ option_or (polls_fault sm rule rm t n) (row_fault sm rule rm (t + n))
  unfolding faults_from
  next n = refl

  at_next : (n : ℕ) → polls_fault sm rule rm t n ≡ None → polls_fault sm rule rm t (n + 1) ≡ row_fault sm rule rm (t + n)
  at_next n none = let e : n + 1 ≡ suc n = omega arith in ap (polls_fault sm rule rm t) e ∙ next n ∙ ap (λ o. option_or o (row_fault sm rule rm (t + n))) none

  stays : (e : WatchFault) (n k : ℕ) → polls_fault sm rule rm t n ≡ Some e → polls_fault sm rule rm t (k + n) ≡ Some e
  stays e n zero h = let z : 0 + n ≡ n = omega arith in ap (polls_fault sm rule rm t) z ∙ h
  stays e n (suc k) h = let z : suc k + n ≡ suc (k + n) = omega arith in ap (polls_fault sm rule rm t) z ∙ next (k + n) ∙ ap (λ o. option_or o (row_fault sm rule rm (t + (k + n)))) (stays e n k h)

  pub poll_fine : (n : ℕ) → Ok tt ≡ checked (row_fault sm rule rm (t + n)) → polls_fault sm rule rm t n ≡ None → polls_fault sm rule rm t (n + 1) ≡ None
  poll_fine n fine none = at_next n none ∙ none_told (row_fault sm rule rm (t + n)) fine

  pub poll_fault : (n m : ℕ) (e : WatchFault) → n < m → Err e ≡ checked (row_fault sm rule rm (t + n)) → polls_fault sm rule rm t n ≡ None → Err e ≡ checked (polls_fault sm rule rm t m)
  poll_fault n m e lt bad none =
      let all : (m - (n + 1)) + (n + 1) ≡ m = omega arith in
      ap checked (sym (ap (polls_fault sm rule rm t) (sym all) ∙ stays e (n + 1) (m - (n + 1)) (at_next n none ∙ some_told (row_fault sm rule rm (t + n)) e bad)))

  -- the polls before one more have no fault where all have none
  earlier : (n : ℕ) → polls_fault sm rule rm t (n + 1) ≡ None → (polls_fault sm rule rm t n ≡ None) × (row_fault sm rule rm (t + n) ≡ None)
  earlier n e = parts (polls_fault sm rule rm t n) (row_fault sm rule rm (t + n)) (sym (next n) ∙ ap (polls_fault sm rule rm t) more ∙ e)
    where
      more : suc n ≡ n + 1
      more = omega arith

      parts : (a b : Option WatchFault) → option_or a b ≡ None → (a ≡ None) × (b ≡ None)
      parts None b e = (refl, e)
      parts (Some f) b e = absurd (cc)

  -- ---- their rows
  pub taken_none : (cells : List Margin) → Taken sm rule rm t 0 cells cells
  taken_none cells = record {
    same_length = refl;
    behind = refl;
    holds = λ enough none rest. subst (Holds sm.mark sm.whole rule 0 (cells ++ rest)) (sym (no_rows sm rule rm t)) (holds_none sm.mark sm.whole rule (cells ++ rest));
  }

  pub taken_more : (n k p : ℕ) (xs ys zs : List Margin) (took : Bool) → k ≡ n → p ≡ t + n → Advanced sm rule (row_at rm p) k ys zs took → Taken sm rule rm t n xs ys → Taken sm rule rm t (n + 1) xs zs
  taken_more n k p xs ys zs took ek ep a inv = record {
    same_length = a.long ∙ inv.same_length;
    behind = a.behind ∙ inv.behind;
    holds = λ enough none rest.
        let both = earlier n none in
        let yes : took ≡ true = a.told ∙ le-leb (cells_of rule) (length ys) (omega (arith, inv.same_length)) in
        let fine : row_fault sm rule rm p ≡ None = ap (row_fault sm rule rm) ep ∙ both.1 in
        subst (Holds sm.mark sm.whole rule (n + 1) (zs ++ rest)) (ap (λ q. rows_from sm rule rm t n ++ (row sm rule rm q ∷ [])) ep ∙ sym (more_rows sm rule rm t n))
        (subst (λ j. Holds sm.mark sm.whole rule j (ys ++ rest) (rows_from sm rule rm t n) → Holds sm.mark sm.whole rule (j + 1) (zs ++ rest) (rows_from sm rule rm t n ++ (row sm rule rm p ∷ []))) ek
        (a.holds yes (row sm rule rm p) (row_lit sm rule rm p fine) rest (rows_from sm rule rm t n)) (inv.holds enough both.0 rest));
  }

  -- ---- the margin of the rows is that of the record
  record_margin : margin sm.mark (zone rule) (formula rule) (signal (rows_from sm rule rm t (horizon (formula rule) + 1))) 0 ≡ margin sm.mark (zone rule) (formula rule) (steps_at sm rm) t
  record_margin =
      let h = horizon (formula rule) in
      let from : t + 0 ≡ t = omega arith in
      margin_local sm.mark (zone rule) (formula rule) (formed (zone rule) (formula rule) (whole_is rule).lawful.ranged) 0 (signal (rows_from sm rule rm t (h + 1))) (λ u g. steps_at sm rm (t + u) g)
      (λ u g lo hi read. ap (λ (z : Row). z g) (row_of sm rule rm t (h + 1) u (omega arith)) ∙ cond-true (reads_head rule g) (steps_at sm rm (t + u) g) (pos 0) read)
      ∙ margin_later sm.mark (zone rule) (formula rule) t 0 (steps_at sm rm) ∙ ap (margin sm.mark (zone rule) (formula rule) (steps_at sm rm)) from

  -- ---- no ground refuses: the cells are enough, the record goes on, and no poll has a fault
  pub record Clear (lent : ℕ) : Type 0 where
    pub enough : cells_of rule ≤ lent
    pub within : t + horizon (formula rule) < rm.polls
    pub fine : polls_fault sm rule rm t (horizon (formula rule) + 1) ≡ None

  pub clear : (lent : ℕ) → Ok tt ≡ checked (survey_fault sm rule rm lent t) → Clear lent
  clear lent e = cells_by (ltb lent (cells_of rule)) (leb rm.polls (t + horizon (formula rule))) refl refl (none_told (survey_fault sm rule rm lent t) e)
    where
      cells_by : (a b : Bool) → ltb lent (cells_of rule) ≡ a → leb rm.polls (t + horizon (formula rule)) ≡ b
          → cond a (Some (TooFewCells (cells_of rule) lent)) (cond b (Some (PastTheEnd t (horizon (formula rule)) rm.polls)) (polls_fault sm rule rm t (horizon (formula rule) + 1))) ≡ None → Clear lent
      cells_by true b ea eb q = absurd (cc)
      cells_by false true ea eb q = absurd (cc)
      cells_by false false ea eb q = record { enough = ltb-false lent (cells_of rule) ea; within = leb-false rm.polls (t + horizon (formula rule)) eb; fine = q }

  pub is_surveyed : (xs ys : List Margin) (n : ℕ) (m : Margin) → n ≡ horizon (formula rule) + 1 → Ok tt ≡ checked (survey_fault sm rule rm (length xs) t) → Taken sm rule rm t (horizon (formula rule) + 1) xs ys → Latest rule n ys (Some m) → Surveyed sm rule rm t xs ys (Ok m)
  is_surveyed xs ys n m en fine took latest =
      let ok = clear (length xs) fine in
      let h = horizon (formula rule) in
      let rows = rows_from sm rule rm t (h + 1) in
      let size = length_rows sm rule rm t (h + 1) in
      let held = subst (λ k. Holds sm.mark sm.whole rule k (ys ++ []) rows) (sym en) (took.holds ok.enough ok.fine []) in
      let first : length rows - 1 - h ≡ 0 = omega arith in
      let value : Some (sm.whole m) ≡ Some (margin sm.mark (zone rule) (formula rule) (steps_at sm rm) t)
      = latest sm.mark sm.whole [] rows held
      ∙ cond-false (ltb (length ys) (cells_of rule)) _ _ (le-ltb (length ys) (cells_of rule) (omega (arith, took.same_length, ok.enough)))
      ∙ cond-false (leb (length rows) h) _ _ (lt-leb (length rows) h (omega arith))
      ∙ ap (λ p. Some (margin sm.mark (zone rule) (formula rule) (signal rows) p)) first ∙ ap Some record_margin in
      let same : sm.whole m ≡ margin sm.mark (zone rule) (formula rule) (steps_at sm rm) t = cc in
      record {
        answer = ap Ok same ∙ sym (ap (λ o. or_fault o (margin sm.mark (zone rule) (formula rule) (steps_at sm rm) t)) (none_told (survey_fault sm rule rm (length xs) t) fine));
        refused = λ e. absurd (false≢true e);
        same_length = took.same_length;
        behind = took.behind;
      }
