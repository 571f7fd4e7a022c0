-- A play, poll by poll. Assumes nothing.
use Rattle.std.proofs.Common.{◌≡◌, ℕ, zero, suc, ◌+◌, ◌-◌, ◌<◌, ◌≤◌, Bool, true, false, cond, ltb, leb, List, [], ◌∷◌, ◌++◌, length, drop, Some, None, Ok, Err, Option, sym, refl, ap, ◌∙◌, subst, append_assoc, append-nil, arith}
use Rattle.std.specs.Option.{option_map, option_or}
use Rattle.std.proofs.lemmas.Bool.{leb-false}
use Rattle.records.specs.Model.{RecordModel}
use Rattle.rules.specs.declared.rule.Rule.{Rule}
use Rattle.scales.specs.Model.{ScaleModel}
use Rattle.layout.specs.Rows.{Row, cells_of}
use Rattle.watches.specs.Calls.{most_rows, refusal, unless, play_fault, play_rows, polls_to}
use Rattle.watches.specs.Faults.{at_poll}
use Rattle.watches.specs.Readings.{row_fault, row}
use Rattle.watches.specs.Surveys.{rows_from}
use Rattle.watches.specs.Watching.{Holds, Stepped, Played}
use Rattle.watches.specs.declared.refusals.WatchFault.{WatchFault}
use Rattle.watches.specs.declared.refusals.WatchFault.TheVariants.{TooFewCells, Full}
use Rattle.watches.specs.declared.watch.Watch.{Watch}
use Rattle.watches.proofs.ExcerptLaws.{same_row, same_refusal}
use Rattle.watches.proofs.RowFaults.{none_told, some_told}
use Rattle.watches.proofs.RowLists.{no_rows, more_rows}

pub along : {A B : Type 0} {a a' : A} {b b' : B} (P : A → B → Type 0) → a ≡ a' → b ≡ b' → P a b → P a' b'
along {a' = a'} {b = b} P p q x = subst (λ y. P a' y) q (subst (λ y. P y b) p x)

-- ---- the first refusal, and the polls before it
module _ {Reading Margin : Type 0} (sm : ScaleModel Reading Margin) (rule : Rule) (rm : RecordModel Reading) (lent k t : ℕ) where
  pub no_polls : play_fault sm rule rm lent k t 0 ≡ None
  unfolding play_fault
  no_polls = refl

  next : (n : ℕ) → play_fault sm rule rm lent k t (n + 1) ≡ option_or (play_fault sm rule rm lent k t n) (refusal sm rule rm (t + n) lent (k + n))
  unfolding play_fault
  next n = let e : n + 1 ≡ suc n = omega arith in ap (play_fault sm rule rm lent k t) e

  pub here : (n : ℕ) → play_fault sm rule rm lent k t n ≡ None → play_fault sm rule rm lent k t (n + 1) ≡ refusal sm rule rm (t + n) lent (k + n)
  here n none = next n ∙ ap (λ o. option_or o (refusal sm rule rm (t + n) lent (k + n))) none

  pub stays : (e : WatchFault) (n j : ℕ) → play_fault sm rule rm lent k t n ≡ Some e → play_fault sm rule rm lent k t (j + n) ≡ Some e
  stays e n zero h = let z : 0 + n ≡ n = omega arith in ap (play_fault sm rule rm lent k t) z ∙ h
  stays e n (suc j) h =
      let z : suc j + n ≡ (j + n) + 1 = omega arith in
      ap (play_fault sm rule rm lent k t) z ∙ next (j + n) ∙ ap (λ o. option_or o (refusal sm rule rm (t + (j + n)) lent (k + (j + n)))) (stays e n j h)

  pub all_taken : (n : ℕ) → play_fault sm rule rm lent k t n ≡ None → play_rows sm rule rm lent k t n ≡ n
  unfolding play_rows
  all_taken zero none = refl
  all_taken (suc n) none = ap (λ o. unless o (suc n) (play_rows sm rule rm lent k t n)) none

  pub taken_before : (e : WatchFault) (n j : ℕ) → play_fault sm rule rm lent k t n ≡ None → play_fault sm rule rm lent k t (n + 1) ≡ Some e → play_rows sm rule rm lent k t (suc j + n) ≡ n
  unfolding play_rows
  taken_before e n zero none some =
      let z : suc 0 + n ≡ suc n = omega arith in
      let y : suc n ≡ n + 1 = omega arith in
      ap (play_rows sm rule rm lent k t) z ∙ ap (λ o. unless o (suc n) (play_rows sm rule rm lent k t n)) (ap (play_fault sm rule rm lent k t) y ∙ some) ∙ all_taken n none
  taken_before e n (suc j) none some =
      let z : suc (suc j) + n ≡ suc (suc j + n) = omega arith in
      let y : suc (suc j + n) ≡ suc j + (n + 1) = omega arith in
      ap (play_rows sm rule rm lent k t) z
      ∙ ap (λ o. unless o (suc (suc j + n)) (play_rows sm rule rm lent k t (suc j + n))) (ap (play_fault sm rule rm lent k t) y ∙ stays e (n + 1) (suc j) some)
      ∙ taken_before e n j none some

  -- a watch takes no more rows than it can
  pub few_taken : (n : ℕ) → play_fault sm rule rm lent k t n ≡ None → n ≤ most_rows
  few_taken zero none = omega arith
  few_taken (suc n) none =
      let e : suc n ≡ n + 1 = omega arith in
      let room = room_left (ltb lent (cells_of rule)) (leb most_rows (k + n)) (row_fault sm rule rm (t + n)) (later (play_fault sm rule rm lent k t n) (refusal sm rule rm (t + n) lent (k + n)) (sym (next n) ∙ ap (play_fault sm rule rm lent k t) (sym e) ∙ none)) in
      omega (arith, leb-false most_rows (k + n) room)
    where
      later : (a b : Option WatchFault) → option_or a b ≡ None → b ≡ None
      later None b q = q
      later (Some f) b q = absurd (cc)

      room_left : (a b : Bool) (o : Option WatchFault) → cond a (Some (TooFewCells (cells_of rule) lent)) (cond b (Some Full) o) ≡ None → b ≡ false
      room_left true b o q = absurd (cc)
      room_left false true o q = absurd (cc)
      room_left false false o q = refl

-- ---- n polls of a play, none refused
pub record Playing {S Reading Margin : Type 0} (model : S → ScaleModel Reading Margin) (rm : RecordModel Reading) (first : ℕ) (w₀ : Watch S) (cells₀ : List Margin) (n : ℕ) (w : Watch S) (cells : List Margin) : Type 0 where
  pub same_rule : w.rule ≡ w₀.rule
  pub same_scale : w.scale ≡ w₀.scale
  pub same_length : length cells ≡ length cells₀
  pub behind : drop (cells_of w₀.rule) cells ≡ drop (cells_of w₀.rule) cells₀
  pub counted : w.rows.count ≡ w₀.rows.count + n
  pub untouched : n ≡ 0 → (w ≡ w₀) × (cells ≡ cells₀)
  pub unstopped : play_fault (model w₀.scale) w₀.rule rm (length cells₀) w₀.rows.count first n ≡ None
  pub kept : (rest : List Margin) (rows : List Row) → Holds (model w₀.scale) w₀.rule w₀.rows.count (cells₀ ++ rest) rows
      → Holds (model w₀.scale) w₀.rule w.rows.count (cells ++ rest) (rows ++ rows_from (model w₀.scale) w₀.rule rm first n)

module _ {S Reading Margin : Type 0} (model : S → ScaleModel Reading Margin) (rm : RecordModel Reading) (first : ℕ) (w₀ : Watch S) (cells₀ : List Margin) where
  pub play_none : Playing model rm first w₀ cells₀ 0 w₀ cells₀
  play_none = record {
    same_rule = refl;
    same_scale = refl;
    same_length = refl;
    behind = refl;
    counted = omega arith;
    untouched = λ e. (refl, refl);
    unstopped = no_polls (model w₀.scale) w₀.rule rm (length cells₀) w₀.rows.count first;
    kept = λ rest rows h. subst (Holds (model w₀.scale) w₀.rule w₀.rows.count (cells₀ ++ rest)) (sym (ap (λ ys. rows ++ ys) (no_rows (model w₀.scale) w₀.rule rm first) ∙ append-nil rows)) h;
  }

  module _ (ex : RecordModel Reading) (n : ℕ) (w : Watch S) (cells : List Margin) (w' : Watch S) (cells' : List Margin) (same : (h : ℕ) → ex.at h n ≡ rm.at h (first + n)) (p : Playing model rm first w₀ cells₀ n w cells) where
    -- the refusal of the step, by the start of the play and the record's own poll
    ground : refusal (model w₀.scale) w₀.rule rm (first + n) (length cells₀) (w₀.rows.count + n) ≡ option_map (at_poll (first + n)) (refusal (model w.scale) w.rule ex n (length cells) w.rows.count)
    ground =
        same_refusal (model w₀.scale) w₀.rule ex rm n (first + n) same (length cells₀) (w₀.rows.count + n)
        ∙ ap (option_map (at_poll (first + n)))
        (along (λ ru sc. refusal (model w₀.scale) w₀.rule ex n (length cells₀) (w₀.rows.count + n) ≡ refusal (model sc) ru ex n (length cells₀) (w₀.rows.count + n)) (sym p.same_rule) (sym p.same_scale) refl
        ∙ along (λ l k. refusal (model w.scale) w.rule ex n (length cells₀) (w₀.rows.count + n) ≡ refusal (model w.scale) w.rule ex n l k) (sym p.same_length) (sym p.counted) refl)

    module _ (st : Stepped model ex n w cells w' cells' (Ok tt)) where
      free : refusal (model w.scale) w.rule ex n (length cells) w.rows.count ≡ None
      free = none_told (refusal (model w.scale) w.rule ex n (length cells) w.rows.count) st.answer

      -- the rows after the step
      added : (rest : List Margin) (rows : List Row) → Holds (model w₀.scale) w₀.rule w.rows.count (cells ++ rest) rows
          → Holds (model w₀.scale) w₀.rule w'.rows.count (cells' ++ rest) (rows ++ (row (model w₀.scale) w₀.rule rm (first + n) ∷ []))
      added rest rows =
          subst (λ y. Holds (model w₀.scale) w₀.rule w.rows.count (cells ++ rest) rows → Holds (model w₀.scale) w₀.rule w'.rows.count (cells' ++ rest) (rows ++ (y ∷ []))) (same_row (model w₀.scale) w₀.rule ex rm n (first + n) same)
          (along (λ ru sc. Holds (model sc) ru w.rows.count (cells ++ rest) rows → Holds (model sc) ru w'.rows.count (cells' ++ rest) (rows ++ (row (model sc) ru ex n ∷ []))) p.same_rule p.same_scale
          (λ h. subst (λ o. Holds (model w.scale) w.rule w'.rows.count (cells' ++ rest) (unless o (rows ++ (row (model w.scale) w.rule ex n ∷ [])) rows))
          (ap (λ k. refusal (model w.scale) w.rule ex n (length cells) k) (sym h.count) ∙ free) (st.advances.kept rest rows h)))

      pub play_more : Playing model rm first w₀ cells₀ (n + 1) w' cells'
      play_more = record {
        same_rule = st.advances.same_rule ∙ p.same_rule;
        same_scale = st.advances.same_scale ∙ p.same_scale;
        same_length = st.advances.same_length ∙ p.same_length;
        behind = subst (λ x. drop (cells_of x) cells' ≡ drop (cells_of x) cells) p.same_rule st.advances.behind ∙ p.behind;
        counted = omega (arith, st.counted, p.counted);
        untouched = λ e. absurd (omega arith);
        unstopped = here (model w₀.scale) w₀.rule rm (length cells₀) w₀.rows.count first n p.unstopped ∙ ground ∙ ap (option_map (at_poll (first + n))) free;
        kept = λ rest rows h.
            subst (Holds (model w₀.scale) w₀.rule w'.rows.count (cells' ++ rest))
            (append_assoc rows (rows_from (model w₀.scale) w₀.rule rm first n) (row (model w₀.scale) w₀.rule rm (first + n) ∷ []) ∙ ap (λ ys. rows ++ ys) (sym (more_rows (model w₀.scale) w₀.rule rm first n)))
            (added rest (rows ++ rows_from (model w₀.scale) w₀.rule rm first n) (p.kept rest rows h));
      }

    pub play_stop : (last k : ℕ) (e e' : WatchFault) → k ≡ n → e' ≡ at_poll (first + n) e → n < polls_to first last → Stepped model ex n w cells w' cells' (Err e) → Played model rm first last w₀ cells₀ w' cells' (record { rows = k; fault = Some e' })
    play_stop last k e e' is_rows is_fault below st =
        let sm = model w₀.scale in
        let ru = w₀.rule in
        let l = length cells₀ in
        let at = some_told (refusal (model w.scale) w.rule ex n (length cells) w.rows.count) e st.answer in
        let some : play_fault sm ru rm l w₀.rows.count first (n + 1) ≡ Some (at_poll (first + n) e) = here sm ru rm l w₀.rows.count first n p.unstopped ∙ ground ∙ ap (option_map (at_poll (first + n))) at in
        let left : suc (polls_to first last - (n + 1)) + n ≡ polls_to first last = omega arith in
        let all : (polls_to first last - (n + 1)) + (n + 1) ≡ polls_to first last = omega arith in
        let taken : play_rows sm ru rm l w₀.rows.count first (polls_to first last) ≡ n = ap (play_rows sm ru rm l w₀.rows.count first) (sym left) ∙ taken_before sm ru rm l w₀.rows.count first _ n (polls_to first last - (n + 1)) p.unstopped some in
        let still = st.refused refl in
        let held : (rest : List Margin) (rows : List Row) → Holds sm ru w.rows.count (cells ++ rest) rows → Holds sm ru w'.rows.count (cells' ++ rest) rows
        = λ rest rows h. subst (λ (v : Watch S). Holds sm ru v.rows.count (cells' ++ rest) rows) (sym still.0) (subst (λ cs. Holds sm ru w.rows.count (cs ++ rest) rows) (sym still.1) h) in
        record {
          took = is_rows ∙ sym taken;
          stopped = ap Some is_fault ∙ sym (ap (play_fault sm ru rm l w₀.rows.count first) (sym all) ∙ stays sm ru rm l w₀.rows.count first _ (n + 1) (polls_to first last - (n + 1)) some);
          untouched = λ z. let q = p.untouched (sym is_rows ∙ z) in (still.0 ∙ q.0, still.1 ∙ q.1);
          counted = ap (λ (v : Watch S). v.rows.count) still.0 ∙ p.counted ∙ ap (λ m. w₀.rows.count + m) (sym is_rows);
          advances = record {
            same_rule = st.advances.same_rule ∙ p.same_rule;
            same_scale = st.advances.same_scale ∙ p.same_scale;
            same_length = st.advances.same_length ∙ p.same_length;
            behind = subst (λ x. drop (cells_of x) cells' ≡ drop (cells_of x) cells) p.same_rule st.advances.behind ∙ p.behind;
            kept = λ rest rows h.
                subst (λ m. Holds sm ru w'.rows.count (cells' ++ rest) (rows ++ rows_from sm ru rm first m)) (sym (ap (λ j. play_rows sm ru rm l j first (polls_to first last)) (sym h.count) ∙ taken))
                (held rest (rows ++ rows_from sm ru rm first n) (p.kept rest rows h));
          };
        }

  pub play_all : (last n k : ℕ) (w : Watch S) (cells : List Margin) → n ≡ polls_to first last → k ≡ n → Playing model rm first w₀ cells₀ n w cells → Played model rm first last w₀ cells₀ w cells (record { rows = k; fault = None })
  play_all last n k w cells is is_rows p =
      let sm = model w₀.scale in
      let ru = w₀.rule in
      let l = length cells₀ in
      let none : play_fault sm ru rm l w₀.rows.count first (polls_to first last) ≡ None = ap (play_fault sm ru rm l w₀.rows.count first) (sym is) ∙ p.unstopped in
      let taken : play_rows sm ru rm l w₀.rows.count first (polls_to first last) ≡ n = all_taken sm ru rm l w₀.rows.count first (polls_to first last) none ∙ sym is in
      record {
        took = is_rows ∙ sym taken;
        stopped = sym none;
        untouched = λ z. p.untouched (sym is_rows ∙ z);
        counted = p.counted ∙ ap (λ m. w₀.rows.count + m) (sym is_rows);
        advances = record {
          same_rule = p.same_rule;
          same_scale = p.same_scale;
          same_length = p.same_length;
          behind = p.behind;
          kept = λ rest rows h.
              subst (λ m. Holds sm ru w.rows.count (cells ++ rest) (rows ++ rows_from sm ru rm first m)) (sym (ap (λ j. play_rows sm ru rm l j first (polls_to first last)) (sym h.count) ∙ taken)) (p.kept rest rows h);
        };
      }
