-- A play of a whole record through a watch over cells, with its list of margins. Assumes nothing.
use Rattle.std.proofs.Common.{◌≡◌, ℕ, suc, ◌+◌, ◌-◌, ◌<◌, ◌≤◌, Bool, true, false, cond, ltb, List, [], ◌++◌, length, drop, set, ℤ, Some, None, Ok, Err, Option, sym, refl, ap, ◌∙◌, subst, arith}
use Rattle.std.specs.Option.{option_map}
use Rattle.std.proofs.lemmas.Bool.{ltb-false}
use Rattle.layout.specs.Rows.{Row, cells_of, latest_margin}
use Rattle.records.specs.Model.{RecordModel}
use Rattle.rules.specs.declared.rule.Rule.{Rule}
use Rattle.scales.specs.Model.{ScaleModel}
use Rattle.watches.specs.Calls.{refusal, play_fault, play_rows}
use Rattle.watches.specs.Faults.{watch_ground}
use Rattle.watches.specs.Surveys.{rows_from}
use Rattle.watches.specs.Watching.{Holds, Made, Stepped}
use Rattle.watches.specs.declared.refusals.WatchFault.{WatchFault}
use Rattle.watches.specs.declared.watch.Watch.{Watch}
use Rattle.watches.proofs.PlayLaws.{Playing, play_none, play_more, here, stays, all_taken, taken_before, along}
use Rattle.watches.proofs.RowFaults.{none_told, some_told}
use Rattle.firmware.specs.Cells.{cell_whole, in_cells}
use Rattle.firmware.specs.Plays.{Listed, Played}
use Rattle.firmware.specs.Refusals.{unrefused, refused, watch_refusal}
use Rattle.firmware.specs.declared.cell_scale.CellScale.{CellScale}
use Rattle.firmware.specs.declared.plays.Play.{Play}
use Rattle.firmware.specs.declared.refusals.Refusal.{Refusal}
use Rattle.firmware.proofs.InCells.{fault_same, rows_same}
use Rattle.firmware.proofs.Latest.{some_latest, none_latest}
use Rattle.firmware.proofs.Lists.{Listing, none_listed, no_more, one_more}

room : (a : Bool) (f : WatchFault) (o : Option WatchFault) → cond a (Some f) o ≡ None → a ≡ false
room true f o e = absurd (cc)
room false f o e = refl

module _ {S Reading Margin Told : Type 0} (most : ℕ) (low : S → ScaleModel Reading Margin) (whole : Told → Option ℤ) (rm : RecordModel Reading) (w₀ : Watch (CellScale S)) (cells₀ : List ℤ) (list : List Told) where
  abbrev model : CellScale S → ScaleModel Reading ℤ
  model s = in_cells most (low s.lower)

  abbrev sm : ScaleModel Reading Margin
  sm = low w₀.scale.lower

  -- n polls of the play, none refused, with their margins
  pub record Going (n : ℕ) (w : Watch (CellScale S)) (cells : List ℤ) (list' : List Told) (k : ℕ) : Type 0 where
    pub playing : Playing (λ s. in_cells most (low s.lower)) rm 0 w₀ cells₀ n w cells
    pub listing : Listing (low w₀.scale.lower) whole w₀.rule rm list n list' k

  pub starts : Going 0 w₀ cells₀ list 0
  starts = record { playing = play_none model rm 0 w₀ cells₀; listing = none_listed sm whole w₀.rule rm list }

  module _ (rule : Rule) (s : CellScale S) (made : Made (λ s. in_cells most (low s.lower)) rule s w₀) (n : ℕ) (w : Watch (CellScale S)) (cells : List ℤ) (list' : List Told) (k : ℕ) (go : Going n w cells list' k) where
    p : Playing model rm 0 w₀ cells₀ n w cells
    p = go.playing

    no_rows : w₀.rows.count ≡ 0
    no_rows = made.no_rows

    held : (xs : List ℤ) → Holds (in_cells most sm) w₀.rule w₀.rows.count xs []
    held xs = along (λ ru sc. Holds (model sc) ru w₀.rows.count xs []) (sym made.made_rule) (sym made.made_scale) (made.holds xs)

    same_at : (h : ℕ) → rm.at h n ≡ rm.at h (0 + n)
    same_at h = let e : n ≡ 0 + n = omega arith in ap (rm.at h) e

    module _ (w' : Watch (CellScale S)) (cells' : List ℤ) (st : Stepped (λ s. in_cells most (low s.lower)) rm n w cells w' cells' (Ok tt)) where
      next : Playing model rm 0 w₀ cells₀ (n + 1) w' cells'
      next = play_more model rm 0 w₀ cells₀ rm n w cells w' cells' same_at p st

      -- the cells stand for the first polls of the record
      rows_held : Holds (in_cells most sm) w₀.rule w'.rows.count (cells' ++ []) (rows_from (in_cells most sm) w₀.rule rm 0 (n + 1))
      rows_held = next.kept [] [] (held (cells₀ ++ []))

      enough : cells_of w₀.rule ≤ length cells'
      enough =
          let free = none_told (refusal (model w.scale) w.rule rm n (length cells) w.rows.count) st.answer in
          let has = ltb-false (length cells) (cells_of w.rule) (room (ltb (length cells) (cells_of w.rule)) _ _ free) in
          omega (arith, has, ap cells_of p.same_rule, st.advances.same_length)

      latest_of : (o : Option ℤ)
          → ((rest : List ℤ) (rows : List Row) → Holds (model w'.scale) w'.rule w'.rows.count (cells' ++ rest) rows → option_map (model w'.scale).whole o ≡ latest_margin (model w'.scale).mark w'.rule (length cells') rows)
          → option_map (cell_whole most) o ≡ latest_margin sm.mark w₀.rule (length cells') (rows_from (in_cells most sm) w₀.rule rm 0 (n + 1))
      latest_of o told =
          along (λ ru sc. Holds (model sc) ru w'.rows.count (cells' ++ []) (rows_from (in_cells most sm) w₀.rule rm 0 (n + 1)) → option_map (cell_whole most) o ≡ latest_margin (model sc).mark ru (length cells') (rows_from (in_cells most sm) w₀.rule rm 0 (n + 1)))
          next.same_rule next.same_scale (told [] (rows_from (in_cells most sm) w₀.rule rm 0 (n + 1))) rows_held

      module _ (o : Option ℤ) (told : (rest : List ℤ) (rows : List Row) → Holds (in_cells most (low w'.scale.lower)) w'.rule w'.rows.count (cells' ++ rest) rows → option_map (cell_whole most) o ≡ latest_margin (low w'.scale.lower).mark w'.rule (length cells') rows) where
        pub written : (cell : ℤ) (x : Told) (l : List Told) (j : ℕ) → o ≡ Some cell → whole x ≡ Some (cell_whole most cell) → l ≡ set list' k x → j ≡ k + 1 → k < length list' → Going (n + 1) w' cells' l j
        written cell x l j some tells el ej below =
            let v = some_latest (in_cells most sm) w₀.rule rm (n + 1) (length cells') (cell_whole most cell) (ap (option_map (cell_whole most)) (sym some) ∙ latest_of o told) in
            subst (λ ys. Going (n + 1) w' cells' ys j) (sym el) (record { playing = next; listing = one_more sm whole w₀.rule rm list n k j list' x ej below v.0 (tells ∙ ap Some v.1) go.listing })

        pub full : (l : List Told) (j : ℕ) → l ≡ list' → j ≡ k → length list' ≤ k → Going (n + 1) w' cells' l j
        full l j el ej above =
            along (λ ys i. Going (n + 1) w' cells' ys i) (sym el) (sym ej) (record { playing = next; listing = no_more sm whole w₀.rule rm list n k list' (omega (arith, go.listing.listed.count, go.listing.long)) go.listing })

        pub waiting : (l : List Told) (j : ℕ) → l ≡ list' → j ≡ k → o ≡ None → Going (n + 1) w' cells' l j
        waiting l j el ej none =
            let early = none_latest (in_cells most sm) w₀.rule rm (n + 1) (length cells') enough (ap (option_map (cell_whole most)) (sym none) ∙ latest_of o told) in
            along (λ ys i. Going (n + 1) w' cells' ys i) (sym el) (sym ej) (record { playing = next; listing = no_more sm whole w₀.rule rm list n k list' (omega (arith, early)) go.listing })

    of_rule : (cells' : List ℤ) (l : List Told) (r : Play) → Played sm whole w₀.rule rm cells₀ cells' list l r → Played (low s.lower) whole rule rm cells₀ cells' list l r
    of_rule cells' l r = along (λ ru sc. Played (low sc.lower) whole ru rm cells₀ cells' list l r) made.made_rule made.made_scale

    module _ (refusal' : Refusal) where
      pub finished : (m : ℕ) → m ≡ n → rm.polls ≡ n → refusal' ≡ unrefused → Played (low s.lower) whole rule rm cells₀ cells list list' (record { refusal = refusal'; rows = m; margins = k })
      finished m em all why =
          let none : play_fault (in_cells most sm) w₀.rule rm (length cells₀) 0 0 rm.polls ≡ None = ap (play_fault (in_cells most sm) w₀.rule rm (length cells₀) 0 0) all ∙ ap (λ z. play_fault (in_cells most sm) w₀.rule rm (length cells₀) z 0 n) (sym no_rows) ∙ p.unstopped in
          of_rule cells list' _ record {
            rows = em ∙ sym all ∙ sym (all_taken (in_cells most sm) w₀.rule rm (length cells₀) 0 0 rm.polls none) ∙ rows_same most sm rm w₀.rule (length cells₀) 0 0 rm.polls;
            refusal = why ∙ ap watch_refusal (sym none ∙ fault_same most sm rm w₀.rule (length cells₀) 0 0 rm.polls);
            listed = subst (λ q. Listed sm whole w₀.rule rm q list list' k) (sym em) go.listing.listed;
            same_length = p.same_length;
            behind = p.behind;
            untouched = λ z. (p.untouched (sym em ∙ z)).1;
          }

      pub stopped : (w' : Watch (CellScale S)) (cells' : List ℤ) (e : WatchFault) → n < rm.polls → refusal' ≡ refused (watch_ground e) → Stepped (λ s. in_cells most (low s.lower)) rm n w cells w' cells' (Err e)
          → Played (low s.lower) whole rule rm cells₀ cells' list list' (record { refusal = refusal'; rows = n; margins = k })
      stopped w' cells' e below why st =
          let fault = play_fault (in_cells most sm) w₀.rule rm (length cells₀) 0 0 in
          let from : 0 + n ≡ n = omega arith in
          let at : refusal (model w.scale) w.rule rm n (length cells) w.rows.count ≡ Some e = some_told (refusal (model w.scale) w.rule rm n (length cells) w.rows.count) e st.answer in
          let count : w.rows.count ≡ 0 + n = p.counted ∙ ap (λ z. z + n) no_rows in
          let here_too : refusal (in_cells most sm) w₀.rule rm (0 + n) (length cells₀) (0 + n) ≡ Some e
          = ap (λ q. refusal (in_cells most sm) w₀.rule rm q (length cells₀) (0 + n)) from
          ∙ along (λ l j. refusal (in_cells most sm) w₀.rule rm n (length cells₀) (0 + n) ≡ refusal (in_cells most sm) w₀.rule rm n l j) (sym p.same_length) (sym count) refl
          ∙ along (λ ru sc. refusal (in_cells most sm) w₀.rule rm n (length cells) w.rows.count ≡ refusal (model sc) ru rm n (length cells) w.rows.count) (sym p.same_rule) (sym p.same_scale) refl ∙ at in
          let before : fault n ≡ None = ap (λ z. play_fault (in_cells most sm) w₀.rule rm (length cells₀) z 0 n) (sym no_rows) ∙ p.unstopped in
          let some : fault (n + 1) ≡ Some e = here (in_cells most sm) w₀.rule rm (length cells₀) 0 0 n before ∙ here_too in
          let rest = rm.polls - (n + 1) in
          let all : rest + (n + 1) ≡ rm.polls = omega arith in
          let all' : suc rest + n ≡ rm.polls = omega arith in
          let still = st.refused refl in
          of_rule cells' list' _ record {
            rows = sym (taken_before (in_cells most sm) w₀.rule rm (length cells₀) 0 0 e n rest before some) ∙ ap (play_rows (in_cells most sm) w₀.rule rm (length cells₀) 0 0) all' ∙ rows_same most sm rm w₀.rule (length cells₀) 0 0 rm.polls;
            refusal = why ∙ ap watch_refusal (sym (stays (in_cells most sm) w₀.rule rm (length cells₀) 0 0 e (n + 1) rest some) ∙ ap fault all ∙ fault_same most sm rm w₀.rule (length cells₀) 0 0 rm.polls);
            listed = go.listing.listed;
            same_length = ap length still.1 ∙ p.same_length;
            behind = ap (drop (cells_of w₀.rule)) still.1 ∙ p.behind;
            untouched = λ z. still.1 ∙ (p.untouched z).1;
          }
