-- One cell out and another in, by a shift of what lies between. Assumes nothing.
use Rattle.std.proofs.Common.{◌≡◌, ℕ, ◌+◌, ◌-◌, ◌<◌, ◌≤◌, true, List, ◌++◌, map, length, get_or, slice_get, take, drop, ℤ, pos, Some, sym, refl, ap, ◌∙◌, ⊎_elim, arith}
use lib.Signed.{lt_z}
use Rattle.std.specs.List.{insert, remove}
use Rattle.std.proofs.lemmas.List.{take_at, drop_at, length-take-le}
use Rattle.std.proofs.lemmas.List.Edits.{length-insert, length-remove}
use Rattle.std.proofs.lemmas.Bool.{cases_Bool, cases_lt, both_ways}
use Rattle.std.proofs.lemmas.Option.{slice_get_within, get_or_from_slice_get}
use Rattle.runs.specs.Highest.{hit, above}
use Rattle.runs.specs.Order.{Descending, Taken, Exchanged, put_in}
use Rattle.runs.proofs.Tallies.{front_yes, front_no, up_above}
use Rattle.runs.specs.Cells.{wholes, FoundAt, Replaced}
use Rattle.runs.proofs.Ordered.{added, taken_yes}
use Rattle.runs.proofs.Margins.{map_inserted, map_removed, found_within}
use Rattle.runs.proofs.Kept.{length_front}

module _ (old new : ℤ) (xs : List ℤ) (d : Descending xs) (s : slice_get xs (above old xs) ≡ Some old) where
  abbrev pub mid : List ℤ
  mid = remove xs (above old xs)

  out : Taken old true xs mid
  out = taken_yes old xs mid d s refl

  counted : above new xs ≡ hit (lt_z new old) + above new mid
  counted = out.counts (lt_z new)

  pub exchanged : (after : List ℤ) (at : ℕ) → at ≡ above new mid → after ≡ insert mid at new → Exchanged old new xs after
  exchanged after at e f =
      let put = added new mid after out.ordered (f ∙ ap (λ n. insert mid n new) e) in
      record {
        is = put.is ∙ ap (put_in new) out.is;
        ordered = put.ordered;
        counts = λ p. omega (arith, put.counts p, out.counts p);
      }

  l : above old xs < length xs
  l = slice_get_within xs (above old xs) old s

  here : get_or xs (above old xs) (pos 0) ≡ old
  here = get_or_from_slice_get xs (above old xs) old (pos 0) s

  -- the new one is not below the old one exactly if its place is not behind it
  pub place_up : above new xs ≤ above old xs → above new xs ≡ above new mid
  place_up h =
      ⊎_elim
      (λ e. absurd (omega (arith, front_yes (lt_z new) (up_above new) xs (above old xs) d l (ap (lt_z new) here ∙ e))))
      (λ e. omega (arith, counted, ap hit e))
      (cases_Bool (lt_z new old))

  pub place_down : above old xs < above new xs → above new xs - 1 ≡ above new mid
  place_down h =
      ⊎_elim
      (λ e. omega (arith, counted, ap hit e))
      (λ e. absurd (omega (arith, front_no (lt_z new) (up_above new) xs (above old xs) d l (ap (lt_z new) here ∙ e))))
      (cases_Bool (lt_z new old))

module _ {M : Type 0} (whole : M → ℤ) (xs : List M) (used : ℕ) (old new : M) where
  -- within the front, whatever the place
  replace_to : (front : List M) (gone to : ℕ) → used ≤ length xs → FoundAt whole (take used xs) old gone → to < used
      → (Descending (wholes whole used xs) → to ≡ above (whole new) (remove (wholes whole used xs) gone))
      → front ≡ insert (remove (take used xs) gone) to new → Replaced whole used xs (front ++ drop used xs) old new true
  replace_to front gone to h found lt goes e =
      let f = take used xs in
      let ws = wholes whole used xs in
      let few = length-take-le used xs h in
      let less = length-remove f gone (found_within whole f old gone found) in
      let long : length front ≡ used = ap length e ∙ omega (arith, length-insert (remove f gone) to new (omega arith)) in
      let run : wholes whole used (front ++ drop used xs) ≡ insert (remove ws gone) to (whole new) =
      ap (map whole) (take_at front (drop used xs) used long ∙ e) ∙ map_inserted whole (remove f gone) to new ∙ ap (λ y. insert y to (whole new)) (map_removed whole f gone) in
      record {
        long = length_front front xs used long h;
        refused = λ q. absurd (both_ways true q refl);
        behind = drop_at front (drop used xs) used long;
        told = λ o.
            let a = found.place o.falls in
            (taken_yes (whole old) ws (remove ws (above (whole old) ws)) o.falls (ap (slice_get ws) (sym a) ∙ found.same) refl).told;
        keeps = λ _ o.
            let a = found.place o.falls in
            exchanged (whole old) (whole new) ws o.falls (ap (slice_get ws) (sym a) ∙ found.same) (wholes whole used (front ++ drop used xs)) to
            (goes o.falls ∙ ap (λ i. above (whole new) (remove ws i)) a)
            (run ∙ ap (λ i. insert (remove ws i) to (whole new)) a);
      }

  pub replace_done : (front : List M) (gone at : ℕ) → used ≤ length xs → FoundAt whole (take used xs) old gone → at ≤ used
      → (Descending (wholes whole used xs) → at ≡ above (whole new) (wholes whole used xs))
      → (at ≤ gone → front ≡ insert (remove (take used xs) gone) at new) → (gone < at → front ≡ insert (remove (take used xs) gone) (at - 1) new)
      → Replaced whole used xs (front ++ drop used xs) old new true
  replace_done front gone at h found k placed up down =
      let ws = wholes whole used xs in
      let inside = found_within whole (take used xs) old gone found in
      let few = length-take-le used xs h in
      let stands = λ (d : Descending ws). ap (slice_get ws) (sym (found.place d)) ∙ found.same in
      let same = λ (d : Descending ws). ap (λ i. above (whole new) (remove ws i)) (sym (found.place d)) in
      ⊎_elim
      (λ q. replace_to front gone (at - 1) h found (omega arith)
      (λ d. omega (arith, placed d, found.place d, place_down (whole old) (whole new) ws d (stands d) (omega (arith, placed d, found.place d)), same d)) (down q))
      (λ q. replace_to front gone at h found (omega arith)
      (λ d. omega (arith, placed d, found.place d, place_up (whole old) (whole new) ws d (stands d) (omega (arith, placed d, found.place d)), same d)) (up q))
      (cases_lt gone at)
