-- Stretches of margins by their whole numbers. Assumes nothing.
use Rattle.std.proofs.Common.{◌≡◌, ℕ, suc, ◌<◌, ◌≤◌, true, false, List, ◌∷◌, ◌++◌, map, length, get_or, take, drop, ℤ, pos, ◌≤ℤ◌, ◌<ℤ◌, sym, ap, ◌∙◌, arith}
use lib.Signed.{lt_z}
use Rattle.std.specs.List.{insert, remove}
use Rattle.std.proofs.lemmas.List.{length-map, get_or-map, map-append, take-map, drop-map}
use Rattle.std.proofs.lemmas.Int.{ints}
use Rattle.runs.specs.Highest.{above}
use Rattle.runs.specs.Order.{Descending}
use Rattle.std.proofs.lemmas.Option.{slice_get_within}
use Rattle.runs.specs.Cells.{FoundAt}
use Rattle.runs.proofs.Tallies.{front_yes, front_no, up_above, tally_le_length}

module _ {M : Type 0} (whole : M → ℤ) where
  -- what was read at a place, by its whole number
  pub whole_read : (ms : List M) (i : ℕ) (x : M) → i < length ms → x ≡ get_or ms i x → get_or (map whole ms) i (pos 0) ≡ whole x
  whole_read ms i x l read = get_or-map whole ms i x (pos 0) l ∙ ap whole (sym read)

  pub place_before : (ms : List M) (z : ℤ) (i : ℕ) (x : M) → i < length ms → x ≡ get_or ms i x → z <ℤ whole x → Descending (map whole ms) → i < above z (map whole ms)
  place_before ms z i x l read e d =
      front_yes (lt_z z) (up_above z) (map whole ms) i d (omega (arith, length-map ms whole)) (let t : lt_z z (whole x) ≡ true = grind (arith, ints) in ap (lt_z z) (whole_read ms i x l read) ∙ t)

  pub place_here : (ms : List M) (z : ℤ) (i : ℕ) (x : M) → i < length ms → x ≡ get_or ms i x → whole x ≤ℤ z → Descending (map whole ms) → above z (map whole ms) ≤ i
  place_here ms z i x l read e d =
      front_no (lt_z z) (up_above z) (map whole ms) i d (omega (arith, length-map ms whole)) (let f : lt_z z (whole x) ≡ false = grind (arith, ints) in ap (lt_z z) (whole_read ms i x l read) ∙ f)

  pub above_le : (ms : List M) (z : ℤ) → above z (map whole ms) ≤ length ms
  above_le ms z = omega (arith, tally_le_length (lt_z z) (map whole ms), length-map ms whole)

  pub map_inserted : (ms : List M) (i : ℕ) (x : M) → map whole (insert ms i x) ≡ insert (map whole ms) i (whole x)
  map_inserted ms i x =
      map-append whole (take i ms) (x ∷ drop i ms)
      ∙ ap (λ l. l ++ (whole x ∷ map whole (drop i ms))) (sym (take-map whole i ms))
      ∙ ap (λ l. take i (map whole ms) ++ (whole x ∷ l)) (sym (drop-map whole i ms))

  pub map_removed : (ms : List M) (i : ℕ) → map whole (remove ms i) ≡ remove (map whole ms) i
  map_removed ms i =
      map-append whole (take i ms) (drop (suc i) ms)
      ∙ ap (λ l. l ++ map whole (drop (suc i) ms)) (sym (take-map whole i ms))
      ∙ ap (λ l. take i (map whole ms) ++ l) (sym (drop-map whole (suc i) ms))

  pub found_within : (ms : List M) (m : M) (at : ℕ) → FoundAt whole ms m at → at < length ms
  found_within ms m at found = omega (arith, slice_get_within (map whole ms) at (whole m) found.same, length-map ms whole)
