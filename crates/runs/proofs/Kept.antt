-- What putting in and taking out leave, from the place and the shift. Assumes nothing.
use Rattle.std.proofs.Common.{◌≡◌, ℕ, ◌+◌, ◌-◌, ◌<◌, ◌≤◌, Bool, true, false, cond, not, ◌&&◌, List, ◌++◌, map, length, take, drop, ℤ, Some, None, MatchOption, option_map, slice_get, sym, refl, ap, ◌∙◌, append_assoc, take-append-drop, arith}
use Rattle.std.specs.List.{insert, remove}
use Rattle.std.proofs.lemmas.List.{length-append, length-drop, length-take-le, take_at, drop_at, drop-append-le}
use Rattle.std.proofs.lemmas.List.Edits.{length-insert, length-remove}
use Rattle.std.proofs.lemmas.Bool.{both_ways, lt-ltb, ltb-true}
use Rattle.std.specs.Bool.{then_some}
use Rattle.std.specs.Ordering.{is_eq, int_eq}
use Rattle.std.specs.declared.cmp.Ordering.TheVariants.{Less, Equal, Greater}
use lib.Signed.{lt_z}
use Rattle.std.proofs.lemmas.Option.{none-some, same_Some, slice_get-map}
use Rattle.std.proofs.lemmas.Bool.Decides.{Decides-int_eq}
use Rattle.runs.specs.Highest.{hit, above}
use Rattle.runs.specs.Order.{Descending}
use Rattle.runs.specs.Cells.{wholes, InOrder, PutIn, TakenOut, FoundAt, Absent, Replaced}
use Rattle.runs.proofs.Ordered.{added, taken_yes, taken_no, copies_none}
use Rattle.runs.proofs.Margins.{map_inserted, map_removed, found_within}

-- the first n cells give way to a front as long
pub length_front : {X : Type 0} (front xs : List X) (n : ℕ) → length front ≡ n → n ≤ length xs → length (front ++ drop n xs) ≡ length xs
length_front front xs n e h = omega (arith, length-append front (drop n xs), length-drop n xs)

-- the last of the first n cells, and those behind
left_over : {X : Type 0} (xs : List X) (n : ℕ) → n ≤ length xs → 0 < n → drop (length (take n xs) - 1) (take n xs) ++ drop n xs ≡ drop (n - 1) xs
left_over xs n h k =
    let few = length-take-le n xs h in
    let e : length (take n xs) - 1 ≡ n - 1 = omega arith in
    ap (λ i. drop i (take n xs) ++ drop n xs) e
    ∙ sym (drop-append-le (n - 1) (take n xs) (drop n xs) (omega arith))
    ∙ ap (drop (n - 1)) (take-append-drop n xs)

not_eq : (s t : Bool) → (not s && not t) ≡ is_eq (cond s Less (cond t Greater Equal))
not_eq true t = refl
not_eq false true = refl
not_eq false false = refl

-- what a look at the place behind those above tells
module _ {M : Type 0} (whole : M → ℤ) (ms : List M) (m : M) (at : ℕ) (placed : Descending (map whole ms) → at ≡ above (whole m) (map whole ms)) where
  absent : (slice_get (map whole ms) at ≡ Some (whole m) → ⊥) → Absent whole ms m
  absent h d = copies_none (whole m) (map whole ms) d (λ s. h (ap (slice_get (map whole ms)) (placed d) ∙ s))

  pub absent_past : slice_get ms at ≡ None → Absent whole ms m
  absent_past e = absent (λ s. none-some (whole m) (sym (slice_get-map whole ms at ∙ ap (option_map whole) e) ∙ s))

  pub looked_at : (x : M) (same : Bool) → slice_get ms at ≡ Some x → same ≡ (not (lt_z (whole x) (whole m)) && not (lt_z (whole m) (whole x)))
      → MatchOption (then_some same at) (Absent whole ms m) (FoundAt whole ms m)
  looked_at x same read told = by same (told ∙ not_eq (lt_z (whole x) (whole m)) (lt_z (whole m) (whole x)))
    where
      stands : slice_get (map whole ms) at ≡ Some (whole x)
      stands = slice_get-map whole ms at ∙ ap (option_map whole) read

      by : (b : Bool) → b ≡ int_eq (whole x) (whole m) → MatchOption (then_some b at) (Absent whole ms m) (FoundAt whole ms m)
      by true e = record { place = placed; same = stands ∙ ap Some ((Decides-int_eq (whole x) (whole m)).0 (sym e)) }
      by false e = absent (λ s. both_ways (int_eq (whole x) (whole m)) (sym e) ((Decides-int_eq (whole x) (whole m)).1 (same_Some (whole x) (whole m) (sym stands ∙ s))))

module _ {M : Type 0} (whole : M → ℤ) (xs : List M) (used : ℕ) (m : M) where
  pub put_done : (front : List M) (at : ℕ) → used < length xs → at ≤ used → (Descending (wholes whole used xs) → at ≡ above (whole m) (wholes whole used xs)) → front ≡ insert (take used xs) at m
      → PutIn whole used xs (front ++ drop (used + 1) xs) m true
  put_done front at l h placed e =
      let f = take used xs in
      let long : length front ≡ used + 1 = ap length e ∙ omega (arith, length-take-le used xs, length-insert f at m) in
      let kept : take (used + 1) (front ++ drop (used + 1) xs) ≡ insert f at m = take_at front (drop (used + 1) xs) (used + 1) long ∙ e in
      record {
        told = sym (lt-ltb used (length xs) l);
        long = length_front front xs (used + 1) long (omega arith);
        refused = λ q. absurd (both_ways true q refl);
        behind = drop_at front (drop (used + 1) xs) (used + 1) long;
        keeps = λ _ o. added (whole m) (wholes whole used xs) (wholes whole (used + 1) (front ++ drop (used + 1) xs)) o.falls
            (ap (map whole) kept ∙ map_inserted whole f at m ∙ ap (λ i. insert (wholes whole used xs) i (whole m)) (placed o.falls));
      }

  pub take_none : Absent whole (take used xs) m → TakenOut whole used xs xs m false
  take_none none = record {
    some = omega arith;
    long = refl;
    refused = λ _. refl;
    behind = refl;
    keeps = λ o. taken_no (whole m) (wholes whole used xs) (wholes whole (used - 0) xs) o.falls (none o.falls) (let z : used - 0 ≡ used = omega arith in ap (λ n. wholes whole n xs) z);
  }

  pub take_done : (front : List M) (at : ℕ) → used ≤ length xs → FoundAt whole (take used xs) m at → front ≡ remove (take used xs) at ++ drop (length (take used xs) - 1) (take used xs)
      → TakenOut whole used xs (front ++ drop used xs) m true
  take_done front at h found e =
      let f = take used xs in
      let out = drop (length f - 1) f in
      let few = length-take-le used xs h in
      let inside = found_within whole f m at found in
      let less : length (remove f at) ≡ used - 1 = omega (arith, length-remove f at inside) in
      let long : length front ≡ used = ap length e ∙ omega (arith, length-append (remove f at) out, length-drop (length f - 1) f) in
      let kept : take (used - 1) (front ++ drop used xs) ≡ remove f at =
      ap (λ l. take (used - 1) (l ++ drop used xs)) e ∙ ap (take (used - 1)) (append_assoc (remove f at) out (drop used xs)) ∙ take_at (remove f at) (out ++ drop used xs) (used - 1) less in
      record {
        some = omega arith;
        long = length_front front xs used long h;
        refused = λ q. absurd (both_ways true q refl);
        behind =
            ap (λ l. drop (used - 1) (l ++ drop used xs)) e
            ∙ ap (drop (used - 1)) (append_assoc (remove f at) out (drop used xs))
            ∙ drop_at (remove f at) (out ++ drop used xs) (used - 1) less
            ∙ left_over xs used h (omega arith);
        keeps = λ o.
            let a = found.place o.falls in
            taken_yes (whole m) (wholes whole used xs) (wholes whole (used - 1) (front ++ drop used xs)) o.falls (ap (slice_get (wholes whole used xs)) (sym a) ∙ found.same)
            (ap (map whole) kept ∙ map_removed whole f at ∙ ap (remove (wholes whole used xs)) a);
      }

-- a run stays in order
module _ {M : Type 0} (whole : M → ℤ) (used : ℕ) (before after : List M) where
  pub put_ordered : (m : M) → PutIn whole used before after m true → InOrder whole used before → InOrder whole (used + 1) after
  put_ordered m p o = record { within = omega (arith, ltb-true used (length before) (sym p.told), p.long); falls = (p.keeps refl o).ordered }

  pub take_ordered : (m : M) (found : Bool) → TakenOut whole used before after m found → InOrder whole used before → InOrder whole (used - hit found) after
  take_ordered m found t o = record { within = omega (arith, o.within, t.long); falls = (t.keeps o).ordered }

  pub replace_ordered : (old new : M) (found : Bool) → Replaced whole used before after old new found → InOrder whole used before → InOrder whole used after
  replace_ordered old new true r o = record { within = omega (arith, o.within, r.long); falls = (r.keeps refl o).ordered }
  replace_ordered old new false r o = rw (r.refused refl) o
