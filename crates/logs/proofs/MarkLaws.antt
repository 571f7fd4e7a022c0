-- What an index of a log gives. Assumes nothing.
use Rattle.std.proofs.Common.{◌≡◌, ℕ, zero, suc, ◌+◌, ◌-◌, ◌*◌, ◌/◌, ◌<◌, ◌≤◌, Bool, true, false, cond, ◌&&◌, eqb, leb, ◌⊎◌, List, ◌++◌, length, get_or, take, drop, set, find, reverse, Some, None, Option, sym, refl, ap, ◌∙◌, inl, inr, arith}
use Rattle.std.specs.Option.{option_or}
use Rattle.std.proofs.lemmas.Nat.{mul-add-lt}
use Rattle.std.proofs.lemmas.Bool.{le-leb, eq-eqb, ne_eqb, cases_eq, cases_lt, cond-true, cond-false}
use Rattle.std.proofs.lemmas.List.{get_or-set_same, get_or-set_other, length-take-le, get_or_append_left, get_or-append_right, get_or-take}
use borrow.Rule.Slice.PartMut.{put_mid, post_of}
use Rattle.logs.specs.declared.entries.LogEntry.{LogEntry}
use Rattle.logs.specs.Log.{latest_entry}
use Rattle.logs.specs.Lookup.{blank, Upto}
use Rattle.logs.specs.Marks.{mark, at_mark, IsRow, Marked, room, stride}
use Rattle.records.specs.Model.{most_heads}
use Rattle.logs.proofs.LookupLaws.{latest_more, latest_from}

cond_le : (b : Bool) (i m : ℕ) → m ≤ i → cond b (suc i) m ≤ suc i
cond_le true i m le = omega arith
cond_le false i m le = omega arith

pub mark_le : (h : ℕ) (es : List LogEntry) (i : ℕ) → mark h es i ≤ i
mark_le h es zero = omega arith
mark_le h es (suc i) = cond_le (eqb (get_or es i blank).head h) i (mark h es i) (mark_le h es i)

step : (es : List LogEntry) (j m : ℕ) (b c : Bool) (l : Option LogEntry) → c ≡ true → l ≡ at_mark es m → option_or (cond (b && c) (Some (get_or es j blank)) None) l ≡ at_mark es (cond b (suc j) m)
step es j m true c l ok e = ap (λ x. option_or (cond x (Some (get_or es j blank)) None) l) ok
step es j m false c l ok e = e

-- where all polls before i are early, the mark at i names the latest entry
pub marked_latest : (h t : ℕ) (es : List LogEntry) (i : ℕ) → i ≤ length es → ((k : ℕ) → k < i → (get_or es k blank).poll ≤ t) → latest_entry h t (take i es) ≡ at_mark es (mark h es i)
marked_latest h t es zero le early = refl
marked_latest h t es (suc j) le early =
    let e : suc j ≡ j + 1 = omega arith in
    let lt : j < length es = omega arith in
    ap (λ n. latest_entry h t (take n es)) e
    ∙ latest_more h t j es lt
    ∙ step es j (mark h es j) (eqb (get_or es j blank).head h) (leb (get_or es j blank).poll t) (latest_entry h t (take j es)) (le-leb _ t (early j (omega arith))) (marked_latest h t es j (omega arith) (λ k o. early k (omega arith)))

module _ (heads : ℕ) (es : List LogEntry) (ms : List ℕ) (m : Marked heads es ms) (h t end : ℕ) (u : Upto es t end) (lt : h < heads) where
  pub mark_below : get_or ms (end / stride * heads + h) 0 ≤ end
  mark_below =
      let b : end / stride < length es / stride + 1 = omega (arith, u.within) in
      omega (arith, m.rows (end / stride) h b lt, mark_le h es (end / stride * stride))

  pub found_mark : latest_entry h t (take (end / stride * stride) es) ≡ at_mark es (get_or ms (end / stride * heads + h) 0)
  found_mark =
      let b : end / stride < length es / stride + 1 = omega (arith, u.within) in
      marked_latest h t es (end / stride * stride) (omega (arith, u.within)) (λ k o. u.early k (omega arith))
      ∙ ap (at_mark es) (sym (m.rows (end / stride) h b lt))

  -- the search from the row on, and then by the mark
  latest_marked : latest_entry h t es ≡ option_or (find (λ e. eqb e.head h) (reverse (take (end - end / stride * stride) (drop (end / stride * stride) es)))) (at_mark es (get_or ms (end / stride * heads + h) 0))
  latest_marked =
      latest_from h t end (end / stride * stride) es u (omega arith)
      ∙ ap (option_or (find (λ e. eqb e.head h) (reverse (take (end - end / stride * stride) (drop (end / stride * stride) es))))) found_mark

  module _ (last : Option LogEntry) (is : last ≡ find (λ e. eqb e.head h) (reverse (take (end - end / stride * stride) (drop (end / stride * stride) es)))) where
    pub latest_or : option_or last (at_mark es (get_or ms (end / stride * heads + h) 0)) ≡ latest_entry h t es
    latest_or = sym (latest_marked ∙ ap (λ o. option_or o (at_mark es (get_or ms (end / stride * heads + h) 0))) (sym is))

-- one entry more in a row
pub absorbed : (row : List ℕ) (es : List LogEntry) (i k : ℕ) (e : LogEntry) → e ≡ get_or es i blank → k ≡ i + 1 → length row ≡ most_heads → e.head < most_heads → IsRow most_heads es i row → IsRow most_heads es k (set row e.head (i + 1))
absorbed row es i k e is next len lt old h o = by (cases_eq h e.head) ∙ ap (mark h es) one
  where
    one : suc i ≡ k
    one = omega arith

    same : (get_or es i blank).head ≡ e.head
    same = ap (λ (x : LogEntry). x.head) (sym is)

    by : (h ≡ e.head) ⊎ (h ≡ e.head → ⊥) → get_or (set row e.head (i + 1)) h 0 ≡ mark h es (suc i)
    by (inl own) =
        let up : i + 1 ≡ suc i = omega arith in
        ap (λ n. get_or (set row e.head (i + 1)) n 0) own
        ∙ get_or-set_same row e.head (i + 1) 0 (omega arith)
        ∙ up
        ∙ sym (cond-true (eqb (get_or es i blank).head h) (suc i) (mark h es i) (eq-eqb _ _ (same ∙ sym own)))
    by (inr ne) =
        get_or-set_other row e.head h (i + 1) 0 ne
        ∙ old h o
        ∙ sym (cond-false (eqb (get_or es i blank).head h) (suc i) (mark h es i) (ne_eqb _ _ (λ q. ne (sym (sym same ∙ q)))))

pub row_end : (heads rows b len : ℕ) → rows * heads ≤ len → b < rows → b * heads + heads ≤ len
row_end zero rows b len room lt = omega arith
row_end (suc k) rows b len room lt = omega (arith, mul-add-lt b (suc k) k rows lt (omega arith))

module _ (a k : ℕ) (xs ys : List ℕ) (within : a ≤ length xs) where
  pub put_low : (j : ℕ) → j < a → get_or (put_mid a k xs ys) j 0 ≡ get_or xs j 0
  put_low j lt =
      let l = length-take-le a xs within in
      let lt' : j < length (take a xs) = omega arith in
      get_or_append_left (take a xs) (ys ++ post_of a k xs) 0 j lt' ∙ get_or-take a xs j 0 lt

  pub put_row : (h : ℕ) → h < length ys → get_or (put_mid a k xs ys) (a + h) 0 ≡ get_or ys h 0
  put_row h lt =
      let e : a + h - a ≡ h = omega arith in
      let le : a ≤ a + h = omega arith in
      get_or-append_right (take a xs) (ys ++ post_of a k xs) a (a + h) 0 (length-take-le a xs within) le
      ∙ ap (λ n. get_or (ys ++ post_of a k xs) n 0) e
      ∙ get_or_append_left ys (post_of a k xs) 0 h lt

-- one row more
pub rows_more : (heads n k : ℕ) (xs ys : List ℕ) (es : List LogEntry) → n * heads ≤ length xs → length ys ≡ heads → ((b h : ℕ) → b < n → h < heads → get_or xs (b * heads + h) 0 ≡ mark h es (b * stride)) → ((h : ℕ) → h < heads → get_or ys h 0 ≡ mark h es (n * stride)) → (b h : ℕ) → b < n + 1 → h < heads → get_or (put_mid (n * heads) k xs ys) (b * heads + h) 0 ≡ mark h es (b * stride)
rows_more heads n k xs ys es within len old new b h lt o = by (cases_lt b n)
  where
    by : (b < n) ⊎ (n ≤ b) → get_or (put_mid (n * heads) k xs ys) (b * heads + h) 0 ≡ mark h es (b * stride)
    by (inl low) =
        let below : b * heads + h < n * heads = omega (arith, mul-add-lt b heads h n low o) in
        put_low (n * heads) k xs ys within (b * heads + h) below ∙ old b h low o
    by (inr high) =
        let is : b ≡ n = omega arith in
        ap (λ m. get_or (put_mid (n * heads) k xs ys) (m * heads + h) 0) is
        ∙ put_row (n * heads) k xs ys within h (omega arith)
        ∙ new h o
        ∙ ap (λ m. mark h es (m * stride)) (sym is)
