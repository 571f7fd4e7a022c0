-- What a write into a part of the cells leaves. Assumes nothing.
use Rattle.std.proofs.Common.{◌≡◌, ℕ, ◌+◌, ◌-◌, ◌<◌, ◌≤◌, ◌⊎◌, List, length, get_or, take, drop, set, sym, refl, ap, ◌∙◌, ⊎_elim, arith}
use borrow.Rule.Slice.PartMut.{put_mid, same_len_mid}
use Rattle.std.specs.List.{between}
use Rattle.std.proofs.lemmas.List.{length-set, get_or-take, get_or-drop, take-take, drop-drop, take-set-le, drop-set-lt}
use Rattle.std.proofs.lemmas.Slice.{between_is, between-put_mid, drop-put_mid, take-put_mid_below}
use Rattle.std.proofs.lemmas.List.Edits.{length-between}
use Rattle.layout.specs.Cells.{Outside}

module _ {M : Type 0} where
  pub part_long : (from to : ℕ) (xs ys : List M) → to ≤ length xs → length ys ≡ length (between from to xs) → length ys ≡ to - from
  part_long from to xs ys h e = e ∙ length-between xs from to h

  pub part_is : (from to : ℕ) (xs ys : List M) → from ≤ to → to ≤ length xs → length ys ≡ to - from → between from to (put_mid from (to - from) xs ys) ≡ ys
  part_is from to xs ys a b long = between-put_mid from (to - from) xs ys to (omega arith) long

  pub part_outside : (from to : ℕ) (xs ys : List M) → from ≤ to → to ≤ length xs → length ys ≡ to - from → Outside from to xs (put_mid from (to - from) xs ys)
  part_outside from to xs ys a b long = record {
    long = same_len_mid from (to - from) xs ys (long ∙ sym (length-between xs from to b));
    before = take-put_mid_below from (to - from) xs ys from (omega arith) (omega arith);
    behind = drop-put_mid from (to - from) xs ys to (omega arith) (omega arith) long;
  }

  pub set_outside : (xs : List M) (i : ℕ) (m : M) → Outside i (i + 1) xs (set xs i m)
  set_outside xs i m = record { long = length-set xs i m; before = take-set-le i xs i m (omega arith); behind = drop-set-lt (i + 1) xs i m (omega arith) }

  drop_more : (e u : ℕ) (xs ys : List M) → e ≤ u → drop e ys ≡ drop e xs → drop u ys ≡ drop u xs
  drop_more e u xs ys h eq =
      let split : u ≡ e + (u - e) = omega arith in
      ap (λ i. drop i ys) split ∙ sym (drop-drop (u - e) e ys) ∙ ap (drop (u - e)) eq ∙ drop-drop (u - e) e xs ∙ ap (λ i. drop i xs) (sym split)

  take_less : (a v : ℕ) (xs ys : List M) → v ≤ a → take a ys ≡ take a xs → take v ys ≡ take v xs
  take_less a v xs ys h eq = sym (take-take v a ys h) ∙ ap (take v) eq ∙ take-take v a xs h

  pub outside_at : (a e i : ℕ) (xs ys : List M) (c : M) → Outside a e xs ys → (i < a) ⊎ (e ≤ i) → get_or ys i c ≡ get_or xs i c
  outside_at a e i xs ys c o w = ⊎_elim
      (λ (h : i < a). sym (get_or-take a ys i c h) ∙ ap (λ l. get_or l i c) o.before ∙ get_or-take a xs i c h)
      (λ (h : e ≤ i).
      let split : e + (i - e) ≡ i = omega arith in
      ap (λ j. get_or ys j c) (sym split) ∙ sym (get_or-drop e ys (i - e) c) ∙ ap (λ l. get_or l (i - e) c) o.behind ∙ get_or-drop e xs (i - e) c ∙ ap (λ j. get_or xs j c) split)
      w

  pub outside_between : (a e u v : ℕ) (xs ys : List M) → Outside a e xs ys → (v ≤ a) ⊎ (e ≤ u) → between u v ys ≡ between u v xs
  outside_between a e u v xs ys o w = ⊎_elim
      (λ (h : v ≤ a). between_is ys u v ∙ ap (drop u) (take_less a v xs ys h o.before) ∙ sym (between_is xs u v))
      (λ (h : e ≤ u). ap (take (v - u)) (drop_more e u xs ys h o.behind))
      w

  pub outside_behind : (a e k : ℕ) (xs ys : List M) → Outside a e xs ys → e ≤ k → drop k ys ≡ drop k xs
  outside_behind a e k xs ys o h = drop_more e k xs ys h o.behind

  pub outside_same : (a e : ℕ) (xs : List M) → Outside a e xs xs
  outside_same a e xs = record { long = refl; before = refl; behind = refl }

  pub outside_wider : (a e a' e' : ℕ) (xs ys : List M) → a' ≤ a → e ≤ e' → Outside a e xs ys → Outside a' e' xs ys
  outside_wider a e a' e' xs ys h k o = record { long = o.long; before = take_less a a' xs ys h o.before; behind = drop_more e e' xs ys k o.behind }
