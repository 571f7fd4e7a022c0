-- Stretches of which some cells move up or down by one. Assumes nothing.
use Rattle.std.proofs.Common.{◌≡◌, ℕ, suc, ◌+◌, ◌-◌, ◌<◌, ◌≤◌, List, [], ◌∷◌, ◌++◌, length, get_or, take, drop, set, sym, ap, ◌∙◌, append_assoc, add-one, arith}
use lib.Seq.{paste}
use Rattle.std.specs.List.{insert, remove}
use Rattle.std.proofs.lemmas.List.{append-nil, length-take, length-take-le, length-drop, take-append-drop, take_all, drop_all, drop_more, take_more, take-take, take_at, drop_at, set_at, drop-take, drop-drop}
use Rattle.std.proofs.lemmas.List.Edits.{length-remove, remove-append_left}

module _ {X : Type 0} where
  -- the last of a stretch
  last_alone : (s : List X) (k : ℕ) (d : X) → suc k ≡ length s → drop k s ≡ get_or s k d ∷ []
  last_alone s k d e = drop_more s k d (omega arith) ∙ ap (λ l. get_or s k d ∷ l) (drop_all (k + 1) s (omega arith))

  -- what `xs[at..]` becomes
  behind : (xs : List X) (at : ℕ) (turn : List X → List X) (s : List X) → s ≡ turn (take (length xs - at) (drop at xs)) → take at xs ++ (s ++ drop (length xs - at) (drop at xs)) ≡ take at xs ++ turn (drop at xs)
  behind xs at turn s e =
      let long = length-drop at xs in
      ap (λ l. take at xs ++ (s ++ l)) (drop_all (length xs - at) (drop at xs) (omega arith))
      ∙ ap (λ l. take at xs ++ l) (append-nil s ∙ e ∙ ap turn (take_all (length xs - at) (drop at xs) (omega arith)))

  -- the last came to the front of what lies from `at` on, and x over it
  pub turned_up : (xs : List X) (at : ℕ) (x : X) (s : List X) → at < length xs
      → s ≡ drop (length (take (length xs - at) (drop at xs)) - 1) (take (length xs - at) (drop at xs)) ++ take (length (take (length xs - at) (drop at xs)) - 1) (take (length xs - at) (drop at xs))
      → set (take at xs ++ (s ++ drop (length xs - at) (drop at xs))) at x ≡ insert (take (length xs - 1) xs) at x
  turned_up xs at x s h e =
      let b = drop at xs in
      let n = length b - 1 in
      let many = length-drop at xs in
      let k : length xs - 1 ≡ at + n = omega arith in
      ap (λ l. set l at x) (behind xs at (λ l. drop (length l - 1) l ++ take (length l - 1) l) s e)
      ∙ ap (λ l. set (take at xs ++ (l ++ take n b)) at x) (last_alone b n x (omega arith))
      ∙ set_at (take at xs) (get_or b n x) (take n b) x at (length-take-le at xs (omega arith))
      ∙ ap (λ l. take at xs ++ (x ∷ l)) (sym (ap (λ i. drop at (take i xs)) k ∙ drop-take at n xs))
      ∙ ap (λ l. l ++ (x ∷ drop at (take (length xs - 1) xs))) (sym (take-take at (length xs - 1) xs (omega arith)))

  -- each went one up
  pub copied_up : (xs : List X) (at n : ℕ) (x : X) → at < length xs → n ≡ length xs - 1 - at
      → set (paste xs (at + 1) (drop at xs) n) at x ≡ insert (take (length xs - 1) xs) at x
  copied_up xs at n x h e =
      let b = drop at xs in
      let k : length xs - 1 ≡ at + n = omega arith in
      ap (λ l. set ((l ++ take n b) ++ drop (at + 1 + n) xs) at x) (take_more xs at x h)
      ∙ ap (λ l. set (((take at xs ++ (get_or xs at x ∷ [])) ++ take n b) ++ l) at x) (drop_all (at + 1 + n) xs (omega arith))
      ∙ ap (λ l. set l at x) (append-nil _ ∙ append_assoc (take at xs) (get_or xs at x ∷ []) (take n b))
      ∙ set_at (take at xs) (get_or xs at x) (take n b) x at (length-take-le at xs (omega arith))
      ∙ ap (λ l. take at xs ++ (x ∷ l)) (sym (ap (λ i. drop at (take i xs)) k ∙ drop-take at n xs))
      ∙ ap (λ l. l ++ (x ∷ drop at (take (length xs - 1) xs))) (sym (take-take at (length xs - 1) xs (omega arith)))

  -- each went one down
  pub copied_down : (xs : List X) (at n : ℕ) → at < length xs → n ≡ length xs - (at + 1)
      → paste xs at (drop (at + 1) xs) n ≡ remove xs at ++ drop (length xs - 1) xs
  copied_down xs at n h e =
      let k : at + n ≡ length xs - 1 = omega arith in
      ap (λ l. (take at xs ++ l) ++ drop (at + n) xs) (take_all n (drop (at + 1) xs) (omega (arith, length-drop (at + 1) xs)))
      ∙ ap (λ i. (take at xs ++ drop (at + 1) xs) ++ drop i xs) k
      ∙ ap (λ i. (take at xs ++ drop i xs) ++ drop (length xs - 1) xs) (add-one at)

  -- the one at `at` went to the end
  turned_down : (xs : List X) (at : ℕ) (s : List X) → s ≡ drop 1 (take (length xs - at) (drop at xs)) ++ take 1 (take (length xs - at) (drop at xs))
      → take at xs ++ (s ++ drop (length xs - at) (drop at xs)) ≡ remove xs at ++ take 1 (drop at xs)
  turned_down xs at s e =
      behind xs at (λ l. drop 1 l ++ take 1 l) s e
      ∙ ap (λ l. take at xs ++ (l ++ take 1 (drop at xs))) (drop-drop 1 at xs)
      ∙ sym (append_assoc (take at xs) (drop (at + 1) xs) (take 1 (drop at xs)))
      ∙ ap (λ n. (take at xs ++ drop n xs) ++ take 1 (drop at xs)) (add-one at)

  -- and over it what had stood there
  pub taken_down : (xs : List X) (at last : ℕ) (x : X) (s : List X) → at < length xs → suc last ≡ length xs → get_or xs last x ≡ x
      → s ≡ drop 1 (take (length xs - at) (drop at xs)) ++ take 1 (take (length xs - at) (drop at xs))
      → set (take at xs ++ (s ++ drop (length xs - at) (drop at xs))) last x ≡ remove xs at ++ drop (length xs - 1) xs
  taken_down xs at last x s h l r e =
      let g = remove xs at in
      ap (λ i. set i last x) (turned_down xs at s e ∙ ap (λ i. g ++ take 1 i) (drop_more xs at x h))
      ∙ set_at g (get_or xs at x) [] x last (omega (arith, length-remove xs at h))
      ∙ ap (λ y. g ++ (y ∷ [])) (sym r)
      ∙ ap (λ i. g ++ i) (sym (last_alone xs last x l))
      ∙ ap (λ n. g ++ drop n xs) (let k : last ≡ length xs - 1 = omega arith in k)

  -- a front without its last cell
  pub all_but_last : (xs : List X) (n : ℕ) → n < length xs → take (length (take (n + 1) xs) - 1) (take (n + 1) xs) ≡ take n xs
  all_but_last xs n h =
      let k : length (take (n + 1) xs) - 1 ≡ n = omega (arith, length-take (n + 1) xs) in
      ap (λ i. take i (take (n + 1) xs)) k ∙ take-take n (n + 1) xs (omega arith)

  -- one out and another in behind it: only what lies between the two moves
  pub moved_down : (xs : List X) (gone at : ℕ) (x : X) (s : List X) → gone < at → at ≤ length xs → s ≡ remove (take at xs) gone ++ drop (length (take at xs) - 1) (take at xs)
      → set (s ++ drop at xs) (at - 1) x ≡ insert (remove xs gone) (at - 1) x
  moved_down xs gone at x s h l e =
      let f = take at xs in
      let b = drop at xs in
      let g = remove f gone in
      let front = length-take-le at xs l in
      let n = length f - 1 in
      let y = get_or f n x in
      let long : length g ≡ at - 1 = omega (arith, front, length-remove f gone (omega arith)) in
      let turned : s ++ b ≡ g ++ (y ∷ b) = ap (λ l. l ++ b) (e ∙ ap (λ l. g ++ l) (last_alone f n x (omega arith))) ∙ append_assoc g (y ∷ []) b in
      let whole : remove xs gone ≡ g ++ b = ap (λ l. remove l gone) (sym (take-append-drop at xs)) ∙ remove-append_left f b gone (omega arith) in
      ap (λ l. set l (at - 1) x) turned
      ∙ set_at g y b x (at - 1) long
      ∙ ap (λ l. l ++ (x ∷ b)) (sym (take_at g b (at - 1) long))
      ∙ ap (λ l. take (at - 1) (g ++ b) ++ (x ∷ l)) (sym (drop_at g b (at - 1) long))
      ∙ ap (λ l. insert l (at - 1) x) (sym whole)
