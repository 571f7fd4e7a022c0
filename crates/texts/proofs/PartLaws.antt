-- How texts fall into lines and fields. Assumes nothing.
use Rattle.std.proofs.Common.{◌≡◌, ℕ, suc, ◌+◌, ◌-◌, ◌<◌, ◌≤◌, Bool, true, false, cond, not, eqb, ltb, List, [], ◌∷◌, length, map, take, drop, Some, None, Option, position, sym, refl, ap, ◌∙◌, subst, arith}
use Rattle.std.specs.List.{slice_split, onto_first, position_or_len}
use Rattle.std.specs.Str.Lines.{strip_carriage_return}
use Rattle.std.proofs.lemmas.List.{length-drop, take_all}
use Rattle.std.proofs.lemmas.List.Splits.{slice_split_first}
use Rattle.std.proofs.lemmas.Bool.{ltb-true, ltb-false}
use Rattle.texts.specs.Parts.{fields, ended, lines}

abbrev none : Option ℕ
none = None

module _ (p : ℕ → Bool) where
  uncut_by : (x : ℕ) (xs : List ℕ) (b : Bool) → slice_split p xs ≡ xs ∷ [] → suc (length xs) ≤ cond (not b) (1 + position_or_len p xs) 0 → cond b ([] ∷ slice_split p xs) (onto_first x (slice_split p xs)) ≡ (x ∷ xs) ∷ []
  uncut_by x xs true e h = absurd (omega arith)
  uncut_by x xs false e h = ap (onto_first x) e

  shorter : (n m : ℕ) (b : Bool) → suc n ≤ cond (not b) (1 + m) 0 → n ≤ m
  shorter n m true h = absurd (omega arith)
  shorter n m false h = omega arith

  -- where no byte passes, the text is one part
  pub uncut : (xs : List ℕ) → length xs ≤ position_or_len p xs → slice_split p xs ≡ xs ∷ []
  uncut [] h = refl
  uncut (x ∷ xs) h = uncut_by x xs (p x) (uncut xs (shorter (length xs) (position_or_len p xs) (p x) h)) h

  none_by : (n m : ℕ) (b : Bool) → b ≡ ltb n m → cond b (Some n) None ≡ none → m ≤ n
  none_by n m true e h = cc
  none_by n m false e h = ltb-false n m (sym e)

  some_by : (n m i : ℕ) (b : Bool) → b ≡ ltb n m → cond b (Some n) None ≡ Some i → (n < m) × (n ≡ i)
  some_by n m i true e h = (ltb-true n m (sym e), cc)
  some_by n m i false e h = cc

  pub uncut_where : (xs : List ℕ) → position p xs ≡ None → slice_split p xs ≡ xs ∷ []
  uncut_where xs e = uncut xs (none_by (position_or_len p xs) (length xs) _ refl e)

  pub cut_where : (xs : List ℕ) (i : ℕ) → position p xs ≡ Some i
      → (slice_split p xs ≡ take i xs ∷ slice_split p (drop (i + 1) xs)) × (i < length xs)
  cut_where xs i e =
      let s = some_by (position_or_len p xs) (length xs) i _ refl e in
      let f = slice_split_first p xs 0 s.0 in
      let P : ℕ → Type 0 = λ k. (slice_split p xs ≡ take k xs ∷ slice_split p (drop (k + 1) xs)) × (k < length xs) in
      subst P s.1 (f, s.0)

pub whole_rest : (k : ℕ) (xs : List ℕ) → take (length xs - k) (drop k xs) ≡ drop k xs
whole_rest k xs = take_all (length xs - k) (drop k xs) (omega (arith, length-drop k xs))

-- lines

pub some_parts : (p : ℕ → Bool) (xs : List ℕ) → (q : List ℕ) × (qs : List (List ℕ)) × (slice_split p xs ≡ q ∷ qs)
some_parts p [] = ([], [], refl)
some_parts p (x ∷ xs) = by (p x) (some_parts p xs)
  where
    by : (b : Bool) → (q : List ℕ) × (qs : List (List ℕ)) × (slice_split p xs ≡ q ∷ qs) → (q : List ℕ) × (qs : List (List ℕ)) × (cond b ([] ∷ slice_split p xs) (onto_first x (slice_split p xs)) ≡ q ∷ qs)
    by true r = ([], slice_split p xs, refl)
    by false r = (x ∷ r.0, r.1, ap (onto_first x) r.2)

pub no_lines : lines [] ≡ []
unfolding lines
no_lines = refl

pub no_lines_of : (text : List ℕ) → length text ≡ 0 → lines text ≡ []
no_lines_of [] e = no_lines
no_lines_of (x ∷ xs) e = absurd (omega arith)

-- the last line, which lacks its line feed
pub last_line : (text : List ℕ) → 0 < length text → fields 10 text ≡ text ∷ [] → lines text ≡ strip_carriage_return text ∷ lines []
unfolding lines
last_line [] h e = absurd (omega arith)
last_line (x ∷ xs) h e = ap (λ ps. map strip_carriage_return (ended ps)) e

-- a line that a line feed ends
pub first_line : (text line rest : List ℕ) → fields 10 text ≡ line ∷ fields 10 rest → lines text ≡ strip_carriage_return line ∷ lines rest
unfolding lines
first_line text line rest e =
    let s = some_parts (λ b. eqb b 10) rest in
    ap (λ ps. map strip_carriage_return (ended ps)) (e ∙ ap (λ qs. line ∷ qs) s.2)
    ∙ ap (λ qs. strip_carriage_return line ∷ map strip_carriage_return (ended qs)) (sym s.2)
