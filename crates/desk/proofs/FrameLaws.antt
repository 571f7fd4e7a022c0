-- The frame of a rule's columns is that of its answers. Assumes nothing.
use Rattle.std.proofs.Common.{◌≡◌, ℕ, zero, suc, ◌+◌, ◌<◌, ◌≤◌, max, Bool, true, false, List, [], ◌∷◌, ◌++◌, length, drop, get_or, refl, sym, ap, ◌∙◌, subst, inl, inr, drop-cons, arith}
use Rattle.std.proofs.Math.ListN.{drop_of_length-le}
use Rattle.std.proofs.lemmas.Int.{ints, clamps}
use Rattle.std.specs.Prelude.{◌==◌, ◌%◌, ℤ, ◌⊎◌}
use Rattle.std.specs.Int.{int_min, int_max}
use Rattle.desk.specs.Columns.{columns_of, one_margin, with_last}
use Rattle.desk.specs.Frames.{fall_by, fall_of, fall_over, rise_by, rise_of, rise_over}
use Rattle.desk.specs.declared.answered.Answered.{Answered}
use Rattle.desk.specs.declared.columns.Column.{Column}
use Rattle.desk.proofs.ColumnLaws.{later}

rise_higher : (a b : ℤ) → rise_by (int_max a b) ≡ max (rise_by a) (rise_by b)
rise_higher a b = omega (arith, ints, clamps)

fall_lower : (a b : ℤ) → fall_by (int_min a b) ≡ max (fall_by a) (fall_by b)
fall_lower a b = omega (arith, ints, clamps)

three : (a b c : ℕ) → max (max a b) c ≡ max a (max b c)
three a b c = omega arith

-- what is left of the columns, after one more
pub rise_next : (cs : List Column) (i a r : ℕ) (c : Column) (b : ℕ) → b ≡ max a (rise_by c.highest) → i < length cs → c ≡ get_or cs i c → max a (rise_over (drop i cs)) ≡ r → max b (rise_over (drop (i + 1) cs)) ≡ r
rise_next cs i a r c b next lt is so_far =
    let more : suc i ≡ i + 1 = omega arith in
    let here : drop i cs ≡ c ∷ drop (i + 1) cs = drop-cons cs i c lt ∙ ap (λ d. d ∷ drop (suc i) cs) (sym is) ∙ ap (λ k. c ∷ drop k cs) more in
    ap (λ k. max k (rise_over (drop (i + 1) cs))) next ∙ three a (rise_by c.highest) (rise_over (drop (i + 1) cs)) ∙ ap (λ l. max a (rise_over l)) (sym here) ∙ so_far

pub fall_next : (cs : List Column) (i a r : ℕ) (c : Column) (b : ℕ) → b ≡ max a (fall_by c.lowest) → i < length cs → c ≡ get_or cs i c → max a (fall_over (drop i cs)) ≡ r → max b (fall_over (drop (i + 1) cs)) ≡ r
fall_next cs i a r c b next lt is so_far =
    let more : suc i ≡ i + 1 = omega arith in
    let here : drop i cs ≡ c ∷ drop (i + 1) cs = drop-cons cs i c lt ∙ ap (λ d. d ∷ drop (suc i) cs) (sym is) ∙ ap (λ k. c ∷ drop k cs) more in
    ap (λ k. max k (fall_over (drop (i + 1) cs))) next ∙ three a (fall_by c.lowest) (fall_over (drop (i + 1) cs)) ∙ ap (λ l. max a (fall_over l)) (sym here) ∙ so_far

pub rise_all : (cs : List Column) (i a r : ℕ) → length cs ≤ i → max a (rise_over (drop i cs)) ≡ r → a ≡ r
rise_all cs i a r past so_far = let none = ap (λ l. max a (rise_over l)) (drop_of_length-le cs past) in omega arith

pub fall_all : (cs : List Column) (i a r : ℕ) → length cs ≤ i → max a (fall_over (drop i cs)) ≡ r → a ≡ r
fall_all cs i a r past so_far = let none = ap (λ l. max a (fall_over l)) (drop_of_length-le cs past) in omega arith

rise_more : (cs : List Column) (m : ℤ) → rise_over (cs ++ one_margin m ∷ []) ≡ max (rise_over cs) (rise_by m)
rise_more [] m = omega arith
rise_more (c ∷ cs) m = ap (max (rise_by c.highest)) (rise_more cs m) ∙ sym (three (rise_by c.highest) (rise_over cs) (rise_by m))

fall_more : (cs : List Column) (m : ℤ) → fall_over (cs ++ one_margin m ∷ []) ≡ max (fall_over cs) (fall_by m)
fall_more [] m = omega arith
fall_more (c ∷ cs) m = ap (max (fall_by c.lowest)) (fall_more cs m) ∙ sym (three (fall_by c.lowest) (fall_over cs) (fall_by m))

rise_wider : (cs : List Column) (m : ℤ) → 0 < length cs → rise_over (with_last cs m) ≡ max (rise_over cs) (rise_by m)
rise_wider [] m some = absurd (omega arith)
rise_wider (c ∷ []) m some = let e = rise_higher c.highest m in omega arith
rise_wider (c ∷ d ∷ cs) m some = ap (max (rise_by c.highest)) (rise_wider (d ∷ cs) m (omega arith)) ∙ sym (three (rise_by c.highest) (rise_over (d ∷ cs)) (rise_by m))

fall_wider : (cs : List Column) (m : ℤ) → 0 < length cs → fall_over (with_last cs m) ≡ max (fall_over cs) (fall_by m)
fall_wider [] m some = absurd (omega arith)
fall_wider (c ∷ []) m some = let e = fall_lower c.lowest m in omega arith
fall_wider (c ∷ d ∷ cs) m some = ap (max (fall_by c.lowest)) (fall_wider (d ∷ cs) m (omega arith)) ∙ sym (three (fall_by c.lowest) (fall_over (d ∷ cs)) (fall_by m))

as_many : (cs : List Column) (m : ℤ) → length (with_last cs m) ≡ length cs
as_many [] m = refl
as_many (c ∷ []) m = refl
as_many (c ∷ d ∷ cs) m = ap suc (as_many (d ∷ cs) m)

one_more : (cs : List Column) (c : Column) → 0 < length (cs ++ c ∷ [])
one_more [] c = omega arith
one_more (d ∷ cs) c = omega arith

module _ (each : ℕ) (answers : ℕ → Answered) where
  on_first : (n : ℕ) → n ≡ 0 → (n % each == 0) ≡ false → ⊥
  on_first n none off = grind (arith, none, off)

  some_with : (n : ℕ) (b : Bool) → (n % each == 0) ≡ b → (n ≡ 0) ⊎ (0 < length (columns_of each answers n)) → 0 < length (columns_of each answers (suc n))
  some_with n true e before = subst (λ l. 0 < length l) (sym (later each n answers true e)) (one_more (columns_of each answers n) (one_margin (answers n).margin))
  some_with n false e (inl none) = absurd (on_first n none e)
  some_with n false e (inr some) = subst (λ l. 0 < length l) (sym (later each n answers false e)) (subst (λ k. 0 < k) (sym (as_many (columns_of each answers n) (answers n).margin)) some)

  some_columns : (n : ℕ) → (n ≡ 0) ⊎ (0 < length (columns_of each answers n))
  some_columns zero = inl refl
  some_columns (suc n) = inr (some_with n (n % each == 0) refl (some_columns n))

  some_there : (n : ℕ) → (n % each == 0) ≡ false → (n ≡ 0) ⊎ (0 < length (columns_of each answers n)) → 0 < length (columns_of each answers n)
  some_there n e (inl none) = absurd (on_first n none e)
  some_there n e (inr some) = some

  rise_step : (n : ℕ) (b : Bool) → (n % each == 0) ≡ b → rise_over (columns_of each answers (suc n)) ≡ max (rise_over (columns_of each answers n)) (rise_by (answers n).margin)
  rise_step n true e = ap rise_over (later each n answers true e) ∙ rise_more (columns_of each answers n) (answers n).margin
  rise_step n false e = ap rise_over (later each n answers false e) ∙ rise_wider (columns_of each answers n) (answers n).margin (some_there n e (some_columns n))

  fall_step : (n : ℕ) (b : Bool) → (n % each == 0) ≡ b → fall_over (columns_of each answers (suc n)) ≡ max (fall_over (columns_of each answers n)) (fall_by (answers n).margin)
  fall_step n true e = ap fall_over (later each n answers true e) ∙ fall_more (columns_of each answers n) (answers n).margin
  fall_step n false e = ap fall_over (later each n answers false e) ∙ fall_wider (columns_of each answers n) (answers n).margin (some_there n e (some_columns n))

  pub rise_columns : (n : ℕ) → rise_over (columns_of each answers n) ≡ rise_of answers n
  unfolding columns_of
  rise_columns zero = refl
  rise_columns (suc n) = rise_step n (n % each == 0) refl ∙ ap (λ k. max k (rise_by (answers n).margin)) (rise_columns n)

  pub fall_columns : (n : ℕ) → fall_over (columns_of each answers n) ≡ fall_of answers n
  unfolding columns_of
  fall_columns zero = refl
  fall_columns (suc n) = fall_step n (n % each == 0) refl ∙ ap (λ k. max k (fall_by (answers n).margin)) (fall_columns n)
