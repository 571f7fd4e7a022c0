-- A margin more in the columns of a picture. Assumes nothing.
use Rattle.std.proofs.Common.{◌≡◌, ℕ, zero, suc, ◌+◌, ◌-◌, ◌*◌, ◌%◌, ◌<◌, ◌≤◌, Bool, true, false, List, [], ◌∷◌, ◌++◌, length, get_or, slice_set, refl, sym, ap, ◌∙◌, subst, arith}
use Rattle.std.proofs.lemmas.Nat.{mod-mul-add}
use Rattle.std.proofs.Math.Nat.{mul-mod_left}
use Rattle.std.specs.Prelude.{if◌then◌else◌, ◌==◌, ℤ}
use Rattle.desk.specs.Columns.{AreColumns, columns_of, one_margin, widened, with_last}
use Rattle.desk.specs.declared.answered.Answered.{Answered}
use Rattle.desk.specs.declared.columns.Column.{Column}

pub last_set : (cs : List Column) (m : ℤ) (last : Column) → 0 < length cs → last ≡ get_or cs (length cs - 1) last → slice_set cs (length cs - 1) (widened last m) ≡ with_last cs m
last_set [] m last some is = absurd (omega arith)
last_set (c ∷ []) m last some is = ap (λ x. widened x m ∷ []) is
last_set (c ∷ d ∷ cs) m last some is =
    let place : length (c ∷ d ∷ cs) - 1 ≡ suc (length (d ∷ cs) - 1) = omega arith in
    let rest = last_set (d ∷ cs) m last (omega arith) (is ∙ ap (λ k. get_or (c ∷ d ∷ cs) k last) place) in
    ap (λ k. slice_set (c ∷ d ∷ cs) k (widened last m)) place ∙ ap (λ l. c ∷ l) rest

pub later : (each n : ℕ) (answers : ℕ → Answered) (b : Bool) → (n % each == 0) ≡ b → columns_of each answers (suc n) ≡ (if b then columns_of each answers n ++ one_margin (answers n).margin ∷ [] else with_last (columns_of each answers n) (answers n).margin)
unfolding columns_of
later each n answers b e = ap (λ c. if c then columns_of each answers n ++ one_margin (answers n).margin ∷ [] else with_last (columns_of each answers n) (answers n).margin) e

module _ (own filled : ℕ) (columns : List Column) (each n : ℕ) (answers : ℕ → Answered) (a : Answered) (e : a ≡ answers n) (h : AreColumns own filled columns each n answers) where
  within : (full : ℕ) → n + each ≡ full * each + filled → filled < each → n % each ≡ filled
  within zero sum few = absurd (omega arith)
  within (suc k) sum few =
      let split : suc k * each ≡ each + k * each = grind arith in
      let is : n ≡ k * each + filled = omega arith in
      ap (λ x. x % each) is ∙ mod-mul-add k each filled few

  pub widened_columns : (next : List Column) → filled < own → next ≡ with_last columns a.margin → AreColumns own (filled + 1) next each (n + 1) answers
  widened_columns next few next_is =
      let own_is = h.each_is in
      let below : filled < each = subst (λ k. filled < k) own_is few in
      let rest = within h.full h.sum below in
      let some = h.some in
      let sum = h.sum in
      let off : (n % each == 0) ≡ false = grind (arith, rest, some) in
      let more : suc n ≡ n + 1 = omega arith in
      record {
        each_is = own_is;
        are = next_is ∙ ap (λ (x : Answered). with_last columns x.margin) e ∙ ap (λ l. with_last l (answers n).margin) h.are ∙ sym (later each n answers false off) ∙ ap (columns_of each answers) more;
        full = h.full;
        sum = omega arith;
        some = omega arith;
        most = omega arith;
      }

  pub column_more : (next : List Column) → (filled < own → ⊥) → next ≡ columns ++ one_margin a.margin ∷ [] → AreColumns own 1 next each (n + 1) answers
  column_more next full next_is =
      let own_is = h.each_is in
      let most = h.most in
      let some = h.some in
      let sum = h.sum in
      let reached : own ≤ filled = omega arith in
      let all : filled ≡ each = omega arith in
      let is : n ≡ h.full * each = omega arith in
      let on : (n % each == 0) ≡ true = let none = ap (λ x. x % each) is ∙ mul-mod_left h.full each in grind (arith, none) in
      let more : suc n ≡ n + 1 = omega arith in
      let split : suc h.full * each ≡ each + h.full * each = grind arith in
      record {
        each_is = own_is;
        are = next_is ∙ ap (λ (x : Answered). columns ++ one_margin x.margin ∷ []) e ∙ ap (λ l. l ++ one_margin (answers n).margin ∷ []) h.are ∙ sym (later each n answers true on) ∙ ap (columns_of each answers) more;
        full = suc h.full;
        sum = omega arith;
        some = omega arith;
        most = omega arith;
      }

pub no_columns : (each : ℕ) (columns : List Column) (answers : ℕ → Answered) → 0 < each → columns ≡ [] → AreColumns each each columns each 0 answers
unfolding columns_of
no_columns each columns answers some none = record { each_is = refl; are = none; full = 0; sum = omega arith; some = some; most = omega arith }
