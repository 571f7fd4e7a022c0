-- What is read as formulas is spelled by the bytes: they are the records that the entries read build. Assumes nothing.
use Rattle.std.proofs.Common.{◌≡◌, ℕ, zero, suc, ◌-◌, ◌≤◌, List, [], ◌∷◌, ◌++◌, length, get_or, take, drop, Ok, sym, refl, ap, ◌∙◌, subst, ⊎_elim, append-nil, append_assoc, length-append, arith}
use Rattle.std.proofs.lemmas.Bool.{leb-true, and_parts, cases_eq}
use Rattle.std.proofs.lemmas.List.{take_all, length-drop, drop-drop, take-append-drop}
use Rattle.std.proofs.lemmas.List.Folds.{concat-append}
use Rattle.std.specs.List.{concat}
use Rattle.entries.specs.Writing.{plain_entry}
use Rattle.entries.specs.declared.entry.Entry.{Entry}
use Rattle.sheets.specs.Formulas.{Formulas, FormulaReader, taken, head_test_entry, zone_test_entry, window_entry, six_fields, kind_of, entry_of, joined, operands_by, begun, formula_by}
use Rattle.sheets.specs.Layout.{StretchModel, PieceModel, word_at, limit_at, split, fields, ended}
use Rattle.sheets.specs.Spelling.{word, limit_bytes, record_bytes}
use Rattle.sheets.proofs.FormulasBuilt.{field_bytes, built, built_append, built_push, put, put_append}
use Rattle.sheets.proofs.Records.{Bytes, Cut, Spelled, word_spelled, limit_spelled, split_spelled, fields_spelled, ended_good}
use Rattle.sheets.proofs.Chains.{good_on, test_good}

-- ---- fields
test_fields : (xs : List ℕ) → Bytes xs → length xs ≡ 6 → get_or xs 0 0 ∷ get_or xs 1 0 ∷ limit_bytes (limit_at 2 xs) ≡ xs
test_fields [] b six = absurd (omega arith)
test_fields (x ∷ []) b six = absurd (omega arith)
test_fields (x ∷ (y ∷ xs)) b six =
    ap (λ l. x ∷ y ∷ l) (limit_spelled 2 (x ∷ (y ∷ xs)) b (omega arith) ∙ take_all 4 xs (omega arith))

window_fields : (xs : List ℕ) → Bytes xs → length xs ≡ 6 → word (word_at 0 xs) ++ (word (word_at 2 xs) ++ word (word_at 4 xs)) ≡ xs
window_fields xs b six =
    let last : take 2 (drop 4 xs) ≡ drop 4 xs = take_all 2 (drop 4 xs) (simp length-drop (omega arith)) in
    ap (λ l. l ++ (word (word_at 2 xs) ++ word (word_at 4 xs))) (word_spelled 0 xs b (omega arith))
    ∙ ap (λ l. take 2 xs ++ (l ++ word (word_at 4 xs))) (word_spelled 2 xs b (omega arith))
    ∙ ap (λ l. take 2 xs ++ (take 2 (drop 2 xs) ++ l)) (word_spelled 4 xs b (omega arith) ∙ last ∙ sym (drop-drop 2 2 xs))
    ∙ ap (λ l. take 2 xs ++ l) (take-append-drop 2 (drop 2 xs))
    ∙ take-append-drop 2 xs

-- ---- the entry of a record
pub record EntrySpelled (k : ℕ) (p : PieceModel) (x : Entry × StretchModel) : Type 0 where
  pub kind : x.0.kind ≡ k
  pub bytes : p.inside.bytes ≡ field_bytes x.0 ++ x.1.bytes
  pub behind : Bytes x.1.bytes

-- one of the six kinds
pub six_kinds : (P : ℕ → Type 0) → P 16 → P 17 → P 18 → P 19 → P 20 → P 21 → (k : ℕ) → 16 ≤ k → k ≤ 21 → P k
six_kinds P p16 p17 p18 p19 p20 p21 k low high =
    ⊎_elim (λ e. subst P (sym e) p16) (λ n16. ⊎_elim (λ e. subst P (sym e) p17) (λ n17. ⊎_elim (λ e. subst P (sym e) p18) (λ n18.
    ⊎_elim (λ e. subst P (sym e) p19) (λ n19. ⊎_elim (λ e. subst P (sym e) p20) (λ n20.
    subst P (sym (last k low high n16 n17 n18 n19 n20)) p21) (cases_eq k 20)) (cases_eq k 19)) (cases_eq k 18)) (cases_eq k 17)) (cases_eq k 16)
  where
    last : (k : ℕ) → 16 ≤ k → k ≤ 21 → (k ≡ 16 → ⊥) → (k ≡ 17 → ⊥) → (k ≡ 18 → ⊥) → (k ≡ 19 → ⊥) → (k ≡ 20 → ⊥) → k ≡ 21
    last k low high n16 n17 n18 n19 n20 = omega (arith, n16, n17, n18, n19, n20)

pub taken_few : (k : ℕ) → taken k ≤ 2
taken_few k = grind arith

module _ (p : PieceModel) (x : Entry × StretchModel) (b : Bytes p.inside.bytes) where
  six : (k : ℕ) (f : List ℕ → Entry) → ((xs : List ℕ) → (f xs).kind ≡ k) → ((xs : List ℕ) → Bytes xs → length xs ≡ 6 → field_bytes (f xs) ≡ xs) → six_fields f p ≡ Ok x → EntrySpelled k p x
  six k f kind spells e =
      good_on (fields 6 p) (λ y. Ok (f y.0, y.1)) x e (λ y is then. six_is y (fields_spelled 6 p y.0 y.1 b is) (cc then))
    where
      six_is : (y : List ℕ × StretchModel) → Cut 6 p.inside y.0 y.1 → (f y.0, y.1) ≡ x → EntrySpelled k p x
      six_is y c is = subst (λ (z : Entry × StretchModel). EntrySpelled k p z) is (record {
        kind = kind y.0;
        bytes = c.bytes ∙ ap (λ l. l ++ y.1.bytes) (sym (spells y.0 c.front_bytes c.many));
        behind = c.behind_bytes;
      })

  plain : (k : ℕ) → field_bytes (plain_entry k) ≡ [] → (plain_entry k, p.inside) ≡ x → EntrySpelled k p x
  plain k none is = subst (λ (z : Entry × StretchModel). EntrySpelled k p z) is (record {
    kind = refl;
    bytes = ap (λ l. l ++ p.inside.bytes) (sym none);
    behind = b;
  })

  pub entry_spelled : (k : ℕ) → 16 ≤ k → k ≤ 21 → entry_of k p ≡ Ok x → EntrySpelled k p x
  entry_spelled k low high e =
      six_kinds (λ n. entry_of n p ≡ Ok x → EntrySpelled n p x)
      (six 16 head_test_entry (λ _. refl) test_fields)
      (six 17 zone_test_entry (λ _. refl) test_fields)
      (λ e. plain 18 refl (cc e))
      (λ e. plain 19 refl (cc e))
      (λ e. plain 20 refl (cc e))
      (six 21 window_entry (λ _. refl) window_fields)
      k low high e

-- ---- formulas one after another
-- the entries build so many records, which stand before what stands behind
pub record Parted (count : ℕ) (s : StretchModel) (f : Formulas) : Type 0 where
  pub parts : List (List ℕ)
  pub many : length parts ≡ count
  pub bytes : s.bytes ≡ concat parts ++ f.behind.bytes
  pub builds : (st : List (List ℕ)) → built f.entries st ≡ put parts st
  pub behind_bytes : Bytes f.behind.bytes

abbrev Parts : ℕ → FormulaReader → Type 0
Parts count reader = (room : ℕ) (s : StretchModel) (f : Formulas) → Bytes s.bytes → reader room s ≡ Ok f → Parted count s f

both_parted : (count : ℕ) (s : StretchModel) (x y : Formulas) → Parted 1 s x → Parted count x.behind y → Parted (suc count) s (joined x y)
both_parted count s x y first rest = record {
  parts = first.parts ++ rest.parts;
  many = omega (arith, first.many, rest.many, length-append first.parts rest.parts);
  bytes = first.bytes ∙ ap (λ l. concat first.parts ++ l) rest.bytes ∙ sym (append_assoc (concat first.parts) (concat rest.parts) y.behind.bytes) ∙ ap (λ l. l ++ y.behind.bytes) (sym (concat-append first.parts rest.parts));
  builds = λ st. built_append x.entries y.entries st ∙ ap (built y.entries) (first.builds st) ∙ rest.builds (put first.parts st) ∙ sym (put_append first.parts rest.parts st);
  behind_bytes = rest.behind_bytes;
}

operands_parted : (reader : FormulaReader) → Parts 1 reader → (count : ℕ) → Parts count (operands_by reader count)
unfolding operands_by
operands_parted reader one zero room s f b e =
    let is : record { entries = []; room = room; behind = s } ≡ f = cc in
    subst (λ (x : Formulas). Parted 0 s x) is (record { parts = []; many = refl; bytes = refl; builds = λ st. refl; behind_bytes = b })
operands_parted reader one (suc count) room s f b e =
    good_on (reader room s) _ f e (λ x read e. good_on (operands_by reader count x.room x.behind) _ f e (λ y others e.
    let first = one room s x b read in
    subst (λ (z : Formulas). Parted (suc count) s z) (cc e) (both_parted count s x y first (operands_parted reader one count x.room x.behind y first.behind_bytes others))))

-- ---- a formula
kind_good : (p : PieceModel) (k : ℕ) → kind_of p ≡ Ok k → (16 ≤ k) × (k ≤ 21) × (p.kind ≡ k)
kind_good p k e =
    let t = test_good _ _ _ _ e in
    let both = and_parts _ _ t.0 in
    let low = leb-true 16 p.kind both.0 in
    let high = leb-true p.kind 21 both.1 in
    (omega (arith, t.1, low), omega (arith, t.1, high), t.1)

-- the formulas taken fill what is left of the record
closed_parted : (s : StretchModel) (p : PieceModel) (r : StretchModel) (k room : ℕ) (x : Entry × StretchModel) (y : Formulas) → Spelled s p r → p.kind ≡ k → EntrySpelled k p x → Parted (taken k) x.1 y → y.behind.bytes ≡ [] → Parted 1 s (record { entries = y.entries ++ x.0 ∷ []; room = room; behind = r })
closed_parted s p r k room x y whole kind entry inner full =
    let payload : p.inside.bytes ≡ field_bytes x.0 ++ concat inner.parts = entry.bytes ∙ ap (λ l. field_bytes x.0 ++ l) (inner.bytes ∙ ap (λ l. concat inner.parts ++ l) full ∙ append-nil (concat inner.parts)) in
    record {
      parts = record_bytes x.0.kind (field_bytes x.0 ++ concat inner.parts) ∷ [];
      many = refl;
      bytes = whole.bytes ∙ ap (λ l. l ++ r.bytes) ((λ i. record_bytes ((kind ∙ sym entry.kind) i) (payload i)) ∙ sym (append-nil _));
      builds = λ st. built_push y.entries x.0 inner.parts st (inner.builds st) (taken_few x.0.kind) (inner.many ∙ ap taken (sym entry.kind));
      behind_bytes = whole.behind_bytes;
    }

pub formula_parted : (depth : ℕ) → Parts 1 (formula_by depth)
unfolding formula_by
formula_parted zero room s f b e =
    good_on (split s) _ f e (λ q _ e. good_on (kind_of q.0) _ f e (λ k _ e. good_on (entry_of k q.0) _ f e (λ x _ e. absurd (cc e))))
formula_parted (suc depth) room s f b e =
    good_on (split s) _ f e (λ q parts e. good_on (kind_of q.0) _ f e (λ k kind e. good_on (entry_of k q.0) _ f e (λ x entry e.
    good_on (begun q.0.at room) _ f e (λ _ _ e. good_on (operands_by (formula_by depth) (taken k) (room - 1) x.1) _ f e (λ y inner e.
    good_on (ended q.0.at y.behind) _ f e (λ _ full e.
    let whole = split_spelled s q.0 q.1 b parts in
    let known = kind_good q.0 k kind in
    let spells = entry_spelled q.0 x whole.inside_bytes k known.0 known.1 entry in
    subst (λ (z : Formulas). Parted 1 s z) (cc e)
    (closed_parted s q.0 q.1 k y.room x y whole known.2 spells (operands_parted (formula_by depth) (formula_parted depth) (taken k) (room - 1) x.1 y spells.behind inner) (ended_good q.0.at y.behind full))))))))
