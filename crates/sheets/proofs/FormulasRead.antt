-- What is spelled as a formula is read, where its values are in range. Assumes nothing.
use Rattle.std.proofs.Common.{◌≡◌, ℕ, zero, suc, ◌+◌, ◌-◌, ◌*◌, ◌<◌, ◌≤◌, List, [], ◌∷◌, ◌++◌, map, length, Ok, Result, ℤ, pos, negsuc, unsigned_abs, FitsSigned, sym, refl, ap, ◌∙◌, subst, append-nil, append_assoc, length-append, arith}
use Rattle.std.proofs.lemmas.Bool.{le-leb, ne_eqb, and_from, cond-true, cond-false}
use Rattle.std.proofs.lemmas.List.{map-append}
use Rattle.std.specs.Int.{w32}
use Rattle.formulas.specs.Formula.{Formula, head_test, zone_test, complement, either, both, window}
use Rattle.scales.specs.Limits.{sense_number}
use Rattle.entries.specs.Operations.{OperationModel, HeadTest, ZoneTest, Not, Either, Both, Window}
use Rattle.entries.specs.Writing.{InRange, entry_of}
use Rattle.entries.specs.declared.entry.Entry.{Entry}
use Rattle.rules.specs.Lawful.{Ranged}
use Rattle.rules.specs.Spelling.{entries, spelled}
use Rattle.sheets.specs.Formulas.{Formulas, FormulaReader, taken, head_test_entry, zone_test_entry, window_entry, six_fields, kind_of, entry_of as entry_read, operands_by, begun, formula_by}
use Rattle.sheets.specs.Layout.{StretchModel, PieceModel, split}
use Rattle.sheets.specs.Spelling.{word, limit_bytes, record_bytes, formula_bytes}
use Rattle.sheets.specs.declared.fault.SheetFault.{SheetFault}
use Rattle.sheets.proofs.FormulasBuilt.{field_bytes, formula_entries, two_entries}
use Rattle.sheets.proofs.Records.{word_reads, limit_reads, split_reads, fields_reads, ended_reads}
use Rattle.sheets.proofs.Chains.{bind_on}

-- ---- the entry of a record
-- the fields of the entry are read as the entry
abbrev EntryReads : Entry → Type 0
EntryReads e = (p : PieceModel) (inner : List ℕ) → p.inside.bytes ≡ field_bytes e ++ inner → (b : StretchModel) × (b.bytes ≡ inner) × (entry_read e.kind p ≡ Ok (e, b))

limit_fits : (l : ℤ) → unsigned_abs l ≤ 1048576 → FitsSigned w32 l
limit_fits (pos n) le = record { sfits = omega arith }
limit_fits (negsuc n) le = record { sfits = omega arith }

six_reads : (f : List ℕ → Entry) (p : PieceModel) (xs inner : List ℕ) (e : Entry) → p.inside.bytes ≡ xs ++ inner → length xs ≡ 6 → f xs ≡ e → (b : StretchModel) × (b.bytes ≡ inner) × (six_fields f p ≡ Ok (e, b))
six_reads f p xs inner e is six same =
    let b : StretchModel = record { place = p.inside.place + 6; bytes = inner } in
    (b, refl, bind_on _ _ (xs, b) _ (fields_reads 6 p xs inner is six) (ap (λ x. Ok (x, b)) same))

entry_reads : (heads : ℕ) (o : OperationModel) → InRange heads o → EntryReads (entry_of o)
entry_reads heads (HeadTest h s l) r p inner e =
    six_reads head_test_entry p (h ∷ sense_number s ∷ limit_bytes l) inner _ e refl
    (ap (λ x. entry_of (HeadTest h s x)) (limit_reads 2 l (h ∷ sense_number s ∷ []) [] (limit_fits l r) refl))
entry_reads heads (ZoneTest k s l) r p inner e =
    six_reads zone_test_entry p (k ∷ sense_number s ∷ limit_bytes l) inner _ e refl
    (ap (λ x. entry_of (ZoneTest k s x)) (limit_reads 2 l (k ∷ sense_number s ∷ []) [] (limit_fits l r.2) refl))
entry_reads heads Not r p inner e = (p.inside, e, refl)
entry_reads heads Either r p inner e = (p.inside, e, refl)
entry_reads heads Both r p inner e = (p.inside, e, refl)
entry_reads heads (Window a b q) r p inner e =
    let first = word_reads 0 a [] (word b ++ word q) (omega (arith, r.0, r.1)) refl in
    let last = word_reads 2 b (word a) (word q) (omega (arith, r.1)) refl in
    let share = word_reads 4 q (word a ++ word b) [] (omega (arith, r.3)) refl in
    six_reads window_entry p (word a ++ (word b ++ word q)) inner _ e refl (λ i. entry_of (Window (first i) (last i) (share i)))

-- ---- formulas one after another
-- these entries are read, and then so many formulas may begin, and these bytes stand behind
pub record ReadsAs (r : Result Formulas SheetFault) (es : List Entry) (left : ℕ) (rest : List ℕ) : Type 0 where
  pub behind : StretchModel
  pub bytes : behind.bytes ≡ rest
  pub is : r ≡ Ok (record { entries = es; room = left; behind = behind })

none_reads : (reader : FormulaReader) (room : ℕ) (s : StretchModel) (rest : List ℕ) → s.bytes ≡ rest → ReadsAs (operands_by reader 0 room s) [] room rest
unfolding operands_by
none_reads reader room s rest e = record { behind = s; bytes = e; is = refl }

one_reads : (reader : FormulaReader) (room left : ℕ) (s : StretchModel) (es : List Entry) (rest : List ℕ) → ReadsAs (reader room s) es left rest → ReadsAs (operands_by reader 1 room s) es left rest
unfolding operands_by
one_reads reader room left s es rest r = record {
  behind = r.behind;
  bytes = r.bytes;
  is = bind_on _ _ _ _ r.is (ap (λ l. Ok (record { entries = l; room = left; behind = r.behind })) (append-nil es));
}

two_reads : (reader : FormulaReader) (room left last : ℕ) (s : StretchModel) (es fs : List Entry) (mid rest : List ℕ) → ReadsAs (reader room s) es left mid → ((b : StretchModel) → b.bytes ≡ mid → ReadsAs (reader left b) fs last rest) → ReadsAs (operands_by reader 2 room s) (es ++ fs) last rest
unfolding operands_by
two_reads reader room left last s es fs mid rest r more =
    let t = one_reads reader left last r.behind fs rest (more r.behind r.bytes) in
    record { behind = t.behind; bytes = t.bytes; is = bind_on _ _ _ _ r.is (bind_on _ _ _ _ t.is refl) }

-- ---- a formula
-- a formula's record, whose entry comes after those of the formulas that it takes
node_reads : (depth room left : ℕ) (s : StretchModel) (e : Entry) (es : List Entry) (inner rest : List ℕ) → EntryReads e → 16 ≤ e.kind → e.kind ≤ 21 → length (field_bytes e ++ inner) < 65536 → 1 ≤ room → room ≤ depth →
    ((d : ℕ) (b : StretchModel) → room - 1 ≤ d → b.bytes ≡ inner → ReadsAs (operands_by (formula_by d) (taken e.kind) (room - 1) b) es left []) → s.bytes ≡ record_bytes e.kind (field_bytes e ++ inner) ++ rest → ReadsAs (formula_by depth room s) (es ++ e ∷ []) left rest
unfolding formula_by
node_reads zero room left s e es inner rest reads low high short some le more is = absurd (omega arith)
node_reads (suc depth) room left s e es inner rest reads low high short some le more is =
    let payload : List ℕ = field_bytes e ++ inner in
    let p : PieceModel = record { kind = e.kind; at = s.place; inside = record { place = s.place + 4; bytes = payload } } in
    let after : StretchModel = record { place = s.place + (4 + length payload); bytes = rest } in
    let x = reads p inner refl in
    let y = more depth x.0 (omega arith) x.1 in
    record {
      behind = after;
      bytes = refl;
      is = bind_on _ _ (p, after) _ (ap (λ l. split (record { place = s.place; bytes = l })) is ∙ split_reads s.place e.kind payload rest (omega arith) short)
          (bind_on (kind_of p) _ e.kind _ (cond-true _ _ _ (and_from _ _ (le-leb 16 e.kind low) (le-leb e.kind 21 high)))
          (bind_on (entry_read e.kind p) _ (e, x.0) _ x.2
          (bind_on (begun s.place room) _ tt _ (cond-false _ _ _ (ne_eqb room 0 (λ z. omega arith)))
          (bind_on _ _ (record { entries = es; room = left; behind = y.behind }) _ y.is
          (bind_on _ _ tt _ (ended_reads s.place y.behind y.bytes) refl)))));
    }

formula_short : (φ : Formula) → length (formula_bytes φ) ≤ 10 * entries φ
formula_short (head_test h s l) = omega arith
formula_short (zone_test k s l) = omega arith
formula_short (complement φ) = omega (arith, formula_short φ)
formula_short (either φ ψ) = omega (arith, formula_short φ, formula_short ψ, length-append (formula_bytes φ) (formula_bytes ψ))
formula_short (both φ ψ) = omega (arith, formula_short φ, formula_short ψ, length-append (formula_bytes φ) (formula_bytes ψ))
formula_short (window a b p φ) = omega (arith, formula_short φ)

abbrev pub Reads : Formula → Type 0
Reads φ = (depth room : ℕ) (s : StretchModel) (rest : List ℕ) → entries φ ≤ room → room ≤ depth → room ≤ 24 → s.bytes ≡ formula_bytes φ ++ rest → ReadsAs (formula_by depth room s) (formula_entries φ) (room - entries φ) rest

-- its entries are those of the formulas that it takes, and its own
same_reads : (r : Result Formulas SheetFault) (es fs : List Entry) (m n : ℕ) (rest : List ℕ) → es ≡ fs → m ≡ n → ReadsAs r es m rest → ReadsAs r fs n rest
same_reads r es fs m n rest e f x = record { behind = x.behind; bytes = x.bytes; is = x.is ∙ (λ i. Ok (record { entries = e i; room = f i; behind = x.behind })) }

entry_kind : (o : OperationModel) → (16 ≤ (entry_of o).kind) × ((entry_of o).kind ≤ 21) × (length (field_bytes (entry_of o)) ≤ 6)
entry_kind (HeadTest h s l) = (omega arith, omega arith, omega arith)
entry_kind (ZoneTest k s l) = (omega arith, omega arith, omega arith)
entry_kind Not = (omega arith, omega arith, omega arith)
entry_kind Either = (omega arith, omega arith, omega arith)
entry_kind Both = (omega arith, omega arith, omega arith)
entry_kind (Window a b p) = (omega arith, omega arith, omega arith)

-- an operation's record that holds so many formulas is read as their entries and then its own
module _ (o : OperationModel) (reads : EntryReads (entry_of o)) where
  abbrev own : List ℕ → List ℕ
  own inner = record_bytes (entry_of o).kind (field_bytes (entry_of o) ++ inner)

  node : (count depth room left : ℕ) (s : StretchModel) (es : List Entry) (inner rest : List ℕ) → taken (entry_of o).kind ≡ count → length inner ≤ 10 * 24 → 1 ≤ room → room ≤ depth → ((d : ℕ) (b : StretchModel) → room - 1 ≤ d → b.bytes ≡ inner → ReadsAs (operands_by (formula_by d) count (room - 1) b) es left []) → s.bytes ≡ own inner ++ rest → ReadsAs (formula_by depth room s) (es ++ entry_of o ∷ []) left rest
  node count depth room left s es inner rest takes short some le more is =
      let kind = entry_kind o in
      node_reads depth room left s (entry_of o) es inner rest reads kind.0 kind.1 (omega (arith, kind.2, length-append (field_bytes (entry_of o)) inner)) some le
      (λ d b l e. subst (λ (n : ℕ). ReadsAs (operands_by (formula_by d) n (room - 1) b) es left []) (sym takes) (more d b l e)) is

  takes_none : taken (entry_of o).kind ≡ 0 → (depth room : ℕ) (s : StretchModel) (rest : List ℕ) → 1 ≤ room → room ≤ depth → room ≤ 24 → s.bytes ≡ own [] ++ rest → ReadsAs (formula_by depth room s) (entry_of o ∷ []) (room - 1) rest
  takes_none takes depth room s rest fits le few is =
      node 0 depth room (room - 1) s [] [] rest takes (omega arith) fits le (λ d b _ e. none_reads (formula_by d) (room - 1) b [] e) is

  takes_one : taken (entry_of o).kind ≡ 1 → (φ : Formula) → Reads φ → (depth room : ℕ) (s : StretchModel) (rest : List ℕ) → entries φ + 1 ≤ room → room ≤ depth → room ≤ 24 → s.bytes ≡ own (formula_bytes φ) ++ rest → ReadsAs (formula_by depth room s) (map entry_of (spelled φ ++ o ∷ [])) (room - (entries φ + 1)) rest
  takes_one takes φ read depth room s rest fits le few is =
      same_reads _ _ _ (room - 1 - entries φ) _ rest (sym (map-append entry_of (spelled φ) (o ∷ []))) (omega arith)
      (node 1 depth room (room - 1 - entries φ) s (formula_entries φ) (formula_bytes φ) rest takes (omega (arith, formula_short φ)) (omega arith) le
      (λ d b l e. one_reads (formula_by d) (room - 1) (room - 1 - entries φ) b (formula_entries φ) [] (read d (room - 1) b [] (omega arith) l (omega arith) (e ∙ sym (append-nil (formula_bytes φ))))) is)

  takes_two : taken (entry_of o).kind ≡ 2 → (φ ψ : Formula) → Reads φ → Reads ψ → (depth room : ℕ) (s : StretchModel) (rest : List ℕ) → entries φ + entries ψ + 1 ≤ room → room ≤ depth → room ≤ 24 → s.bytes ≡ own (formula_bytes φ ++ formula_bytes ψ) ++ rest → ReadsAs (formula_by depth room s) (map entry_of (spelled φ ++ (spelled ψ ++ o ∷ []))) (room - (entries φ + entries ψ + 1)) rest
  takes_two takes φ ψ read_φ read_ψ depth room s rest fits le few is =
      same_reads _ _ _ (room - 1 - entries φ - entries ψ) _ rest (append_assoc (formula_entries φ) (formula_entries ψ) (entry_of o ∷ []) ∙ sym (two_entries φ ψ o)) (omega arith)
      (node 2 depth room (room - 1 - entries φ - entries ψ) s (formula_entries φ ++ formula_entries ψ) (formula_bytes φ ++ formula_bytes ψ) rest takes (omega (arith, formula_short φ, formula_short ψ, length-append (formula_bytes φ) (formula_bytes ψ))) (omega arith) le
      (λ d b l e. two_reads (formula_by d) (room - 1) (room - 1 - entries φ) (room - 1 - entries φ - entries ψ) b (formula_entries φ) (formula_entries ψ) (formula_bytes ψ) []
      (read_φ d (room - 1) b (formula_bytes ψ) (omega arith) l (omega arith) e)
      (λ c f. read_ψ d (room - 1 - entries φ) c [] (omega arith) (omega arith) (omega arith) (f ∙ sym (append-nil (formula_bytes ψ))))) is)

pub formula_reads : (z : List ℕ) (φ : Formula) → Ranged z φ → Reads φ
formula_reads z (head_test h s l) r = takes_none (HeadTest h s l) (entry_reads (length z) (HeadTest h s l) r.0) refl
formula_reads z (zone_test k s l) r = takes_none (ZoneTest k s l) (entry_reads (length z) (ZoneTest k s l) r) refl
formula_reads z (complement φ) r = takes_one Not (entry_reads (length z) Not tt) refl φ (formula_reads z φ r)
formula_reads z (either φ ψ) r = takes_two Either (entry_reads (length z) Either tt) refl φ ψ (formula_reads z φ r.0) (formula_reads z ψ r.1)
formula_reads z (both φ ψ) r = takes_two Both (entry_reads (length z) Both tt) refl φ ψ (formula_reads z φ r.0) (formula_reads z ψ r.1)
formula_reads z (window a b p φ) r = takes_one (Window a b p) (entry_reads (length z) (Window a b p) r.0) refl φ (formula_reads z φ r.1)
