-- What a draft has after one formula, and after so many. Assumes nothing.
use Rattle.std.proofs.Common.{◌≡◌, ℕ, zero, suc, ◌+◌, ◌-◌, ◌<◌, ◌≤◌, [], ◌∷◌, ◌++◌, Ok, Err, Result, refl, sym, ap, ap₂, ◌∙◌, append-nil, append_assoc, arith}
use Rattle.faults.specs.Checks.{on}
use Rattle.entries.specs.declared.entry.Entry.{Entry}
use Rattle.sheets.specs.Formulas.{Formulas, FormulaReader, taken, entry_of, kind_of, begun, joined, closed, formula_by, operands_by}
use Rattle.sheets.specs.Layout.{StretchModel, PieceModel, stretch, split, ended}
use Rattle.sheets.specs.Standing.{Added, Drafted}
use Rattle.sheets.specs.declared.draft.Draft.{Draft}
use Rattle.sheets.specs.declared.fault.SheetFault.{SheetFault}
use Rattle.sheets.specs.declared.fault.SheetFault.TheVariants.{TooManyFormulas}
use Rattle.sheets.specs.declared.stretch.Stretch.{Stretch}
use Rattle.sheets.proofs.Chains.{goes, stops}

-- ---- so many formulas
-- no formula more
pub none_more : (reader : FormulaReader) (d : Draft) (holder : Stretch) → Added (operands_by reader 0 d.room (stretch holder)) d d holder
unfolding operands_by
none_more reader d holder = record { formulas = record { entries = []; room = d.room; behind = stretch holder }; is = refl; entries = sym (append-nil d.entries.items); room = refl; behind = refl }

module _ (reader : FormulaReader) (count : ℕ) where
  next_one : (room : ℕ) (s : StretchModel) → operands_by reader (suc count) room s ≡ on (reader room s) (λ f. on (operands_by reader count f.room f.behind) (λ g. Ok (joined f g)))
  unfolding operands_by
  next_one room s = refl

module _ (reader : FormulaReader) (count : ℕ) (s : StretchModel) (some : 0 < count) where
  one_more : (room : ℕ) → operands_by reader count room s ≡ on (reader room s) (λ f. on (operands_by reader (count - 1) f.room f.behind) (λ g. Ok (joined f g)))
  one_more room =
      let is : count ≡ suc (count - 1) = omega arith in
      ap (λ n. operands_by reader n room s) is ∙ next_one reader (count - 1) room s

  pub first_fails : {room : ℕ} {f : SheetFault} → reader room s ≡ Err f → operands_by reader count room s ≡ Err f
  first_fails {room} e = one_more room ∙ stops _ e

  -- a formula, and then those behind it
  pub more : (old mid new : Draft) (behind : Stretch) (result : Result Stretch SheetFault) → Added (reader old.room s) old mid behind → Drafted (operands_by reader (count - 1) mid.room (stretch behind)) mid new result → Drafted (operands_by reader count old.room s) old new result
  more old mid new behind result a h = go result h
    where
      first : operands_by reader count old.room s ≡ on (operands_by reader (count - 1) mid.room (stretch behind)) (λ g. Ok (joined a.formulas g))
      first =
          one_more old.room
          ∙ (goes _ a.is
          ∙ ap₂ (λ n b. on (operands_by reader (count - 1) n b) (λ g. Ok (joined a.formulas g))) (sym a.room) (sym a.behind))

      go : (r : Result Stretch SheetFault) → Drafted (operands_by reader (count - 1) mid.room (stretch behind)) mid new r → Drafted (operands_by reader count old.room s) old new r
      go (Ok left) b = record {
        formulas = joined a.formulas b.formulas;
        is = first ∙ goes _ b.is;
        entries = b.entries ∙ ap (λ es. es ++ b.formulas.entries) a.entries ∙ append_assoc old.entries.items a.formulas.entries b.formulas.entries;
        room = b.room;
        behind = b.behind;
      }
      go (Err f) e = first ∙ stops _ e

-- ---- a formula
-- the rest of a formula, once its kind and entry are known
abbrev rest : ℕ → ℕ → PieceModel × StretchModel → ℕ → Entry × StretchModel → Result Formulas SheetFault
rest zero room p k e = Err (TooManyFormulas p.0.at)
rest (suc depth) room p k e =
    on (begun p.0.at room) (λ _. on (operands_by (formula_by depth) (taken k) (room - 1) e.1) (closed p.0.at e.0 p.1))

reads : (depth room : ℕ) (s : StretchModel) → formula_by depth room s ≡ on (split s) (λ p. on (kind_of p.0) (λ k. on (entry_of k p.0) (rest depth room p k)))
unfolding formula_by
reads zero room s = refl
reads (suc depth) room s = refl

module _ (depth room : ℕ) (s : StretchModel) where
  pub no_piece : {f : SheetFault} → split s ≡ Err f → formula_by depth room s ≡ Err f
  no_piece e = reads depth room s ∙ stops _ e

  module _ {p : PieceModel × StretchModel} (is_piece : split s ≡ Ok p) where
    pub no_kind : {f : SheetFault} → kind_of p.0 ≡ Err f → formula_by depth room s ≡ Err f
    no_kind e = reads depth room s ∙ (goes _ is_piece ∙ stops _ e)

    module _ {k : ℕ} (is_kind : kind_of p.0 ≡ Ok k) where
      pub no_entry : {f : SheetFault} → entry_of k p.0 ≡ Err f → formula_by depth room s ≡ Err f
      no_entry e = reads depth room s ∙ (goes _ is_piece ∙ (goes _ is_kind ∙ stops _ e))

      module _ {e : Entry × StretchModel} (is_entry : entry_of k p.0 ≡ Ok e) (enough : room ≤ depth) where
        of_entry : formula_by depth room s ≡ rest depth room p k e
        of_entry = reads depth room s ∙ (goes _ is_piece ∙ (goes _ is_kind ∙ goes _ is_entry))

        pub no_room : {f : SheetFault} → begun p.0.at room ≡ Err f → formula_by depth room s ≡ Err f
        no_room {f} full = of_entry ∙ go depth room enough full
          where
            go : (d n : ℕ) → n ≤ d → begun p.0.at n ≡ Err f → rest d n p k e ≡ Err f
            go zero zero le full = let same : TooManyFormulas p.0.at ≡ f = cc in ap Err same
            go zero (suc n) le full = absurd (omega arith)
            go (suc d) n le full = stops _ full

        -- the formulas that it takes are read with the room that is left
        opened : begun p.0.at room ≡ Ok tt → (below : ℕ) × (room - 1 ≤ below) × (formula_by depth room s ≡ on (operands_by (formula_by below) (taken k) (room - 1) e.1) (closed p.0.at e.0 p.1))
        opened free = go depth room enough free of_entry
          where
            go : (d n : ℕ) → n ≤ d → begun p.0.at n ≡ Ok tt → formula_by depth room s ≡ rest d n p k e → (below : ℕ) × (n - 1 ≤ below) × (formula_by depth room s ≡ on (operands_by (formula_by below) (taken k) (n - 1) e.1) (closed p.0.at e.0 p.1))
            go zero zero le free is = absurd (cc)
            go zero (suc n) le free is = absurd (omega arith)
            go (suc d) n le free is = (d, omega arith, is ∙ goes _ free)

-- the formula of an entry, once those that it takes are read
module _ (depth : ℕ) (s : StretchModel) {p : PieceModel} (behind : Stretch) {k : ℕ} (e : Entry) (inside : Stretch) (count : ℕ) (old mid new : Draft) (is_piece : split s ≡ Ok (p, stretch behind)) (is_kind : kind_of p ≡ Ok k) (is_entry : entry_of k p ≡ Ok (e, stretch inside)) (enough : old.room ≤ depth) (free : begun p.at old.room ≡ Ok tt) (less : mid.room + 1 ≡ old.room) (counts : count ≡ taken k) where
  takes : (below : ℕ) × (mid.room ≤ below) × (formula_by depth old.room s ≡ on (operands_by (formula_by below) count mid.room (stretch inside)) (closed p.at e (stretch behind)))
  takes =
      let o = opened depth old.room s is_piece is_kind is_entry enough free in
      let same : old.room - 1 ≡ mid.room = omega arith in
      (o.0, omega (arith, o.1), o.2 ∙ ap₂ (λ n m. on (operands_by (formula_by o.0) n m (stretch inside)) (closed p.at e (stretch behind))) (sym counts) same)

  pub taken_fails : {f : SheetFault} → ((below : ℕ) → mid.room ≤ below → operands_by (formula_by below) count mid.room (stretch inside) ≡ Err f) → formula_by depth old.room s ≡ Err f
  taken_fails h = takes.2 ∙ stops _ (h takes.0 takes.1)

  module _ (left : Stretch) (taken_are : (below : ℕ) → mid.room ≤ below → Added (operands_by (formula_by below) count mid.room (stretch inside)) mid new left) where
    closes : (fs : Formulas) × (formula_by depth old.room s ≡ on (ended p.at (stretch left)) (λ _. Ok (record { entries = fs.entries ++ e ∷ []; room = fs.room; behind = stretch behind }))) × (new.entries.items ≡ mid.entries.items ++ fs.entries) × (new.room ≡ fs.room)
    closes =
        let a = taken_are takes.0 takes.1 in (
          a.formulas,
          takes.2 ∙ (goes _ a.is ∙ ap (λ b. on (ended p.at b) (λ _. Ok (record { entries = a.formulas.entries ++ e ∷ []; room = a.formulas.room; behind = stretch behind }))) (sym a.behind)),
          a.entries,
          a.room,
        )

    pub bytes_left : {f : SheetFault} → ended p.at (stretch left) ≡ Err f → formula_by depth old.room s ≡ Err f
    bytes_left h = closes.1 ∙ stops _ h

    pub is_closed : (full : Draft) → ended p.at (stretch left) ≡ Ok tt → mid.entries.items ≡ old.entries.items → full.entries.items ≡ new.entries.items ++ e ∷ [] → full.room ≡ new.room → Added (formula_by depth old.room s) old full behind
    is_closed full h same pushed level = record {
      formulas = record { entries = closes.0.entries ++ e ∷ []; room = closes.0.room; behind = stretch behind };
      is = closes.1 ∙ goes _ h;
      entries =
          pushed
          ∙ ap (λ es. es ++ e ∷ []) (closes.2 ∙ ap (λ es. es ++ closes.0.entries) same)
          ∙ append_assoc old.entries.items closes.0.entries (e ∷ []);
      room = level ∙ closes.3;
      behind = refl;
    }
