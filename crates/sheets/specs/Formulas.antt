-- How a formula is read: its entries, each after those of the formulas that it takes. Assumes nothing.
--     Formulas      entries read, how many formulas may still begin, and what stands behind
--     formula       the formula that begins a stretch
use Rattle.std.specs.Prelude.{ℕ, zero, suc, cond, ◌||◌, ◌&&◌, nat_le, List, [], ◌∷◌, ◌++◌, Ok, Err, Result, ◌==◌, ◌-◌}
use Rattle.faults.specs.Checks.{on}
use Rattle.entries.specs.Operations.{Window}
use Rattle.entries.specs.Writing.{plain_entry, entry_of as written_entry}
use Rattle.entries.specs.declared.entry.Entry.{Entry}
use Rattle.sheets.specs.declared.fault.SheetFault.{SheetFault}
use Rattle.sheets.specs.declared.fault.SheetFault.TheVariants.{Misplaced, TooManyFormulas}
use Rattle.sheets.specs.Layout.{StretchModel, PieceModel, word_at, limit_at, byte_at, split, fields, ended}

-- how many formulas a formula of this kind takes
abbrev pub taken : ℕ → ℕ
taken kind = cond (kind == 16 || kind == 17) 0 (cond (kind == 18 || kind == 21) 1 2)

-- the entries of each kind, of their fields
abbrev pub head_test_entry : List ℕ → Entry
head_test_entry xs = record { kind = 16; head = byte_at 0 xs; k = 0; sense = byte_at 1 xs; limit = limit_at 2 xs; first = 0; last = 0; share = 0 }

abbrev pub zone_test_entry : List ℕ → Entry
zone_test_entry xs = record { kind = 17; head = 0; k = byte_at 0 xs; sense = byte_at 1 xs; limit = limit_at 2 xs; first = 0; last = 0; share = 0 }

abbrev pub window_entry : List ℕ → Entry
window_entry xs = written_entry (Window (word_at 0 xs) (word_at 2 xs) (word_at 4 xs))

-- the entry made of six bytes of fields, and what stands behind them
abbrev pub six_fields : (List ℕ → Entry) → PieceModel → Result (Entry × StretchModel) SheetFault
six_fields f p = on (fields 6 p) (λ x. Ok (f x.0, x.1))

-- a formula's record has one of the kinds 16 to 21
abbrev pub kind_of : PieceModel → Result ℕ SheetFault
kind_of p = cond (nat_le 16 p.kind && nat_le p.kind 21) (Ok p.kind) (Err (Misplaced p.at p.kind))

-- the entry that the fields of a formula of this kind spell, and the stretch of the formulas that it takes
abbrev pub entry_of : ℕ → PieceModel → Result (Entry × StretchModel) SheetFault
entry_of kind p =
    cond (kind == 16) (six_fields head_test_entry p)
    (cond (kind == 17) (six_fields zone_test_entry p)
    (cond (kind == 21) (six_fields window_entry p) (Ok (plain_entry kind, p.inside))))

pub record Formulas : Type 0 where
  pub entries : List Entry
  pub room : ℕ
  pub behind : StretchModel

-- of the number of formulas that may still begin, and a stretch
abbrev pub FormulaReader : Type 0
FormulaReader = ℕ → StretchModel → Result Formulas SheetFault

-- f, and then those of g
abbrev pub joined : Formulas → Formulas → Formulas
joined f g = record { entries = f.entries ++ g.entries; room = g.room; behind = g.behind }

-- so many formulas, one after another
unfoldable pub operands_by : FormulaReader → ℕ → FormulaReader
operands_by reader zero room s = Ok (record { entries = []; room = room; behind = s })
operands_by reader (suc count) room s =
    on (reader room s) (λ f. on (operands_by reader count f.room f.behind) (λ g. Ok (joined f g)))

-- the formula of an entry, after the formulas that it takes, which fill its record
abbrev pub closed : ℕ → Entry → StretchModel → Formulas → Result Formulas SheetFault
closed at e after f = on (ended at f.behind) (λ _. Ok (record { entries = f.entries ++ e ∷ []; room = f.room; behind = after }))

-- one more formula may begin
abbrev pub begun : ℕ → ℕ → Result (Unit {0}) SheetFault
begun at room = cond (room == 0) (Err (TooManyFormulas at)) (Ok tt)

-- the formula that begins a stretch; no formulas nest deeper than there is room for, so a depth of at least the room decides
-- nothing
unfoldable pub formula_by : ℕ → FormulaReader
formula_by zero room s = on (split s) (λ p. on (kind_of p.0) (λ k. on (entry_of k p.0) (λ e. Err (TooManyFormulas p.0.at))))
formula_by (suc depth) room s =
    on (split s) (λ p. on (kind_of p.0) (λ k. on (entry_of k p.0) (λ e. on (begun p.0.at room) (λ _.
    on (operands_by (formula_by depth) (taken k) (room - 1) e.1) (closed p.0.at e.0 p.1)))))

abbrev pub formula : FormulaReader
formula room s = formula_by room room s
