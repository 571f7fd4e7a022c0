-- How the bytes of a sheet part into records. Assumes nothing.
--     StretchModel  bytes of the sheet, with the place where they begin
--     PieceModel    a record: its kind, its place, and its payload
--     split         the record that begins a stretch, and what stands behind it
--     counted       the first bytes of a record, so many, and what stands behind them
--     fields        a record's first fields, and what stands behind them
use Rattle.std.specs.Prelude.{ℕ, ◌+◌, cond, ◌&&◌, List, length, take, drop, ℤ, Ok, Err, Result, ◌==◌, nat_le, get_or}
use Rattle.std.specs.Int.{w16, w32, from_le_bytes, cast_signed}
use Rattle.sheets.specs.declared.fault.SheetFault.{SheetFault}
use Rattle.sheets.specs.declared.fault.SheetFault.TheVariants.{RunsPast, Misplaced, ShortFields, BytesLeft}
use Rattle.sheets.specs.declared.piece.Piece.{Piece}
use Rattle.sheets.specs.declared.stretch.Stretch.{Stretch}

pub record StretchModel : Type 0 where
  pub place : ℕ
  pub bytes : List ℕ

pub record PieceModel : Type 0 where
  pub kind : ℕ
  pub at : ℕ
  pub inside : StretchModel

abbrev pub stretch : Stretch → StretchModel
stretch s = record { place = s.place; bytes = s.bytes.now }

abbrev pub piece : Piece → PieceModel
piece p = record { kind = p.kind; at = p.at; inside = stretch p.inside }

-- the number in two bytes from byte i on
abbrev pub word_at : ℕ → List ℕ → ℕ
word_at i xs = from_le_bytes w16 (take 2 (drop i xs))

-- the number with its sign in four bytes from byte i on
abbrev pub limit_at : ℕ → List ℕ → ℤ
limit_at i xs = cast_signed w32 (from_le_bytes w32 (take 4 (drop i xs)))

abbrev pub byte_at : ℕ → List ℕ → ℕ
byte_at i xs = get_or xs i 0

-- the first n bytes of a stretch, and those behind them
abbrev pub front : ℕ → StretchModel → StretchModel
front n s = record { place = s.place; bytes = take n s.bytes }

abbrev pub behind : ℕ → StretchModel → StretchModel
behind n s = record { place = s.place + n; bytes = drop n s.bytes }

-- the record that begins the stretch, of so many bytes of payload
abbrev pub first_piece : ℕ → StretchModel → PieceModel × StretchModel
first_piece n s =
    (record { kind = word_at 2 s.bytes; at = s.place; inside = front n (behind 4 s) }, behind (4 + n) s)

-- refused where its header or its payload runs past the end
abbrev pub split : StretchModel → Result (PieceModel × StretchModel) SheetFault
split s =
    cond (nat_le 4 (length s.bytes) && nat_le (4 + word_at 0 s.bytes) (length s.bytes))
    (Ok (first_piece (word_at 0 s.bytes) s)) (Err (RunsPast s.place))

-- a record of another kind may not stand here
abbrev pub of_kind : ℕ → PieceModel → Result PieceModel SheetFault
of_kind n p = cond (p.kind == n) (Ok p) (Err (Misplaced p.at p.kind))

-- the first n bytes of the record at a place, and those behind them
abbrev pub counted : ℕ → ℕ → StretchModel → Result (List ℕ × StretchModel) SheetFault
counted at n s = cond (nat_le n (length s.bytes)) (Ok (take n s.bytes, behind n s)) (Err (ShortFields at))

-- n bytes of fields
abbrev pub fields : ℕ → PieceModel → Result (List ℕ × StretchModel) SheetFault
fields n p = counted p.at n p.inside

-- no byte is left over of the record at a place
abbrev pub ended : ℕ → StretchModel → Result (Unit {0}) SheetFault
ended at s = cond (length s.bytes == 0) (Ok tt) (Err (BytesLeft at))
