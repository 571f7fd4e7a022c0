-- How a whole sheet is read: what it says, or the first fault. Assumes nothing.
use Rattle.std.specs.Prelude.{ℕ, zero, suc, ◌+◌, cond, ◌&&◌, List, [], length, drop, Ok, Err, Result, ◌==◌, nat_le}
use Rattle.faults.specs.Checks.{on}
use Rattle.rules.specs.Assemble.{fair}
use Rattle.entries.specs.declared.heads.TheConstants.{HEADS}
use Rattle.sheets.specs.Layout.{PieceModel, word_at, byte_at, fields}
use Rattle.sheets.specs.Outlines.{in_a_zone, Outline, SheetZone, zones, rules}
use Rattle.sheets.specs.Parts.{to_end, group}
use Rattle.sheets.specs.declared.fault.SheetFault.{SheetFault}
use Rattle.sheets.specs.declared.fault.SheetFault.TheVariants.{Size, NotASheet, HeadTotal, HeadInNoZone, TooFewPlaces}
use Rattle.sheets.specs.declared.sizes.TheConstants.{SHEET_BYTES}

-- the one record of kind 1 that fills the bytes
abbrev pub whole : List ℕ → Result PieceModel SheetFault
whole xs =
    cond (nat_le 4 (length xs) && nat_le (length xs) SHEET_BYTES)
    (cond (word_at 2 xs == 1 && (4 + word_at 0 xs) == length xs)
    (Ok (record { kind = 1; at = 0; inside = record { place = 4; bytes = drop 4 xs } })) (Err NotASheet))
    (Err (Size (length xs)))

-- from 1 to 64 heads
abbrev pub head_total : ℕ → Result (Unit {0}) SheetFault
head_total n = cond (fair n HEADS) (Ok tt) (Err (HeadTotal 0 n))

-- each head from the first on, so many of them, stands in a zone
abbrev pub all_zoned : List SheetZone → ℕ → ℕ → Result (Unit {0}) SheetFault
all_zoned zs h zero = Ok tt
all_zoned zs h (suc count) =
    cond (in_a_zone h zs) (all_zoned zs (suc h) count) (Err (HeadInNoZone h))

-- what the sheet says
unfoldable pub read : List ℕ → Result Outline SheetFault
read xs =
    on (whole xs) (λ p. on (fields 1 p) (λ f. on (head_total (byte_at 0 f.0)) (λ _.
    on (to_end group (record { total = byte_at 0 f.0; groups = [] }) f.1) (λ o.
    on (all_zoned (zones o) 0 o.total) (λ _. Ok o)))))

-- what a sheet says that so many places can hold
abbrev pub read_into : List ℕ → ℕ → Result Outline SheetFault
read_into xs places =
    on (read xs) (λ o. cond (nat_le (length (rules o)) places) (Ok o) (Err (TooFewPlaces (length (rules o)) places)))
