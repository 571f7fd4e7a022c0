-- An index of a log: for every 256th entry, where each head's latest entry before it stands. Assumes nothing.
use Rattle.std.specs.Prelude.{◌≡◌, ℕ, zero, suc, ◌+◌, ◌*◌, ◌/◌, ◌<◌, ◌≤◌, cond, List, length, Some, None, Option, ◌==◌, slice_index, slice_index_or}
use Rattle.logs.specs.declared.entries.LogEntry.{LogEntry}
use Rattle.logs.specs.Lookup.{blank}

-- the entries from one row of marks to the next
abbrev pub stride : ℕ
stride = 256

-- one more than the place of the head's latest entry before the place i, or 0
abbrev pub mark : ℕ → List LogEntry → ℕ → ℕ
mark h es zero = 0
mark h es (suc i) = cond ((slice_index_or es i blank).head == h) (suc i) (mark h es i)

-- the entry that a mark names
abbrev pub at_mark : List LogEntry → ℕ → Option LogEntry
at_mark es zero = None
at_mark es (suc p) = Some (slice_index_or es p blank)

-- for each of so many heads the row has the mark at the place i
abbrev pub IsRow : ℕ → List LogEntry → ℕ → List ℕ → Type 0
IsRow heads es i row = (h : ℕ) → h < heads → slice_index row h ≡ mark h es i

-- how many marks the index of so many entries takes: a row of one for each head
abbrev pub room : ℕ → ℕ → ℕ
room heads entries = (entries / stride + 1) * heads

-- the marks are the index of the entries
pub record Marked (heads : ℕ) (es : List LogEntry) (marks : List ℕ) : Type 0 where
  pub holds : room heads (length es) ≤ length marks
  pub rows : (b h : ℕ) → b < length es / stride + 1 → h < heads → slice_index marks (b * heads + h) ≡ mark h es (b * stride)
