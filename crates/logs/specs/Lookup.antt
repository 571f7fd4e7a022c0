-- What the search for a head's latest entry rests on. Assumes nothing.
use Rattle.std.specs.Prelude.{ℕ, ◌<◌, ◌≤◌, List, length, slice_index_or}
use Rattle.logs.specs.declared.entries.LogEntry.{LogEntry}

-- what a read past the end gives
abbrev pub blank : LogEntry
blank = record { poll = 0; head = 0; word = 0 }

-- the polls never fall
abbrev pub Rising : List LogEntry → Type 0
Rising es = (i j : ℕ) → i ≤ j → j < length es → (slice_index_or es i blank).poll ≤ (slice_index_or es j blank).poll

-- each entry is of a head below so many
abbrev pub HeadsBelow : ℕ → List LogEntry → Type 0
HeadsBelow heads es = (i : ℕ) → i < length es → (slice_index_or es i blank).head < heads

-- just the first n entries come at or before the poll
pub record Upto (es : List LogEntry) (poll n : ℕ) : Type 0 where
  pub within : n ≤ length es
  pub early : (k : ℕ) → k < n → (slice_index_or es k blank).poll ≤ poll
  pub late : (k : ℕ) → n ≤ k → k < length es → poll < (slice_index_or es k blank).poll
