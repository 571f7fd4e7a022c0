-- What makes entries a log, and what its heads then read, in the words of the field. Assumes nothing.
use Rattle.std.specs.Prelude.{◌≡◌, ℕ, ◌<◌, ◌≤◌, List, length, Some, ◌≢◌, slice_index_or}
use Rattle.records.specs.Model.{RecordModel, most_heads, most_polls}
use Rattle.logs.specs.declared.entries.LogEntry.{LogEntry}
use Rattle.logs.specs.Lookup.{blank, Rising}

-- the numbers keep the limits, each entry lies in the record, no poll falls, and no head comes twice in one poll
pub record LawfulLog (heads polls : ℕ) (es : List LogEntry) : Type 0 where
  pub some_head : 0 < heads
  pub few_heads : heads ≤ most_heads
  pub few_polls : polls ≤ most_polls
  pub polls_below : (i : ℕ) → i < length es → (slice_index_or es i blank).poll < polls
  pub heads_below : (i : ℕ) → i < length es → (slice_index_or es i blank).head < heads
  pub rising : Rising es
  pub once : (i j : ℕ) → i < j → j < length es → (slice_index_or es i blank).poll ≡ (slice_index_or es j blank).poll → (slice_index_or es i blank).head ≢ (slice_index_or es j blank).head

-- entry i is the head's, at or before the poll, and none such has a later poll
pub record Latest (es : List LogEntry) (h t i : ℕ) : Type 0 where
  pub there : i < length es
  pub own : (slice_index_or es i blank).head ≡ h
  pub early : (slice_index_or es i blank).poll ≤ t
  pub last : (j : ℕ) → j < length es → (slice_index_or es j blank).head ≡ h → (slice_index_or es j blank).poll ≤ t → (slice_index_or es j blank).poll ≤ (slice_index_or es i blank).poll

-- each head of the log reads what its latest entry says, and the standing reading before its first
pub record Told {T : Type 0} (spelled : ℕ → T) (heads polls : ℕ) (es : List LogEntry) (standing : T) (m : RecordModel T) : Type 0 where
  pub entry : (h t i : ℕ) → h < heads → t < polls → Latest es h t i → m.at h t ≡ Some (spelled (slice_index_or es i blank).word)
  pub before : (h t : ℕ) → h < heads → t < polls → ((i : ℕ) → i < length es → (slice_index_or es i blank).head ≡ h → t < (slice_index_or es i blank).poll) → m.at h t ≡ Some standing
