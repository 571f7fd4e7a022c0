-- What a timeline holds, and what it tells. Assumes nothing.
use Rattle.std.specs.Prelude.{◌≡◌, ℕ, List}
use Rattle.records.specs.Model.{RecordModel}
use Rattle.logs.specs.Log.{log_record}
use Rattle.logs.specs.declared.entries.LogEntry.{LogEntry}
use Rattle.logs.specs.declared.timeline.Timeline.{Timeline}

-- the record that it tells, with this reading before a head's first entry
abbrev pub told_by : {T : Type 0} → (ℕ → T) → Timeline → T → RecordModel T
told_by spelled t standing = log_record spelled t.size.heads t.size.polls t.entries.now standing

-- the timeline has these numbers and these entries
pub record IsOf (heads polls : ℕ) (es : List LogEntry) (t : Timeline) : Type 0 where
  pub heads_are : t.size.heads ≡ heads
  pub polls_are : t.size.polls ≡ polls
  pub entries_are : t.entries.now ≡ es
