-- The record that a log stands for. Assumes nothing.
use Rattle.std.specs.Prelude.{ℕ, ◌+◌, Bool, false, cond, not, ◌&&◌, ◌||◌, List, [], ◌∷◌, is_some, Some, None, Option, ◌==◌, nat_le, nat_lt}
use Rattle.std.specs.Option.{option_or, option_map}
use Rattle.records.specs.Model.{RecordModel, unless, table}
use Rattle.records.specs.Limits.{numbers_fault}
use Rattle.logs.specs.declared.entries.LogEntry.{LogEntry}
use Rattle.logs.specs.declared.refusals.LogFault.{LogFault}
use Rattle.logs.specs.declared.refusals.LogFault.TheVariants.{Record, PollOutside, HeadOutside, PollFalls, HeadTwice}

-- What a log may hold. `before` has the entries before one, the nearest first.

-- the poll of the nearest entry before
abbrev pub floor : List LogEntry → ℕ
floor [] = 0
floor (b ∷ bs) = b.poll

-- whether the head has an entry of that poll before
abbrev pub seen : ℕ → ℕ → List LogEntry → Bool
seen head poll [] = false
seen head poll (b ∷ bs) = (b.head == head && b.poll == poll) || seen head poll bs

-- the entry's poll, then its head, is not below the record's
abbrev pub place_fault : ℕ → ℕ → ℕ → LogEntry → Option LogFault
place_fault heads polls entry e =
    cond (nat_le polls e.poll) (Some (PollOutside entry e.poll polls)) (cond (nat_le heads e.head) (Some (HeadOutside entry e.head heads)) None)

-- the entry's poll falls below the one before, then its head comes twice in its poll
abbrev pub order_fault : ℕ → ℕ → Bool → LogEntry → Option LogFault
order_fault entry before twice e =
    cond (nat_lt e.poll before) (Some (PollFalls entry e.poll before)) (cond twice (Some (HeadTwice entry e.head e.poll)) None)

-- what is wrong with an entry
abbrev pub entry_fault : ℕ → ℕ → ℕ → List LogEntry → LogEntry → Option LogFault
entry_fault heads polls entry before e =
    option_or (place_fault heads polls entry e) (order_fault entry (floor before) (seen e.head e.poll before) e)

-- the fault of the first entry that has one
abbrev pub first_fault : ℕ → ℕ → ℕ → List LogEntry → List LogEntry → Option LogFault
first_fault heads polls entry before [] = None
first_fault heads polls entry before (e ∷ es) = option_or (entry_fault heads polls entry before e) (first_fault heads polls (entry + 1) (e ∷ before) es)

-- the fault of the numbers, carried whole, then that of the entries
abbrev pub log_fault : ℕ → ℕ → List LogEntry → Option LogFault
log_fault heads polls es = option_or (option_map Record (numbers_fault heads polls)) (first_fault heads polls 0 [] es)

-- What a log says.

-- whether the entry is the head's, at or before the poll
abbrev pub tells_of : ℕ → ℕ → LogEntry → Bool
tells_of head poll e = e.head == head && nat_le e.poll poll

-- the head's latest entry at or before the poll
abbrev pub latest_entry : ℕ → ℕ → List LogEntry → Option LogEntry
latest_entry head poll [] = None
latest_entry head poll (e ∷ es) = option_or (latest_entry head poll es) (cond (tells_of head poll e) (Some e) None)

-- what it says, and the standing reading before the head's first
abbrev pub says : {T : Type 0} → (ℕ → T) → T → Option LogEntry → T
says spelled standing None = standing
says spelled standing (Some e) = spelled e.word

-- a head reads what its latest entry says; the empty record where the check refuses
abbrev pub log_record : {T : Type 0} → (ℕ → T) → ℕ → ℕ → List LogEntry → T → RecordModel T
log_record spelled heads polls es standing =
    unless (log_fault heads polls es) (table heads polls (λ h t. Some (says spelled standing (latest_entry h t es))))

-- what a log keeps: it passes the check, or has no heads and no polls
abbrev pub log_kept : ℕ → ℕ → List LogEntry → Bool
log_kept heads polls es = not (is_some (log_fault heads polls es)) || (heads == 0 && polls == 0)
