-- The check of the entries, one by one. Assumes nothing.
use Rattle.std.proofs.Common.{◌≡◌, ℕ, ◌<◌, [], reverse, length, get_or, take}
use Rattle.logs.specs.Log.{first_fault, floor}
use Rattle.records.specs.Model.{most_heads}
use Rattle.logs.proofs.OrderLaws.{stamp, Falling, fault_from}
use Rattle.logs.proofs.order.check_entries.Given as goal

-- The entries passed have no fault: what is left gives the answer.
abbrev pub invariant-loop-entry : goal.invariant-loop-entry
invariant-loop-entry l =
    (first_fault l.size.heads l.size.polls 0 [] l.entries ≡ fault_from l.size.heads l.size.polls l.entries l.entry)
    × (l.before ≡ floor (reverse (take l.entry l.entries)))
    × Falling (reverse (take l.entry l.entries))
    × ((h : ℕ) → h < most_heads → get_or l.stamps h 0 ≡ stamp h (reverse (take l.entry l.entries)))
    × (length l.stamps ≡ most_heads)
