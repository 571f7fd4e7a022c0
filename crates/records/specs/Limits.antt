-- What refuses a record for its numbers. Assumes nothing.
use Rattle.std.specs.Prelude.{ℕ, cond, ◌||◌, Some, None, Option, ◌==◌, nat_lt}
use Rattle.records.specs.Model.{most_heads, most_polls}
use Rattle.records.specs.declared.refusals.RecordFault.{RecordFault}
use Rattle.records.specs.declared.refusals.RecordFault.TheVariants.{HeadsOutOfRange, TooManyPolls}

-- heads 0 or above the most, then polls above the most
abbrev pub numbers_fault : ℕ → ℕ → Option RecordFault
numbers_fault heads polls =
    cond (heads == 0 || nat_lt most_heads heads) (Some (HeadsOutOfRange heads)) (cond (nat_lt most_polls polls) (Some (TooManyPolls polls)) None)
