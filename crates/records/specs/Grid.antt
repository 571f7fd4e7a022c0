-- The record over a row of readings, poll by poll, and within a poll head by head. Assumes nothing.
use Rattle.std.specs.Prelude.{ℕ, ◌+◌, ◌*◌, Bool, cond, not, ◌&&◌, ◌||◌, List, length, is_some, Some, None, Option, ◌==◌}
use Rattle.std.specs.Option.{option_or}
use Rattle.std.specs.List.{slice_get}
use Rattle.records.specs.Model.{RecordModel, unless, table}
use Rattle.records.specs.Limits.{numbers_fault}
use Rattle.records.specs.declared.refusals.RecordFault.{RecordFault}
use Rattle.records.specs.declared.refusals.RecordFault.TheVariants.{ReadingsDoNotFill}

-- the fault of the numbers, then readings that are not heads × polls
abbrev pub grid_fault : ℕ → ℕ → ℕ → Option RecordFault
grid_fault heads polls readings =
    option_or (numbers_fault heads polls) (cond (readings == heads * polls) None (Some (ReadingsDoNotFill readings heads polls)))

-- head h reads at poll t what stands at t × heads + h; the empty record where the check refuses
abbrev pub grid_record : {T : Type 0} → ℕ → ℕ → List T → RecordModel T
grid_record heads polls xs = unless (grid_fault heads polls (length xs)) (table heads polls (λ h t. slice_get xs (t * heads + h)))

-- what a grid keeps of its numbers: they pass the check, or there are no heads and no polls
abbrev pub grid_kept : ℕ → ℕ → ℕ → Bool
grid_kept heads polls readings = not (is_some (grid_fault heads polls readings)) || (heads == 0 && polls == 0)
