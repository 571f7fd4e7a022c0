-- When the work ends with a refused row. Assumes nothing.
use Rattle.std.specs.Prelude.{◌≡◌, Some, None, Ok, Err, Option, Result}
use Rattle.watches.specs.declared.refusals.WatchFault.{WatchFault}
use Rattle.desk.specs.declared.trouble.Trouble.{Trouble}
use Rattle.desk.specs.declared.trouble.Trouble.TheVariants.{Refused, Memory, Output}

-- the work is done only where no row is refused, and a refusal that it tells is the first one; memory may end at any time, and
-- output is wanting only where that may stop it
abbrev pub TellsFirst : {A : Type 0} → (Trouble → Type 0) → Option WatchFault → Result A Trouble → Type 0
TellsFirst stops first (Ok x) = first ≡ None
TellsFirst stops first (Err (Refused fault)) = first ≡ Some fault
TellsFirst stops first (Err Memory) = Unit {0}
TellsFirst stops first (Err Output) = stops Output

-- what holds where a row is refused
abbrev pub OnRefused : {A : Type 0} → Result A Trouble → Type 0 → Type 0
OnRefused (Ok x) P = Unit {0}
OnRefused (Err (Refused fault)) P = P
OnRefused (Err Memory) P = Unit {0}
OnRefused (Err Output) P = Unit {0}

-- it lies outside the record
abbrev pub IsOutside : Trouble → Type 0
IsOutside (Refused fault) = ⊥
IsOutside Memory = Unit {0}
IsOutside Output = Unit {0}

-- nothing stops it
abbrev pub IsNothing : Trouble → Type 0
IsNothing trouble = ⊥

-- it is want of memory
abbrev pub IsMemory : Trouble → Type 0
IsMemory (Refused fault) = ⊥
IsMemory Memory = Unit {0}
IsMemory Output = ⊥

-- it is want of a place to write to
abbrev pub IsOutput : Trouble → Type 0
IsOutput (Refused fault) = ⊥
IsOutput Memory = ⊥
IsOutput Output = Unit {0}
