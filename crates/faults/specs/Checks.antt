-- What a check answers, and what goes on after it. Assumes nothing.
use Rattle.std.specs.Prelude.{Some, None, Ok, Err, Option, Result}

-- the first fault, where there is one
abbrev pub checked : {Fault : Type 0} → Option Fault → Result (Unit {0}) Fault
checked None = Ok tt
checked (Some fault) = Err fault

-- what f makes of the result; the first fault ends it
abbrev pub on : {X Y Fault : Type 0} → Result X Fault → (X → Result Y Fault) → Result Y Fault
on (Ok x) f = f x
on (Err e) f = Err e
