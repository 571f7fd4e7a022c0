-- What an operation means: its kind, with its values as whole numbers. Assumes nothing.
use Rattle.std.specs.Prelude.{ℕ, ℤ}
use Rattle.scales.specs.declared.limit.Sense.{Sense}
use Rattle.entries.specs.declared.operation.Operation.{Operation}
use Rattle.entries.specs.declared.operation.Operation.TheVariants as operation

pub data OperationModel : Type 0 where
  HeadTest : (head : ℕ) (sense : Sense) (limit : ℤ) → OperationModel
  ZoneTest : (k : ℕ) (sense : Sense) (limit : ℤ) → OperationModel
  Not Either Both : OperationModel
  Window : (first last share : ℕ) → OperationModel

-- each case of an operation, with its values
abbrev pub model : Operation → OperationModel
model (operation.HeadTest h t) = HeadTest h t.sense t.limit.value
model (operation.ZoneTest k t) = ZoneTest k t.sense t.limit.value
model operation.Not = Not
model operation.Either = Either
model operation.Both = Both
model (operation.Window a b p) = Window a b p
