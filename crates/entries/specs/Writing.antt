-- How an entry writes an operation down: its kind's number, and a field for each value. Assumes nothing.
use Rattle.std.specs.Prelude.{◌≡◌, ℕ, ◌≤◌, pos, Some, unsigned_abs}
use Rattle.scales.specs.Limits.{sense_number}
use Rattle.entries.specs.Decode.{operation_of}
use Rattle.entries.specs.Operations.{OperationModel, HeadTest, ZoneTest, Not, Either, Both, Window}
use Rattle.entries.specs.declared.entry.Entry.{Entry}

-- the entry has the operation's kind, and its values in their fields; other fields are free
abbrev pub Writes : Entry → OperationModel → Type 0
Writes e (HeadTest h s l) = (e.kind ≡ 16) × (e.head ≡ h) × (e.sense ≡ sense_number s) × (e.limit ≡ l)
Writes e (ZoneTest k s l) = (e.kind ≡ 17) × (e.k ≡ k) × (e.sense ≡ sense_number s) × (e.limit ≡ l)
Writes e Not = e.kind ≡ 18
Writes e Either = e.kind ≡ 19
Writes e Both = e.kind ≡ 20
Writes e (Window a b p) = (e.kind ≡ 21) × (e.first ≡ a) × (e.last ≡ b) × (e.share ≡ p)

-- the values, head apart, are in range in a zone of so many heads
abbrev pub InRange : ℕ → OperationModel → Type 0
InRange heads (HeadTest h s l) = unsigned_abs l ≤ 1048576
InRange heads (ZoneTest k s l) = (1 ≤ k) × (k ≤ heads) × (unsigned_abs l ≤ 1048576)
InRange heads Not = Unit {0}
InRange heads Either = Unit {0}
InRange heads Both = Unit {0}
InRange heads (Window a b p) = (a ≤ b) × (b ≤ 1439) × (1 ≤ p) × (p ≤ 1000)

-- an entry stands for an operation exactly when it writes it and its values are in range
pub record Decoded (e : Entry) (heads : ℕ) : Type 0 where
  pub writes : (o : OperationModel) → operation_of e heads ≡ Some o → Writes e o
  pub in_range : (o : OperationModel) → operation_of e heads ≡ Some o → InRange heads o
  pub stands : (o : OperationModel) → Writes e o → InRange heads o → operation_of e heads ≡ Some o

-- the entry of a kind that has no field
abbrev pub plain_entry : ℕ → Entry
plain_entry kind = record { kind = kind; head = 0; k = 0; sense = 0; limit = pos 0; first = 0; last = 0; share = 0 }

-- the entry that writes an operation, with 0 in the fields that its kind does not have
abbrev pub entry_of : OperationModel → Entry
entry_of (HeadTest h s l) = record { kind = 16; head = h; k = 0; sense = sense_number s; limit = l; first = 0; last = 0; share = 0 }
entry_of (ZoneTest k s l) = record { kind = 17; head = 0; k = k; sense = sense_number s; limit = l; first = 0; last = 0; share = 0 }
entry_of Not = plain_entry 18
entry_of Either = plain_entry 19
entry_of Both = plain_entry 20
entry_of (Window a b p) = record { kind = 21; head = 0; k = 0; sense = 0; limit = pos 0; first = a; last = b; share = p }

-- the entry is the one that writes the operation, and stands for it wherever its values are in range
pub record Written (o : OperationModel) (e : Entry) : Type 0 where
  pub is : e ≡ entry_of o
  pub stands : (heads : ℕ) → InRange heads o → operation_of e heads ≡ Some o
