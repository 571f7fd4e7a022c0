-- How a refusal reads in C: numbers for the layer and for the place. Assumes nothing.
use Rattle.std.specs.Prelude.{ℕ, Some, None, Option}
use Rattle.faults.specs.declared.grounds.Ground.{Ground}
use Rattle.faults.specs.declared.layers.Layer.{Layer}
use Rattle.faults.specs.declared.layers.Layer.TheVariants.{Rule, Record, Log, Watch, Sheet}
use Rattle.faults.specs.declared.places.Place.{Place}
use Rattle.faults.specs.declared.places.Place.TheVariants.{Whole, Entry, Reading, Byte}
use Rattle.watches.specs.Faults.{watch_ground}
use Rattle.watches.specs.declared.refusals.WatchFault.{WatchFault}
use Rattle.firmware.specs.declared.refusals.Refusal.{Refusal}

-- the number that stands for a layer
abbrev pub layer_number : Layer → ℕ
layer_number Rule = 1
layer_number Record = 2
layer_number Log = 3
layer_number Watch = 4
layer_number Sheet = 5

-- nothing is refused: every number is 0
abbrev pub unrefused : Refusal
unrefused = record { number = 0; layer = 0; entry = 0; head = 0; poll = 0 }

-- what the place names, and 0 for the rest; firmware reads no sheet, so a byte is never named
abbrev pub refused_at : ℕ → ℕ → Place → Refusal
refused_at n l Whole = record { number = n; layer = l; entry = 0; head = 0; poll = 0 }
refused_at n l (Entry e) = record { number = n; layer = l; entry = e; head = 0; poll = 0 }
refused_at n l (Reading h p) = record { number = n; layer = l; entry = 0; head = h; poll = p }
refused_at n l (Byte b) = record { number = n; layer = l; entry = 0; head = 0; poll = 0 }

-- the refusal by a ground
abbrev pub refused : Ground → Refusal
refused g = refused_at g.number (layer_number g.layer) g.place

-- the refusal by a fault of a watch, where there is one
abbrev pub watch_refusal : Option WatchFault → Refusal
watch_refusal None = unrefused
watch_refusal (Some f) = refused (watch_ground f)
