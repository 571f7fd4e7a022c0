-- How a refusal reads: its layer, its place, and the whole. Assumes nothing.
use Rattle.std.specs.Prelude.{ℕ, List, ◌++◌, codes, decimal}
use Rattle.faults.specs.declared.layers.Layer.{Layer}
use Rattle.faults.specs.declared.layers.Layer.TheVariants.{Rule, Record, Log, Watch, Sheet}
use Rattle.faults.specs.declared.places.Place.{Place}
use Rattle.faults.specs.declared.places.Place.TheVariants.{Whole, Entry, Reading, Byte}
use Rattle.faults.specs.declared.grounds.Ground.{Ground}

abbrev pub layer_text : Layer → List ℕ
layer_text Rule = codes "rule"
layer_text Record = codes "record"
layer_text Log = codes "log"
layer_text Watch = codes "watch"
layer_text Sheet = codes "sheet"

abbrev pub place_text : Place → List ℕ
place_text Whole = codes "0"
place_text (Entry entry) = codes "entry " ++ decimal entry
place_text (Reading head poll) = codes "head " ++ (decimal head ++ (codes ", poll " ++ decimal poll))
place_text (Byte byte) = codes "byte " ++ decimal byte

-- as "refused by 7, log, at entry 3"
abbrev pub ground_text : Ground → List ℕ
ground_text g =
    codes "refused by " ++ (decimal g.number ++ (codes ", " ++ (layer_text g.layer ++ (codes ", at " ++ place_text g.place))))
