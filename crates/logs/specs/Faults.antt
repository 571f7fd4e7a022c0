-- The number, the layer and the place of each fault of a log. Assumes nothing.
use Rattle.std.specs.Prelude.{ℕ}
use Rattle.faults.specs.declared.grounds.Ground.{Ground}
use Rattle.faults.specs.declared.layers.Layer.TheVariants as layer
use Rattle.faults.specs.declared.places.Place.TheVariants as place
use Rattle.records.specs.Faults.{record_ground}
use Rattle.logs.specs.declared.refusals.LogFault.{LogFault}
use Rattle.logs.specs.declared.refusals.LogFault.TheVariants.{Record, PollOutside, HeadOutside, PollFalls, HeadTwice}

-- ground 7: an entry of the log is at fault
abbrev pub ground_seven : ℕ → Ground
ground_seven entry = record { number = 7; layer = layer.Log; place = place.Entry entry }

-- the record's fault is carried whole
abbrev pub log_ground : LogFault → Ground
log_ground (Record fault) = record_ground fault
log_ground (PollOutside entry poll polls) = ground_seven entry
log_ground (HeadOutside entry head heads) = ground_seven entry
log_ground (PollFalls entry poll before) = ground_seven entry
log_ground (HeadTwice entry head poll) = ground_seven entry
