-- The number, the layer and the place of each fault of a record. Assumes nothing.
use Rattle.faults.specs.declared.grounds.Ground.{Ground}
use Rattle.faults.specs.declared.layers.Layer.TheVariants as layer
use Rattle.faults.specs.declared.places.Place.TheVariants as place
use Rattle.records.specs.declared.refusals.RecordFault.{RecordFault}
use Rattle.records.specs.declared.refusals.RecordFault.TheVariants.{HeadsOutOfRange, TooManyPolls, ReadingsDoNotFill}

-- ground 6: the whole record is at fault
abbrev pub ground_six : Ground
ground_six = record { number = 6; layer = layer.Record; place = place.Whole }

abbrev pub record_ground : RecordFault → Ground
record_ground (HeadsOutOfRange heads) = ground_six
record_ground (TooManyPolls polls) = ground_six
record_ground (ReadingsDoNotFill readings heads polls) = ground_six
