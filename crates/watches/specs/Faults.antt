-- The number, the layer and the place of each fault of a watch. Assumes nothing.
use Rattle.std.specs.Prelude.{ℕ}
use Rattle.faults.specs.declared.grounds.Ground.{Ground}
use Rattle.faults.specs.declared.layers.Layer.TheVariants.{Watch}
use Rattle.faults.specs.declared.places.Place.TheVariants.{Whole, Reading}
use Rattle.watches.specs.declared.refusals.WatchFault.{WatchFault}
use Rattle.watches.specs.declared.refusals.WatchFault.TheVariants.{TooFewCells, Full, PastTheEnd, NoReading, Unlawful}

-- a ground against the whole call, and one against a reading
abbrev pub at_whole : ℕ → Ground
at_whole n = record { number = n; layer = Watch; place = Whole }

abbrev pub at_reading : ℕ → ℕ → ℕ → Ground
at_reading n head poll = record { number = n; layer = Watch; place = Reading head poll }

-- the fault of a reading, told at another poll
abbrev pub at_poll : ℕ → WatchFault → WatchFault
at_poll p (TooFewCells need lent) = TooFewCells need lent
at_poll p Full = Full
at_poll p (PastTheEnd poll horizon polls) = PastTheEnd poll horizon polls
at_poll p (NoReading head poll) = NoReading head p
at_poll p (Unlawful head poll) = Unlawful head p

abbrev pub watch_ground : WatchFault → Ground
watch_ground (TooFewCells need lent) = at_whole 8
watch_ground Full = at_whole 9
watch_ground (PastTheEnd poll horizon polls) = at_whole 10
watch_ground (NoReading head poll) = at_reading 11 head poll
watch_ground (Unlawful head poll) = at_reading 12 head poll
