-- The number, the layer and the place of each fault of a sheet. Assumes nothing.
use Rattle.std.specs.Prelude.{ℕ}
use Rattle.faults.specs.declared.grounds.Ground.{Ground}
use Rattle.faults.specs.declared.layers.Layer.TheVariants.{Sheet}
use Rattle.faults.specs.declared.places.Place.TheVariants.{Whole, Byte}
use Rattle.sheets.specs.declared.fault.SheetFault.{SheetFault}
use Rattle.sheets.specs.declared.fault.SheetFault.TheVariants.{Size, NotASheet, RunsPast, Misplaced, ShortFields, BytesLeft, HeadTotal, NameLength, NameByte, HeadCount, HeadAboveTotal, HeadNotRising, HeadInTwoZones, ZoneNumberTwice, RuleNumberTwice, HeadInNoZone, TooManyGroups, TooManyZones, TooManyRules, TooManyFormulas, Rule, TooFewPlaces}

-- ground n against the whole sheet
abbrev pub at_whole : ℕ → Ground
at_whole n = record { number = n; layer = Sheet; place = Whole }

-- ground n at the byte where a record begins or would begin
abbrev pub at_byte : ℕ → ℕ → Ground
at_byte n at = record { number = n; layer = Sheet; place = Byte at }

abbrev pub sheet_ground : SheetFault → Ground
sheet_ground (Size n) = at_whole 13
sheet_ground NotASheet = at_whole 13
sheet_ground (RunsPast at) = at_byte 14 at
sheet_ground (Misplaced at k) = at_byte 15 at
sheet_ground (ShortFields at) = at_byte 16 at
sheet_ground (BytesLeft at) = at_byte 16 at
sheet_ground (HeadTotal at n) = at_byte 17 at
sheet_ground (NameLength at n) = at_byte 17 at
sheet_ground (NameByte at b) = at_byte 17 at
sheet_ground (HeadCount at n) = at_byte 17 at
sheet_ground (HeadAboveTotal at h) = at_byte 18 at
sheet_ground (HeadNotRising at h) = at_byte 18 at
sheet_ground (HeadInTwoZones at h) = at_byte 18 at
sheet_ground (ZoneNumberTwice at n) = at_byte 18 at
sheet_ground (RuleNumberTwice at n) = at_byte 18 at
sheet_ground (HeadInNoZone h) = at_whole 18
sheet_ground (TooManyGroups at) = at_byte 19 at
sheet_ground (TooManyZones at) = at_byte 19 at
sheet_ground (TooManyRules at) = at_byte 19 at
sheet_ground (TooManyFormulas at) = at_byte 19 at
sheet_ground (Rule at f) = at_byte 20 at
sheet_ground (TooFewPlaces r n) = at_whole 21
