-- How the faults of a sheet read. Assumes nothing.
use Rattle.std.specs.Prelude.{ℕ, cond, List, ◌++◌, Some, None, Option, ◌&&◌, nat_le, codes, decimal}
use Rattle.faults.specs.Texts.{ground_text, place_text}
use Rattle.entries.specs.declared.heads.TheConstants.{HEADS}
use Rattle.rules.specs.Faults.{rule_ground}
use Rattle.rules.specs.Texts.{rule_words}
use Rattle.rules.specs.declared.sizes.TheConstants.{ENTRIES, ZONE_HEADS}
use Rattle.sheets.specs.Faults.{sheet_ground}
use Rattle.sheets.specs.declared.fault.SheetFault.{SheetFault}
use Rattle.sheets.specs.declared.fault.SheetFault.TheVariants.{Size, NotASheet, RunsPast, Misplaced, ShortFields, BytesLeft, HeadTotal, NameLength, NameByte, HeadCount, HeadAboveTotal, HeadNotRising, HeadInTwoZones, ZoneNumberTwice, RuleNumberTwice, HeadInNoZone, TooManyGroups, TooManyZones, TooManyRules, TooManyFormulas, Rule, TooFewPlaces}
use Rattle.sheets.specs.declared.sizes.TheConstants.{GROUPS, NAME_BYTES, RULES, SHEET_BYTES, ZONES}

-- what is wrong, after the ground
abbrev pub sheet_words : SheetFault → List ℕ
sheet_words (Size n) = decimal n ++ (codes " bytes, where a sheet has 4 to " ++ decimal SHEET_BYTES)
sheet_words NotASheet = codes "the bytes are not one record of kind 1 that fills them"
sheet_words (RunsPast at) = codes "a record begins here that runs past the end of its holder"
sheet_words (Misplaced at kind) = codes "a record of kind " ++ (decimal kind ++ codes " may not stand here")
sheet_words (ShortFields at) = codes "the record is too short for its fields"
sheet_words (BytesLeft at) = codes "bytes are left over at the end of the record"
sheet_words (HeadTotal at n) = codes "a total of " ++ (decimal n ++ (codes " heads, where a card has 1 to " ++ decimal HEADS))
sheet_words (NameLength at n) = codes "a name of " ++ (decimal n ++ (codes " bytes, where a group's has 1 to " ++ decimal NAME_BYTES))
sheet_words (NameByte at b) = codes "the name has the byte " ++ (decimal b ++ codes ", which is no printable character")
sheet_words (HeadCount at n) = codes "a zone of " ++ (decimal n ++ (codes " heads, where a zone has 1 to " ++ decimal ZONE_HEADS))
sheet_words (HeadAboveTotal at h) = codes "its head " ++ (decimal h ++ codes " is not below the sheet's total")
sheet_words (HeadNotRising at h) = codes "its head " ++ (decimal h ++ codes " comes after one that is not lower")
sheet_words (HeadInTwoZones at h) = codes "its head " ++ (decimal h ++ codes " is in an earlier zone")
sheet_words (ZoneNumberTwice at n) = codes "an earlier zone has its number " ++ decimal n
sheet_words (RuleNumberTwice at n) = codes "an earlier rule has its number " ++ decimal n
sheet_words (HeadInNoZone h) = codes "head " ++ (decimal h ++ codes " is in no zone")
sheet_words (TooManyGroups at) = codes "a sheet has at most " ++ (decimal GROUPS ++ codes " groups")
sheet_words (TooManyZones at) = codes "a sheet has at most " ++ (decimal ZONES ++ codes " zones")
sheet_words (TooManyRules at) = codes "a sheet has at most " ++ (decimal RULES ++ codes " rules")
sheet_words (TooManyFormulas at) = codes "a rule has at most " ++ (decimal ENTRIES ++ codes " formulas")
sheet_words (Rule at f) = codes "the rule itself by " ++ (decimal (rule_ground f).number ++ (codes ", at " ++ (place_text (rule_ground f).place ++ (codes ": " ++ rule_words f))))
sheet_words (TooFewPlaces r n) = decimal r ++ (codes " rules, where there are " ++ (decimal n ++ codes " places"))

-- the words of a fault by a ground of these numbers; none of any other
abbrev pub words_by : ℕ → ℕ → SheetFault → Option (List ℕ)
words_by low high fault =
    cond (nat_le low (sheet_ground fault).number && nat_le (sheet_ground fault).number high) (Some (sheet_words fault)) None

abbrev pub sheet_fault_text : SheetFault → List ℕ
sheet_fault_text fault = ground_text (sheet_ground fault) ++ (codes ": " ++ sheet_words fault)
