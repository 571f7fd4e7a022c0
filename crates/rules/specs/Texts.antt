-- How the faults of a rule read. Assumes nothing.
use Rattle.std.specs.Prelude.{ℕ, List, ◌++◌, codes, decimal}
use Rattle.faults.specs.Texts.{ground_text}
use Rattle.rules.specs.Faults.{rule_ground}
use Rattle.rules.specs.declared.fault.RuleFault.{RuleFault}
use Rattle.rules.specs.declared.sizes.TheConstants.{ENTRIES, HORIZON, ZONE_HEADS}
use Rattle.rules.specs.declared.fault.RuleFault.TheVariants.{EntryCount, ZoneHeadCount, OutOfRange, HeadOutsideZone, TooFewFormulas, TooManyFormulas, HorizonTooFar}

-- what is wrong, after the ground
abbrev pub rule_words : RuleFault → List ℕ
rule_words (EntryCount count) = decimal count ++ (codes " entries, where a rule has 1 to " ++ decimal ENTRIES)
rule_words (ZoneHeadCount count) = codes "a zone of " ++ (decimal count ++ (codes " heads, where a rule's has 1 to " ++ decimal ZONE_HEADS))
rule_words (OutOfRange entry) = codes "its kind, or a field of its kind, is out of range"
rule_words (HeadOutsideZone entry head) = codes "its head " ++ (decimal head ++ codes " is not in the zone")
rule_words (TooFewFormulas entry) = codes "it takes more formulas than are left"
rule_words (TooManyFormulas entry) = codes "it is the last and leaves more than one formula"
rule_words (HorizonTooFar entry horizon) = codes "it looks " ++ (decimal horizon ++ (codes " polls ahead, where a rule looks at most " ++ decimal HORIZON))

abbrev pub rule_fault_text : RuleFault → List ℕ
rule_fault_text fault = ground_text (rule_ground fault) ++ (codes ": " ++ rule_words fault)
