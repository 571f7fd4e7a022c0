-- The number, the layer and the place of each fault of a rule. Assumes nothing.
use Rattle.std.specs.Prelude.{ℕ}
use Rattle.faults.specs.declared.grounds.Ground.{Ground}
use Rattle.faults.specs.declared.layers.Layer.TheVariants.{Rule}
use Rattle.faults.specs.declared.places.Place.TheVariants.{Entry}
use Rattle.rules.specs.declared.fault.RuleFault.TheVariants.{EntryCount, ZoneHeadCount, OutOfRange, HeadOutsideZone, TooFewFormulas, TooManyFormulas, HorizonTooFar}
use Rattle.rules.specs.declared.fault.RuleFault.{RuleFault}

-- ground n at an entry of the rule
abbrev pub at_entry : ℕ → ℕ → Ground
at_entry n e = record { number = n; layer = Rule; place = Entry e }

abbrev pub rule_ground : RuleFault → Ground
rule_ground (EntryCount n) = at_entry 1 0
rule_ground (ZoneHeadCount n) = at_entry 1 0
rule_ground (OutOfRange e) = at_entry 2 e
rule_ground (HeadOutsideZone e h) = at_entry 3 e
rule_ground (TooFewFormulas e) = at_entry 4 e
rule_ground (TooManyFormulas e) = at_entry 4 e
rule_ground (HorizonTooFar e h) = at_entry 5 e
