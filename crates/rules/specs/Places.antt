-- What a rule place stands for. Assumes nothing.
use Rattle.std.specs.Prelude.{◌≡◌, ℕ, cond, List, [], ◌∷◌, take, pos, Ok, Err, Result, nat_le}
use Rattle.formulas.specs.Formula.{Formula}
use Rattle.entries.specs.Heads.{heads}
use Rattle.entries.specs.declared.entry.Entry.{Entry}
use Rattle.rules.specs.Assemble.{assemble, starting}
use Rattle.rules.specs.Rules.{zone, formula}
use Rattle.rules.specs.declared.fault.RuleFault.{RuleFault}
use Rattle.rules.specs.declared.place.RulePlace.{RulePlace}
use Rattle.rules.specs.declared.rule.Rule.{Rule}
use Rattle.rules.specs.declared.sizes.TheConstants.{ENTRIES}

-- a row that claims more entries than it has room for holds none
abbrev pub held : RulePlace → List Entry
held p = cond (nat_le p.count ENTRIES) (take p.count p.entries) []

-- the starting rule's entry: head 0 at least 0
abbrev pub start_entry : Entry
start_entry = record { kind = 16; head = 0; k = 0; sense = 0; limit = pos 0; first = 0; last = 0; share = 0 }

-- a formula with its zone's heads; the starting rule's where a ground refuses
abbrev pub or_starting : List ℕ → Result Formula RuleFault → Formula × List ℕ
or_starting gs (Ok φ) = (φ, gs)
or_starting gs (Err f) = (starting, 0 ∷ [])

-- what the row's rule means
abbrev pub place_means : RulePlace → Formula × List ℕ
place_means p = or_starting (heads p.zone.bits) (assemble (heads p.zone.bits) (held p))

abbrev pub means : Rule → Formula × List ℕ
means r = (formula r, zone r)

-- the row has these numbers of rule and zone
abbrev pub Numbered : RulePlace → ℕ → ℕ → Type 0
Numbered p r z = (p.rule_number ≡ r) × (p.zone_number ≡ z)

-- the row holds the starting rule, under the numbers 0
abbrev pub Fresh : RulePlace → Type 0
Fresh p = (place_means p ≡ (starting, 0 ∷ [])) × (held p ≡ start_entry ∷ []) × Numbered p 0 0
