-- The rule and the grid that C lends as numbers. Assumes nothing.
use Rattle.std.specs.Prelude.{◌≡◌, ℕ, List, Ok, Err, Result}
use Rattle.entries.specs.declared.entry.Entry.{Entry}
use Rattle.rules.specs.Assemble.{assemble}
use Rattle.rules.specs.Faults.{rule_ground}
use Rattle.rules.specs.Rules.{zone, formula, listed}
use Rattle.rules.specs.declared.fault.RuleFault.{RuleFault}
use Rattle.rules.specs.declared.rule.Rule.{Rule}
use Rattle.firmware.specs.Refusals.{refused}
use Rattle.firmware.specs.declared.refusals.Refusal.{Refusal}

-- the rule that the entries make in a zone, or the refusal of it
abbrev pub RuleOf : List ℕ → List Entry → Result Rule Refusal → Type 0
RuleOf hs es (Ok rule) = (assemble hs es ≡ Ok (formula rule)) × (zone rule ≡ hs) × (listed rule ≡ es)
RuleOf hs es (Err r) = (f : RuleFault) × (assemble hs es ≡ Err f) × (r ≡ refused (rule_ground f))
