-- What is known of the parts of every rule. Assumes nothing.
use Rattle.std.specs.Prelude.{◌≡◌, ℕ, Bool, List}
use Rattle.formulas.specs.Formula.{among, reads}
use Rattle.rules.specs.Assemble.{formula_of}
use Rattle.rules.specs.Needs.{need, zone_tested}
use Rattle.entries.specs.declared.entry.Entry.{Entry}

-- the heads read are those that the formula reads
abbrev pub Read : List ℕ → List Entry → List ℕ → Type 0
Read zone es read = (h : ℕ) → among h read ≡ reads zone (formula_of zone es) h

abbrev pub Needed : List ℕ → List Entry → ℕ → Type 0
Needed zone es n = n ≡ need zone (formula_of zone es)

abbrev pub Tested : List ℕ → List Entry → Bool → Type 0
Tested zone es b = b ≡ zone_tested (formula_of zone es)
