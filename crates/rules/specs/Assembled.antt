-- What assembling comes to, in the words of formulas: exactly the lawful formula that the list spells. Assumes nothing.
use Rattle.std.specs.Prelude.{◌≡◌, ℕ, List, Ok}
use Rattle.formulas.specs.Formula.{Formula}
use Rattle.entries.specs.declared.entry.Entry.{Entry}
use Rattle.rules.specs.Assemble.{assemble}
use Rattle.rules.specs.Lawful.{Lawful}
use Rattle.rules.specs.Spelling.{Spells}

-- a list assembles to φ exactly when it spells φ and φ is lawful in the zone
pub record Assembled (zone : List ℕ) (es : List Entry) : Type 0 where
  pub spells : (φ : Formula) → assemble zone es ≡ Ok φ → Spells es φ
  pub lawful : (φ : Formula) → assemble zone es ≡ Ok φ → Lawful zone φ
  pub assembles : (φ : Formula) → Spells es φ → Lawful zone φ → assemble zone es ≡ Ok φ
