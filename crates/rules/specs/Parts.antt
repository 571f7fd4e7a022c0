-- What is known of every rule, and of the formula that ends at each of its entries. Assumes nothing.
--     Operands      it is made of the formulas at its operands' entries
--     Part          a formula at an entry keeps within the whole
--     Whole         a rule's entries spell its formula, which is lawful
use Rattle.std.specs.Prelude.{◌≡◌, ℕ, ◌-◌, ◌<◌, ◌≤◌, true}
use Rattle.formulas.specs.Formula.{Formula, head_test, zone_test, complement, either, both, window, horizon, reads}
use Rattle.rules.specs.Lawful.{Ranged, Lawful}
use Rattle.rules.specs.Needs.{widths, widths_to}
use Rattle.rules.specs.Rules.{listed, zone, formula, part}
use Rattle.rules.specs.Spelling.{entries, Spells}
use Rattle.rules.specs.declared.rule.Rule.{Rule}

-- f tells the formula that ends at each entry: that of entry i is made of those at its operands
abbrev pub Operands : (ℕ → Formula) → ℕ → Formula → Type 0
Operands f i (head_test h s l) = Unit {0}
Operands f i (zone_test k s l) = Unit {0}
Operands f i (complement φ) = (0 < i) × (f (i - 1) ≡ φ)
Operands f i (either φ ψ) = (entries ψ < i) × (f (i - 1) ≡ ψ) × (f (i - 1 - entries ψ) ≡ φ)
Operands f i (both φ ψ) = (entries ψ < i) × (f (i - 1) ≡ ψ) × (f (i - 1 - entries ψ) ≡ φ)
Operands f i (window a b p φ) = (0 < i) × (f (i - 1) ≡ φ)

pub record Part (r : Rule) (i : ℕ) : Type 0 where
  pub operands : Operands (part r) i (part r i)
  pub ranged : Ranged (zone r) (part r i)
  -- it looks no further than the whole, and reads no other heads
  pub near : horizon (part r i) ≤ horizon (formula r)
  pub reads_on : (h : ℕ) → reads (zone r) (part r i) h ≡ true → reads (zone r) (formula r) h ≡ true

pub record Whole (r : Rule) : Type 0 where
  pub spells : Spells (listed r) (formula r)
  pub lawful : Lawful (zone r) (formula r)
  -- the last entry's formula is the rule's
  pub last : part r (r.lines.count - 1) ≡ formula r
  -- the windows at its entries are those of the formula
  pub windows : widths_to (part r) r.lines.count ≡ widths (formula r)
