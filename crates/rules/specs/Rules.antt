-- What a rule stands for: its entries, the heads of its zone, and its formula. Assumes nothing.
use Rattle.std.specs.Prelude.{ℕ, cond, List, Some, None, Ok, Err, Option, Result, nat_lt}
use Rattle.formulas.specs.Formula.{Formula, horizon}
use Rattle.entries.specs.Heads.{heads}
use Rattle.entries.specs.declared.entry.Entry.{Entry}
use Rattle.rules.specs.Assemble.{formula_of}
use Rattle.rules.specs.Lines as lines
use Rattle.rules.specs.Nodes.{NodeModel, node_of}
use Rattle.rules.specs.Spans.{formula_at}
use Rattle.rules.specs.declared.fault.RuleFault.{RuleFault}
use Rattle.rules.specs.declared.rule.Rule.{Rule}

abbrev pub listed : Rule → List Entry
listed r = lines.listed r.lines

-- the heads of its zone, rising
abbrev pub zone : Rule → List ℕ
zone r = heads r.zone.bits

abbrev pub formula : Rule → Formula
formula r = formula_of (zone r) (listed r)

-- the formula that ends at entry i
abbrev pub part : Rule → ℕ → Formula
part r i = formula_at (zone r) (listed r) i

-- how far the formula of entry i looks; none past the last entry
abbrev pub horizon_at : Rule → ℕ → Option ℕ
horizon_at r i = cond (nat_lt i r.lines.count) (Some (horizon (part r i))) None

-- the node of entry i; none past the last entry
abbrev pub node_at : Rule → ℕ → Option NodeModel
node_at r i = cond (nat_lt i r.lines.count) (Some (node_of i (part r i))) None

-- the formula of a rule that was made, or why there is none
abbrev pub made : Result Rule RuleFault → Result Formula RuleFault
made (Ok r) = Ok (formula r)
made (Err f) = Err f
