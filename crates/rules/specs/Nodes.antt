-- An entry of a rule with the entries of its operands. Assumes nothing.
--     node_of       the node of the formula that ends at an entry
--     node_by       the same from the entry's operation
--     Noded         a table has the nodes of the first entries
use Rattle.std.specs.Prelude.{◌≡◌, ℕ, ◌-◌, ◌<◌, List, ℤ, Ok, Err, Result, slice_index_or}
use Rattle.scales.specs.declared.limit.Sense.{Sense}
use Rattle.runs.specs.Rank.{rank}
use Rattle.formulas.specs.Formula.{Formula, head_test, zone_test, complement, either, both, window, width}
use Rattle.entries.specs.Operations.{OperationModel}
use Rattle.entries.specs.Operations as operation
use Rattle.entries.specs.declared.entry.Entry.{Entry}
use Rattle.rules.specs.Assemble.{newest}
use Rattle.rules.specs.Spans.{formula_at, no_line}
use Rattle.rules.specs.Spelling.{entries}
use Rattle.rules.specs.declared.fault.RuleFault.{RuleFault}
use Rattle.rules.specs.declared.line.Line.{Line}
use Rattle.rules.specs.declared.node.Node.{Node}
use Rattle.rules.specs.declared.node.Node.TheVariants as node

-- what a node means: its kind, with its values as whole numbers and its operands by their entries
pub data NodeModel : Type 0 where
  HeadTest : (head : ℕ) (sense : Sense) (limit : ℤ) → NodeModel
  ZoneTest : (k : ℕ) (sense : Sense) (limit : ℤ) → NodeModel
  Not : (of : ℕ) → NodeModel
  Either Both : (left right : ℕ) → NodeModel
  Window : (of first last rank : ℕ) → NodeModel

-- each case of a node, with its values
abbrev pub model : Node → NodeModel
model (node.HeadTest h t) = HeadTest h t.sense t.limit.value
model (node.ZoneTest k t) = ZoneTest k t.sense t.limit.value
model (node.Not j) = Not j
model (node.Either j k) = Either j k
model (node.Both j k) = Both j k
model (node.Window j a b k) = Window j a b k

-- the polls of a window; 0 of what is none
abbrev pub window_width : NodeModel → ℕ
window_width (HeadTest h s l) = 0
window_width (ZoneTest k s l) = 0
window_width (Not j) = 0
window_width (Either j k) = 0
window_width (Both j k) = 0
window_width (Window j a b k) = width a b

-- the formula that ends at entry i: its last operand ends at the entry before, the one before that where the last begins
abbrev pub node_of : ℕ → Formula → NodeModel
node_of i (head_test h s l) = HeadTest h s l
node_of i (zone_test k s l) = ZoneTest k s l
node_of i (complement φ) = Not (i - 1)
node_of i (either φ ψ) = Either (i - 1 - entries ψ) (i - 1)
node_of i (both φ ψ) = Both (i - 1 - entries ψ) (i - 1)
node_of i (window a b p φ) = Window (i - 1) a b (rank p (width a b))

-- the same from the operation, and from the number of entries of the formula before it
abbrev pub node_by : ℕ → ℕ → OperationModel → NodeModel
node_by i m (operation.HeadTest h s l) = HeadTest h s l
node_by i m (operation.ZoneTest k s l) = ZoneTest k s l
node_by i m operation.Not = Not (i - 1)
node_by i m operation.Either = Either (i - 1 - m) (i - 1)
node_by i m operation.Both = Both (i - 1 - m) (i - 1)
node_by i m (operation.Window a b p) = Window (i - 1) a b (rank p (width a b))

-- the node of the newest formula, at entry i
abbrev pub noded : ℕ → Result (List Formula) RuleFault → Result NodeModel RuleFault
noded i (Ok st) = Ok (node_of i (newest st))
noded i (Err f) = Err f

-- t has the node of the formula that ends at each of the first n entries
abbrev pub Noded : List ℕ → List Entry → List Line → ℕ → Type 0
Noded zone es t n = (k : ℕ) → k < n → model (slice_index_or t k no_line).node ≡ node_of k (formula_at zone es k)
