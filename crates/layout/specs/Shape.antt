-- The shape of a rule: what the layout of its cells, and a step, go by. Assumes nothing.
--     Shape         entries, how far each looks, the sizes of the parts, and the heads that are read
--     shape         the shape of a rule
--     offset        where the run of an entry begins
--     need          how many cells the layout takes
--     Lawful        what a step may rely on
use Rattle.std.specs.Prelude.{◌≡◌, ℕ, zero, suc, ◌+◌, ◌*◌, ◌<◌, ◌≤◌, Bool, true, cond, List, length}
use Rattle.std.specs.List.{All}
use Rattle.entries.specs.Heads.{head_total}
use Rattle.formulas.specs.Formula.{width, horizon, reads}
use Rattle.rules.specs.Needs.{zone_tested}
use Rattle.rules.specs.Nodes.{NodeModel, HeadTest, ZoneTest, Not, Either, Both, Window, window_width, node_of}
use Rattle.rules.specs.Rules.{listed, formula, part}
use Rattle.rules.specs.Rules as rules
use Rattle.rules.specs.declared.rule.Rule.{Rule}

pub record Shape : Type 0 where
  -- each entry, and how far its formula looks
  pub nodes : ℕ → NodeModel
  pub hz : ℕ → ℕ
  -- the size of a ring, and the number of entries
  pub ring : ℕ
  pub count : ℕ
  -- the heads of the zone, and the cells for their tests
  pub zone : List ℕ
  pub room : ℕ
  -- the heads that are read
  pub reads : ℕ → Bool

abbrev pub shape : Rule → Shape
shape r = record {
  nodes = λ i. node_of i (part r i);
  hz = λ i. horizon (part r i);
  ring = horizon (formula r) + 1;
  count = length (listed r);
  zone = rules.zone r;
  room = cond (zone_tested (formula r)) (length (rules.zone r)) 0;
  reads = λ h. reads (rules.zone r) (formula r) h;
}

-- the cells of an entry's run: a window has one for each of its polls
abbrev pub run_width : NodeModel → ℕ
run_width = window_width

-- the rings of all entries come first, then their runs
abbrev pub offset : Shape → ℕ → ℕ
offset sh zero = sh.count * sh.ring
offset sh (suc i) = offset sh i + run_width (sh.nodes i)

-- and the tests of the zone's heads last
abbrev pub need : Shape → ℕ
need sh = offset sh sh.count + sh.room

-- a head that a row has a reading of
abbrev pub Seen : Shape → ℕ → Type 0
Seen sh h = (h < head_total) × (sh.reads h ≡ true)

-- the operands of entry i come before it, that of a window right before it, and it looks as far as they make it
abbrev pub Fair : Shape → ℕ → NodeModel → Type 0
Fair sh i (HeadTest h s l) = Seen sh h × (sh.hz i ≡ 0)
Fair sh i (ZoneTest k s l) = All (Seen sh) sh.zone × (length sh.zone ≡ sh.room) × (1 ≤ k) × (k ≤ length sh.zone) × (sh.hz i ≡ 0)
Fair sh i (Not j) = (j < i) × (sh.hz j ≤ sh.hz i)
Fair sh i (Either j k) = (j < i) × (k < i) × (sh.hz j ≤ sh.hz i) × (sh.hz k ≤ sh.hz i)
Fair sh i (Both j k) = (j < i) × (k < i) × (sh.hz j ≤ sh.hz i) × (sh.hz k ≤ sh.hz i)
Fair sh i (Window j a b k) = (suc j ≡ i) × (a ≤ b) × (sh.hz i ≡ b + sh.hz j) × (1 ≤ k) × (k ≤ width a b)

pub record Lawful (sh : Shape) : Type 0 where
  pub some : 1 ≤ sh.count
  pub few : sh.count ≤ 24
  pub small : sh.ring ≤ 4096
  pub zoned : sh.room ≤ 32
  pub near : (i : ℕ) → i < sh.count → sh.hz i < sh.ring
  pub fair : (i : ℕ) → i < sh.count → Fair sh i (sh.nodes i)

-- a lawful shape, with enough cells lent
pub record Ready (sh : Shape) (lent : ℕ) : Type 0 where
  pub lawful : Lawful sh
  pub enough : need sh ≤ lent
