-- What the cells hold for each entry once n rows are taken. Assumes nothing.
--     Wanted        want i p is the margin of entry i at poll p, by those of its operands
--     Slot          the ring of an entry, and its run if it is a window
--     Mixed         a step is done for the first entries, and not yet for the others
use Rattle.std.specs.Prelude.{◌≡◌, ℕ, ◌+◌, ◌-◌, ◌*◌, ◌<◌, ◌≤◌, min, ◌≢◌, List, map, length, drop, ℤ, neg_ℤ}
use Rattle.std.specs.Int.{int_max, int_min}
use Rattle.formulas.specs.Formula.{width}
use Rattle.formulas.specs.Margin.{Signal, test, polls}
use Rattle.runs.specs.Highest.{kth}
use Rattle.rules.specs.Nodes.{NodeModel, HeadTest, ZoneTest, Not, Either, Both, Window}
use Rattle.layout.specs.Cells.{Ring, Run}
use Rattle.layout.specs.Shape.{Shape, offset, need}

-- f is the margin of a node at each poll of the signal x
abbrev pub Wants : (ℤ → ℤ) → List ℕ → Signal → (ℕ → ℕ → ℤ) → (ℕ → ℤ) → NodeModel → Type 0
Wants mark zone x want f (HeadTest h s l) = (p : ℕ) → f p ≡ test mark s l (x p h)
Wants mark zone x want f (ZoneTest k s l) = (p : ℕ) → f p ≡ kth k (map (λ h. test mark s l (x p h)) zone)
Wants mark zone x want f (Not j) = (p : ℕ) → f p ≡ neg_ℤ (want j p)
Wants mark zone x want f (Either j k) = (p : ℕ) → f p ≡ int_max (want j p) (want k p)
Wants mark zone x want f (Both j k) = (p : ℕ) → f p ≡ int_min (want j p) (want k p)
Wants mark zone x want f (Window j a b k) = (p : ℕ) → f p ≡ kth k (map (want j) (polls (p + a) (width a b)))

abbrev pub Wanted : (ℤ → ℤ) → Shape → Signal → (ℕ → ℕ → ℤ) → Type 0
Wanted mark sh x want = (i : ℕ) → i < sh.count → Wants mark sh.zone x want (want i) (sh.nodes i)

-- a window's run has the latest margins of its formula, at most as many as the window has polls
abbrev pub RunOf : {M : Type 0} → (M → ℤ) → (ℕ → ℕ → ℤ) → (ℕ → ℕ) → ℕ → ℕ → List M → NodeModel → Type 0
RunOf whole want hz n from cells (HeadTest h s l) = Unit {0}
RunOf whole want hz n from cells (ZoneTest k s l) = Unit {0}
RunOf whole want hz n from cells (Not j) = Unit {0}
RunOf whole want hz n from cells (Either j k) = Unit {0}
RunOf whole want hz n from cells (Both j k) = Unit {0}
RunOf whole want hz n from cells (Window j a b k) = Run whole (want j) from (width a b) (min (width a b) (n - hz j)) (n - hz j) cells

abbrev pub RingOf : {M : Type 0} → Shape → (M → ℤ) → (ℕ → ℕ → ℤ) → ℕ → ℕ → List M → Type 0
RingOf sh whole want n i cells = Ring whole (want i) (sh.hz i) sh.ring (i * sh.ring) n cells

-- entry i once n rows are taken
pub record Slot {M : Type 0} (sh : Shape) (whole : M → ℤ) (want : ℕ → ℕ → ℤ) (n i : ℕ) (cells : List M) : Type 0 where
  pub ring : RingOf sh whole want n i cells
  pub run : RunOf whole want sh.hz n (offset sh i) cells (sh.nodes i)

-- all entries
abbrev pub Slots : {M : Type 0} → Shape → (M → ℤ) → (ℕ → ℕ → ℤ) → ℕ → List M → Type 0
Slots sh whole want n cells = (i : ℕ) → i < sh.count → Slot sh whole want n i cells

-- the entries below i have taken the row n, the others have not
pub record Mixed {M : Type 0} (sh : Shape) (whole : M → ℤ) (want : ℕ → ℕ → ℤ) (n i : ℕ) (cells : List M) : Type 0 where
  pub done : (j : ℕ) → j < i → j < sh.count → Slot sh whole want (n + 1) j cells
  pub todo : (j : ℕ) → i ≤ j → j < sh.count → Slot sh whole want n j cells

-- a call for entry i leaves the others, and the cells behind the need
pub record Leaves {M : Type 0} (sh : Shape) (whole : M → ℤ) (i : ℕ) (cells cells' : List M) : Type 0 where
  pub long : length cells' ≡ length cells
  pub behind : drop (need sh) cells' ≡ drop (need sh) cells
  pub others : (want : ℕ → ℕ → ℤ) (n j : ℕ) → j < sh.count → j ≢ i → Slot sh whole want n j cells → Slot sh whole want n j cells'
