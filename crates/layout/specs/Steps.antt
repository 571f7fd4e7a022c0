-- What each part of a step does. Assumes nothing.
--     Back          a margin read from a ring
--     Oldest        the margin that leaves a full window
--     TakenIn       a window with the newest margin of its formula
--     WorkedOut     the margin of an entry
--     Entered       the step done for one entry
--     AllEntered    the step done for all
use Rattle.std.specs.Prelude.{◌≡◌, ℕ, suc, ◌+◌, ◌-◌, ◌<◌, ◌≤◌, Bool, true, List, map, length, take, drop, ℤ, Some, None, Option}
use Rattle.std.specs.Option.{option_map}
use Rattle.entries.specs.Heads.{head_total}
use Rattle.records.specs.Model.{RecordModel}
use Rattle.scales.specs.Model.{ScaleModel}
use Rattle.scales.specs.declared.limit.Sense.{Sense}
use Rattle.formulas.specs.Formula.{width}
use Rattle.formulas.specs.Margin.{Signal, test}
use Rattle.runs.specs.Highest.{kth}
use Rattle.rules.specs.Nodes.{NodeModel, HeadTest, ZoneTest, Not, Either, Both, Window}
use Rattle.layout.specs.Cells.{Outside}
use Rattle.layout.specs.Shape.{Shape, offset, need}
use Rattle.layout.specs.Slots.{Wanted, RunOf, RingOf, Slot, Slots, Leaves}

-- r is the margin at the place of row s in the ring of entry j
abbrev pub Back : {M : Type 0} → Shape → (M → ℤ) → ℕ → ℕ → List M → M → Type 0
Back sh whole s j cells r = (want : ℕ → ℕ → ℤ) (n p : ℕ) → RingOf sh whole want n j cells → s ≡ p + sh.hz j → s < n → n ≤ s + sh.ring → whole r ≡ want j p

-- what leaves a window as it takes the row n: its formula's oldest margin where it is full, none where it is not
abbrev pub Oldest : {M : Type 0} → (M → ℤ) → (ℕ → ℕ → ℤ) → (ℕ → ℕ) → ℕ → NodeModel → Option M → Type 0
Oldest whole want hz n (HeadTest h s l) o = Unit {0}
Oldest whole want hz n (ZoneTest k s l) o = Unit {0}
Oldest whole want hz n (Not j) o = Unit {0}
Oldest whole want hz n (Either j k) o = Unit {0}
Oldest whole want hz n (Both j k) o = Unit {0}
Oldest whole want hz n (Window j a b k) None = n < hz j + width a b
Oldest whole want hz n (Window j a b k) (Some old) = (hz j + width a b ≤ n) × (whole old ≡ want j (n - hz j - width a b))

-- o leaves the window at entry i, by what the ring of its formula holds
abbrev pub Leaving : {M : Type 0} → Shape → (M → ℤ) → ℕ → ℕ → List M → Option M → Type 0
Leaving sh whole n i cells o = (want : ℕ → ℕ → ℤ) → ((j : ℕ) → suc j ≡ i → RingOf sh whole want n j cells) → Oldest whole want sh.hz n (sh.nodes i) o

-- the window at entry i, if it is one, takes in the margin of its formula that the row n worked out, and lets o go
pub record TakenIn {M : Type 0} (sh : Shape) (whole : M → ℤ) (n i : ℕ) (o : Option M) (cells cells' : List M) : Type 0 where
  pub leaves : Leaves sh whole i cells cells'
  pub ring : (want : ℕ → ℕ → ℤ) (k j : ℕ) → j < sh.count → RingOf sh whole want k j cells → RingOf sh whole want k j cells'
  pub run : (want : ℕ → ℕ → ℤ) → ((j : ℕ) → j < i → RingOf sh whole want (n + 1) j cells) → Oldest whole want sh.hz n (sh.nodes i) o
      → RunOf whole want sh.hz n (offset sh i) cells (sh.nodes i) → RunOf whole want sh.hz (n + 1) (offset sh i) cells' (sh.nodes i)

-- a row as a record gives it: the reading of each head, or none
abbrev pub Readings : Type 0 → Type 0
Readings Reading = ℕ → Option Reading

-- the readings of a record at a poll
abbrev pub row_at : {Reading : Type 0} → RecordModel Reading → ℕ → Readings Reading
row_at rm poll head = rm.at head poll

-- the steps of a reading, if it is there and lawful
abbrev pub steps_of : {Reading M : Type 0} → ScaleModel Reading M → Option Reading → Option ℤ
steps_of sm None = None
steps_of sm (Some x) = sm.steps x

-- the row's readings stand for the steps y, at the heads that are read
abbrev pub Lit : {Reading M : Type 0} → ScaleModel Reading M → Shape → Readings Reading → (ℕ → ℤ) → Type 0
Lit sm sh row y = (h : ℕ) → h < head_total → sh.reads h ≡ true → steps_of sm (row h) ≡ Some (y h)

-- the whole number of the margin of a test in a row
abbrev pub row_test : {Reading M : Type 0} → ScaleModel Reading M → Option Reading → Sense → ℤ → Option ℤ
row_test sm o s l = option_map (test sm.mark s l) (steps_of sm o)

-- r is the margin of entry i that the row n works out
pub record WorkedOut {Reading M : Type 0} (sm : ScaleModel Reading M) (sh : Shape) (row : Readings Reading) (n i : ℕ) (cells cells' : List M) (r : Option M) : Type 0 where
  pub outside : Outside (offset sh sh.count) (need sh) cells cells'
  pub margin : (x : Signal) (want : ℕ → ℕ → ℤ) → Wanted sm.mark sh x want → Lit sm sh row (x n) → ((j : ℕ) → j < i → RingOf sh sm.whole want (n + 1) j cells)
      → RunOf sm.whole want sh.hz (n + 1) (offset sh i) cells (sh.nodes i) → option_map sm.whole r ≡ Some (want i (n - sh.hz i))

-- entry i has taken the row n, and let o go if it is a window
pub record Entered {Reading M : Type 0} (sm : ScaleModel Reading M) (sh : Shape) (row : Readings Reading) (n i : ℕ) (o : Option M) (cells cells' : List M) : Type 0 where
  pub leaves : Leaves sh sm.whole i cells cells'
  pub own : (x : Signal) (want : ℕ → ℕ → ℤ) → Wanted sm.mark sh x want → Lit sm sh row (x n) → ((j : ℕ) → j < i → RingOf sh sm.whole want (n + 1) j cells)
      → Oldest sm.whole want sh.hz n (sh.nodes i) o → Slot sh sm.whole want n i cells → Slot sh sm.whole want (n + 1) i cells'

-- the margins of the zone's first n heads lie in the cells
abbrev pub Tested : {Reading M : Type 0} → ScaleModel Reading M → Shape → Readings Reading → Sense → ℤ → ℕ → List M → Type 0
Tested sm sh row s l n cells = (y : ℕ → ℤ) → Lit sm sh row y → map sm.whole (take n cells) ≡ map (λ h. test sm.mark s l (y h)) (take n sh.zone)

-- and those of all, if the answer is yes, as it is where the row has the readings
pub record AllTested {Reading M : Type 0} (sm : ScaleModel Reading M) (sh : Shape) (row : Readings Reading) (s : Sense) (l : ℤ) (cells : List M) (r : Bool) : Type 0 where
  pub lit : (y : ℕ → ℤ) → Lit sm sh row y → r ≡ true
  pub tested : r ≡ true → Tested sm sh row s l (length sh.zone) cells

-- the margins of the zone's heads lie in the cells from `from` on, and r is the K-th highest
pub record Zoned {Reading M : Type 0} (sm : ScaleModel Reading M) (sh : Shape) (row : Readings Reading) (k : ℕ) (s : Sense) (l : ℤ) (from : ℕ) (cells cells' : List M) (r : Option M) : Type 0 where
  pub outside : Outside from (from + length sh.zone) cells cells'
  pub margin : (y : ℕ → ℤ) → Lit sm sh row y → option_map sm.whole r ≡ Some (kth k (map (λ h. test sm.mark s l (y h)) sh.zone))

-- every entry has taken the row n
pub record AllEntered {Reading M : Type 0} (sm : ScaleModel Reading M) (sh : Shape) (row : Readings Reading) (n : ℕ) (cells cells' : List M) : Type 0 where
  pub long : length cells' ≡ length cells
  pub behind : drop (need sh) cells' ≡ drop (need sh) cells
  pub slots : (x : Signal) (want : ℕ → ℕ → ℤ) → Wanted sm.mark sh x want → Lit sm sh row (x n) → Slots sh sm.whole want n cells → Slots sh sm.whole want (n + 1) cells'
