-- What putting in and taking out leave in the cells of a run. Assumes nothing.
use Rattle.std.specs.Prelude.{◌≡◌, ℕ, zero, suc, ◌+◌, ◌-◌, ◌≤◌, Bool, true, false, List, map, length, take, drop, ℤ, Some, None, Option, nat_lt, slice_get}
use Rattle.runs.specs.Highest.{hit, above}
use Rattle.runs.specs.Order.{Descending, Added, Taken, Exchanged, copies}

-- the whole numbers of the first n cells
abbrev pub wholes : {M : Type 0} → (M → ℤ) → ℕ → List M → List ℤ
wholes whole n cells = map whole (take n cells)

-- the first `used` of the cells are margins that lie highest first
pub record InOrder {M : Type 0} (whole : M → ℤ) (used : ℕ) (cells : List M) : Type 0 where
  pub within : used ≤ length cells
  pub falls : Descending (wholes whole used cells)

-- m was to be put into the first `used` of the cells: no exactly if they are all used, and then nothing changes
pub record PutIn {M : Type 0} (whole : M → ℤ) (used : ℕ) (before after : List M) (m : M) (put : Bool) : Type 0 where
  pub told : put ≡ nat_lt used (length before)
  pub long : length after ≡ length before
  pub refused : put ≡ false → after ≡ before
  pub behind : drop (used + 1) after ≡ drop (used + 1) before
  pub keeps : put ≡ true → InOrder whole used before → Added (whole m) (wholes whole used before) (wholes whole (used + 1) after)

-- one margin of the whole number of m was to be taken out of the first `used` of the cells; where none was found nothing
-- changes, and the cells behind those still kept never do
pub record TakenOut {M : Type 0} (whole : M → ℤ) (used : ℕ) (before after : List M) (m : M) (found : Bool) : Type 0 where
  pub some : hit found ≤ used
  pub long : length after ≡ length before
  pub refused : found ≡ false → after ≡ before
  pub behind : drop (used - hit found) after ≡ drop (used - hit found) before
  pub keeps : InOrder whole used before → Taken (whole m) found (wholes whole used before) (wholes whole (used - hit found) after)

-- a margin of the whole number of m stands at this place, behind those above it
pub record FoundAt {M : Type 0} (whole : M → ℤ) (margins : List M) (m : M) (at : ℕ) : Type 0 where
  pub place : Descending (map whole margins) → at ≡ above (whole m) (map whole margins)
  pub same : slice_get (map whole margins) at ≡ Some (whole m)

-- none of the margins, if they lie highest first, has the whole number of m
abbrev pub Absent : {M : Type 0} → (M → ℤ) → List M → M → Type 0
Absent whole margins m = Descending (map whole margins) → copies (whole m) (map whole margins) ≡ 0

-- one margin of the whole number of old was to leave the first `used` of the cells, and new to come in; where none was found
-- nothing changes, and new stays out
pub record Replaced {M : Type 0} (whole : M → ℤ) (used : ℕ) (before after : List M) (old new : M) (found : Bool) : Type 0 where
  pub long : length after ≡ length before
  pub refused : found ≡ false → after ≡ before
  pub behind : drop used after ≡ drop used before
  pub told : InOrder whole used before → found ≡ nat_lt 0 (copies (whole old) (wholes whole used before))
  pub keeps : found ≡ true → InOrder whole used before → Exchanged (whole old) (whole new) (wholes whole used before) (wholes whole used after)

-- what stands in the K-th place, counted from 1
abbrev pub in_place : {M : Type 0} → ℕ → List M → Option M
in_place zero ms = None
in_place (suc k) ms = slice_get ms k
