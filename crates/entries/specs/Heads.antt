-- A set of heads: the bits of a number, and its heads as a list in rising order. Assumes nothing.
--     heads         the heads of a set, rising
--     SameHeads    two lists have the same heads
--     first_from    the first of the heads at or after one
use Rattle.std.specs.Prelude.{◌≡◌, ℕ, zero, suc, ◌/◌, ◌%◌, ◌^◌, ◌<◌, ◌≤◌, Bool, cond, List, [], ◌∷◌, ◌++◌, length, Some, None, Option, ◌==◌, nat_le, slice_index}
use Rattle.std.specs.List.{AllByRecursion}
use Rattle.formulas.specs.Formula.{among}

-- heads are numbered from 0 to one below this
abbrev pub head_total : ℕ
head_total = 64

-- bit h of z is set
abbrev pub has : ℕ → ℕ → Bool
has z h = z / 2 ^ h % 2 == 1

-- the heads of z below n, rising
unfoldable pub heads_below : ℕ → ℕ → List ℕ
heads_below z zero = []
heads_below z (suc n) = heads_below z n ++ cond (has z n) (n ∷ []) []

-- the heads of the set with the bits z, rising
unfoldable pub heads : ℕ → List ℕ
heads z = heads_below z head_total

-- the same heads are in both lists
abbrev pub SameHeads : List ℕ → List ℕ → Type 0
SameHeads gs hs = (h : ℕ) → among h gs ≡ among h hs

-- the first head at or after n
abbrev pub first_from : ℕ → List ℕ → Option ℕ
first_from n [] = None
first_from n (g ∷ gs) = cond (nat_le n g) (Some g) (first_from n gs)

-- each head is below those after it
abbrev pub Rising : List ℕ → Type 0
Rising [] = Unit {0}
Rising (g ∷ gs) = AllByRecursion (λ h. g < h) gs × Rising gs

-- one of the numbers is no head
abbrev pub SomeAbove : List ℕ → Type 0
SomeAbove hs = (i : ℕ) × (i < length hs) × (head_total ≤ slice_index hs i)
