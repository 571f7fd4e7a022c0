-- Stretches of whole numbers that lie highest first. Assumes nothing.
use Rattle.std.specs.Prelude.{◌≡◌, ℕ, ◌+◌, Bool, cond, List, [], ◌∷◌, ℤ, ◌≤ℤ◌, int_lt, nat_lt}
use Rattle.std.specs.List.{AllByRecursion}
use Rattle.std.specs.Ordering.{int_eq}
use Rattle.runs.specs.Highest.{tally, hit}

-- highest first
abbrev pub Descending : List ℤ → Type 0
Descending [] = Unit {0}
Descending (x ∷ xs) = AllByRecursion (λ y. y ≤ℤ x) xs × Descending xs

-- how often z stands in xs
abbrev pub copies : ℤ → List ℤ → ℕ
copies z xs = tally (int_eq z) xs

-- z put into xs, before the first that is not above it
abbrev pub put_in : ℤ → List ℤ → List ℤ
put_in z [] = z ∷ []
put_in z (x ∷ xs) = cond (int_lt z x) (x ∷ put_in z xs) (z ∷ x ∷ xs)

-- xs without one z, if it has one
abbrev pub take_out : ℤ → List ℤ → List ℤ
take_out z [] = []
take_out z (x ∷ xs) = cond (int_eq z x) xs (x ∷ take_out z xs)

-- what a run keeps after z was put in
pub record Added (z : ℤ) (before after : List ℤ) : Type 0 where
  pub is : after ≡ put_in z before
  pub ordered : Descending after
  pub counts : (p : ℤ → Bool) → tally p after ≡ hit (p z) + tally p before

-- what a run keeps after one z was to be taken out, and whether there was one
pub record Taken (z : ℤ) (found : Bool) (before after : List ℤ) : Type 0 where
  pub told : found ≡ nat_lt 0 (copies z before)
  pub is : after ≡ take_out z before
  pub ordered : Descending after
  pub counts : (p : ℤ → Bool) → tally p before ≡ cond found (hit (p z)) 0 + tally p after

-- old was taken out and new put in
pub record Exchanged (old new : ℤ) (before after : List ℤ) : Type 0 where
  pub is : after ≡ put_in new (take_out old before)
  pub ordered : Descending after
  pub counts : (p : ℤ → Bool) → hit (p old) + tally p after ≡ hit (p new) + tally p before
