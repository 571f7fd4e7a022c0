-- What a margin says of a signal that is not quite the true one. Assumes nothing.
use Rattle.std.specs.Prelude.{◌≡◌, ℕ, ◌+◌, ◌<◌, ◌≤◌, true, List, ℤ, pos, negsuc, neg_ℤ, ◌<ℤ◌, unsigned_abs}
use Rattle.scales.specs.Model.{distance}
use Rattle.formulas.specs.Formula.{Formula, complement, either, horizon, reads, OneWay}
use Rattle.formulas.specs.Margin.{Signal, margin, verdict, Formed}

-- marks of differences at most d apart lie at most the reach of d apart
abbrev pub Reaches : (ℤ → ℤ) → (ℕ → ℕ) → Type 0
Reaches mark reach = (x y : ℤ) (d : ℕ) → distance x y ≤ d → distance (mark x) (mark y) ≤ reach d

-- the mark is the difference itself
abbrev pub Measuring : (ℤ → ℤ) → Type 0
Measuring mark = (z : ℤ) → mark z ≡ z

-- x and y lie at most d apart wherever φ looks from poll t
abbrev pub CloseFor : ℕ → List ℕ → Formula → ℕ → Signal → Signal → Type 0
CloseFor d zone φ t x y = (u h : ℕ) → t ≤ u → u ≤ t + horizon φ → reads zone φ h ≡ true → distance (x u h) (y u h) ≤ d

-- the margins of signals that lie at most d apart lie at most the reach of d apart
abbrev pub MarginNear : Type 0
MarginNear =
    (mark : ℤ → ℤ) (reach : ℕ → ℕ) → Reaches mark reach → (zone : List ℕ) (φ : Formula) → Formed zone φ →
    (d t : ℕ) (x y : Signal) → CloseFor d zone φ t x y → distance (margin mark zone φ x t) (margin mark zone φ y t) ≤ reach d

-- a signal that begins at poll f of another has its margins f polls later
abbrev pub MarginLater : Type 0
MarginLater =
    (mark : ℤ → ℤ) (zone : List ℕ) (φ : Formula) (f t : ℕ) (x : Signal) →
    margin mark zone φ (λ u h. x (f + u) h) t ≡ margin mark zone φ x (f + t)

-- the margin of x settles the verdict of y: the same as that of x, by the margin's sign
pub record Settled (mark : ℤ → ℤ) (zone : List ℕ) (φ : Formula) (x y : Signal) (t : ℕ) : Type 0 where
  pub same : verdict mark zone φ y t ≡ verdict mark zone φ x t
  pub yes : pos 0 <ℤ margin mark zone φ x t → verdict mark zone φ y t ≡ pos 1
  pub no : margin mark zone φ x t <ℤ pos 0 → verdict mark zone φ y t ≡ negsuc 0

-- on a scale that measures, a margin of more than d settles the verdict of every signal at most d away
abbrev pub VerdictSettled : Type 0
VerdictSettled =
    (mark : ℤ → ℤ) → Measuring mark → (zone : List ℕ) (φ : Formula) → Formed zone φ →
    (d t : ℕ) (x y : Signal) → CloseFor d zone φ t x y → d < unsigned_abs (margin mark zone φ x t) → Settled mark zone φ x y t

-- y has the opposite verdict, and is at most d away from x
pub record Opposite (mark : ℤ → ℤ) (zone : List ℕ) (φ : Formula) (x y : Signal) (t d : ℕ) : Type 0 where
  pub close : (u h : ℕ) → distance (x u h) (y u h) ≤ d
  pub opposite : verdict mark zone φ y t ≡ neg_ℤ (verdict mark zone φ x t)

-- and it says no more: where heads are looked at one way, one step further away lies a signal of the opposite verdict
abbrev pub VerdictTurns : Type 0
VerdictTurns =
    (mark : ℤ → ℤ) → Measuring mark → (zone : List ℕ) (φ : Formula) → Formed zone φ → OneWay zone φ →
    (t : ℕ) (x : Signal) → (y : Signal) × Opposite mark zone φ x y t (unsigned_abs (margin mark zone φ x t) + 1)

-- looking both ways at a head forbids that: this or not this is a yes of every signal
abbrev pub ThisOrNot : Type 0
ThisOrNot =
    (mark : ℤ → ℤ) (zone : List ℕ) (φ : Formula) → Formed zone φ → (t : ℕ) (x : Signal) →
    verdict mark zone (either φ (complement φ)) x t ≡ pos 1
