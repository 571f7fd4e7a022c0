-- Formulas over the readings of a zone's heads: how far they look ahead, which heads they read, and which way. Assumes nothing.
--     Formula       head test, zone test, complement, either, both, window
--     horizon       how many polls past its own a formula looks
--     reads         the heads that it reads
--     sees          the heads that it looks at up, or down
use Rattle.std.specs.Prelude.{◌≡◌, ℕ, suc, ◌+◌, ◌-◌, max, Bool, true, false, not, ◌&&◌, ◌||◌, List, [], ◌∷◌, ℤ, ◌==◌, ◌≢◌}
use Rattle.scales.specs.declared.limit.Sense.{Sense}
use Rattle.scales.specs.declared.limit.Sense.TheVariants.{AtLeast, AtMost}

pub data Formula : Type 0 where
  head_test : (head : ℕ) (sense : Sense) (limit : ℤ) → Formula
  zone_test : (k : ℕ) (sense : Sense) (limit : ℤ) → Formula
  complement : Formula → Formula
  either both : Formula → Formula → Formula
  window : (first last share : ℕ) → Formula → Formula

-- how many polls a window from a to b has
abbrev pub width : ℕ → ℕ → ℕ
width a b = suc (b - a)

-- a test looks at its own poll alone, a window b polls further than its formula
abbrev pub horizon : Formula → ℕ
horizon (head_test h s l) = 0
horizon (zone_test k s l) = 0
horizon (complement φ) = horizon φ
horizon (either φ ψ) = max (horizon φ) (horizon ψ)
horizon (both φ ψ) = max (horizon φ) (horizon ψ)
horizon (window a b p φ) = b + horizon φ

-- head h is one of the heads
abbrev pub among : ℕ → List ℕ → Bool
among h [] = false
among h (g ∷ gs) = g == h || among h gs

-- a head test reads its head, a zone test all heads of the zone
abbrev pub reads : List ℕ → Formula → ℕ → Bool
reads zone (head_test g s l) h = g == h
reads zone (zone_test k s l) h = among h zone
reads zone (complement φ) h = reads zone φ h
reads zone (either φ ψ) h = reads zone φ h || reads zone ψ h
reads zone (both φ ψ) h = reads zone φ h || reads zone ψ h
reads zone (window a b p φ) h = reads zone φ h

-- a test looks up if it is "at least" under an even number of complements or "at most" under an odd number, else down
abbrev pub looks_up : Bool → Sense → Bool
looks_up even AtLeast = even
looks_up even AtMost = not even

abbrev pub same : Bool → Bool → Bool
same true b = b
same false b = not b

-- φ, itself under an even or odd number of complements, has a test that reads head h and looks up, or down where up is false
abbrev pub sees : Bool → Bool → List ℕ → Formula → ℕ → Bool
sees even up zone (head_test g s l) h = g == h && same up (looks_up even s)
sees even up zone (zone_test k s l) h = among h zone && same up (looks_up even s)
sees even up zone (complement φ) h = sees (not even) up zone φ h
sees even up zone (either φ ψ) h = sees even up zone φ h || sees even up zone ψ h
sees even up zone (both φ ψ) h = sees even up zone φ h || sees even up zone ψ h
sees even up zone (window a b p φ) h = sees even up zone φ h

-- a formula looks one way if all its tests that read a head look alike
abbrev pub OneWay : List ℕ → Formula → Type 0
OneWay zone φ = (h : ℕ) → sees true true zone φ h ≡ true → sees true false zone φ h ≢ true
