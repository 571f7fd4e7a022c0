-- Which whole numbers a limit may have, and which numbers tell a sense. Assumes nothing.
use Rattle.std.specs.Prelude.{◌≡◌, ℕ, ◌<◌, cond, ℤ, Some, None, Option, Result, MatchResult, nat_le, unsigned_abs}
use Rattle.scales.specs.declared.limit.Sense.{Sense}
use Rattle.scales.specs.declared.limit.Sense.TheVariants.{AtLeast, AtMost}
use Rattle.scales.specs.declared.limit.UnknownSense.{UnknownSense}

-- the whole number itself if its size is at most `most`, else none
abbrev pub bounded : ℕ → ℤ → Option ℤ
bounded most z = cond (nat_le (unsigned_abs z) most) (Some z) None

-- the number that tells a sense
abbrev pub sense_number : Sense → ℕ
sense_number AtLeast = 0
sense_number AtMost = 1

-- the sense that a number tells, or the number itself where it tells none
abbrev pub Told : ℕ → Result Sense UnknownSense → Type 0
Told number r = MatchResult r (λ sense. sense_number sense ≡ number) (λ e. (e.0 ≡ number) × (1 < number))
