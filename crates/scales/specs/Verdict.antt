-- The scale of verdicts over another scale. Assumes nothing.
use Rattle.std.specs.Prelude.{◌≡◌, ℕ, zero, suc, ◌≤◌, Bool, true, false, cond, ℤ, pos, negsuc, int_le}
use Rattle.std.proofs.Common.{subst, arith}
use Rattle.std.proofs.lemmas.Int.{ints}
use Rattle.scales.specs.Model.{ScaleModel, distance}
use Rattle.scales.specs.declared.verdict.VerdictMargin.{VerdictMargin}
use Rattle.scales.specs.declared.verdict.VerdictMargin.TheVariants.{Yes, No}

abbrev pub verdict_whole : VerdictMargin → ℤ
verdict_whole Yes = pos 1
verdict_whole No = negsuc 0

-- yes, +1, of a mark that holds, that is of one that is 0 or more; no, -1, of any other
abbrev pub verdict_of : ℤ → ℤ
verdict_of m = cond (int_le (pos 0) m) (pos 1) (negsuc 0)

-- the verdict of the lower mark
abbrev pub verdict_mark : (ℤ → ℤ) → ℤ → ℤ
verdict_mark mark z = verdict_of (mark z)

-- a verdict stays where nothing moves, and else turns by 2 at most
abbrev pub verdict_reach : ℕ → ℕ
verdict_reach zero = 0
verdict_reach (suc d) = 2

same_apart : (z : ℤ) → distance z z ≤ 0
same_apart z = omega (arith, ints)

two_apart : (a b : Bool) → distance (cond a (pos 1) (negsuc 0)) (cond b (pos 1) (negsuc 0)) ≤ 2
two_apart true true = omega arith
two_apart true false = omega arith
two_apart false true = omega arith
two_apart false false = omega arith

pub verdict_close : (mark : ℤ → ℤ) (x y : ℤ) (d : ℕ) → distance x y ≤ d → distance (verdict_mark mark x) (verdict_mark mark y) ≤ verdict_reach d
verdict_close mark x y zero near =
    let same : x ≡ y = omega (arith, ints) in
    subst (λ (w : ℤ). distance (verdict_mark mark x) (verdict_mark mark w) ≤ 0) same (same_apart (verdict_mark mark x))
verdict_close mark x y (suc d) near = two_apart (int_le (pos 0) (mark x)) (int_le (pos 0) (mark y))

-- the steps are the lower scale's
abbrev pub verdict : {R M : Type 0} → ScaleModel R M → ScaleModel R VerdictMargin
verdict lower = record {
  steps = lower.steps;
  whole = verdict_whole;
  mark = verdict_mark lower.mark;
  reach = verdict_reach;
  close = verdict_close lower.mark;
}
