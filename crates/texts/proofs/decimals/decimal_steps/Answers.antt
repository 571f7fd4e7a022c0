-- One decimal more comes out even, or the whole does not. Assumes nothing.
use Rattle.std.proofs.Common.{◌≡◌, ℕ, ◌+◌, ◌-◌, ◌*◌, ◌/◌, ◌^◌, ◌<◌, List, length, drop, ◌∙◌, subst, arith}
use Rattle.std.specs.Str.Parse.{digits_value}
use Rattle.texts.proofs.NumberLaws.{digit_at}
use Rattle.texts.proofs.DecimalLaws.{one_decimal, uneven_decimals, all_decimals}
use Rattle.texts.proofs.decimals.decimal_steps.Goals as goal

-- the invariant at the decimal behind the one that is looked at
abbrev SoFar : List ℕ → ℕ → ℕ → Type 0
SoFar ds steps at = steps * 10 ^ (length ds - at) ≡ 256 * digits_value 10 (drop at ds)

behind : (ds : List ℕ) (steps at : ℕ) → 0 < at → SoFar ds steps at → SoFar ds steps (at - 1 + 1)
behind ds steps at some h = let e : at ≡ at - 1 + 1 = omega arith in subst (SoFar ds steps) e h

pub digit-requires : goal.digit-requires
digit-requires c = digit_at c.args.decimals.now (c.loop-at.at - 1) (omega arith) c.requires

pub returns-then-tenths-ne0-clause-value : goal.returns-then-tenths-ne0-clause-value
returns-then-tenths-ne0-clause-value c =
    let ds = c.args.decimals.now in
    let at = c.loop-at.at in
    let steps = c.loop-at.steps in
    uneven_decimals ds (at - 1) c.from.result steps (omega arith) (c.from.ensures ∙ c.digit.ensures.value) (behind ds steps at (omega arith) c.loop-at.invariant.even) c.if-tenths-ne0.true

pub loop-at-preserved : goal.loop-at-preserved
loop-at-preserved c =
    let ds = c.args.decimals.now in
    let at = c.loop-at.at in
    let steps = c.loop-at.steps in
    let tenths = 256 * c.from.result + steps in
    record {
      within = omega arith;
      below = omega arith;
      even = one_decimal ds (at - 1) c.from.result steps (tenths / 10) (omega arith) (c.from.ensures ∙ c.digit.ensures.value) (behind ds steps at (omega arith) c.loop-at.invariant.even) (omega (arith, c.if-tenths-ne0.false));
    }

pub returns-clause-value : goal.returns-clause-value
returns-clause-value c = let e : c.loop-at.at ≡ 0 = omega arith in all_decimals c.args.decimals.now c.loop-at.steps (subst (SoFar c.args.decimals.now c.loop-at.steps) e c.loop-at.invariant.even)
