-- How far heads may wander from a soak of counts. Assumes nothing.
--     wander        one step fewer than the margin's size
--     SafeTo       no true record so near has another verdict
--     Wanders       what is promised of the answer
use Rattle.std.specs.Prelude.{◌≡◌, ℕ, zero, suc, ◌-◌, List, length, ℤ, Some, None, Ok, Err, Option, Result, unsigned_abs}
use Rattle.formulas.specs.Formula.{horizon}
use Rattle.layout.specs.Rows.{Row, signal}
use Rattle.rules.specs.Rules.{formula}
use Rattle.rules.specs.declared.rule.Rule.{Rule}
use Rattle.scales.specs.Counts.{counts}
use Rattle.watches.specs.Calls.{reply}
use Rattle.watches.specs.Worth.{TrueRecord, Within, verdict_at}
use Rattle.watches.specs.declared.answers.Answer.{Answer}
use Rattle.watches.specs.declared.answers.Answer.TheVariants.{Waiting, At}
use Rattle.watches.specs.declared.refusals.WatchFault.{WatchFault}

abbrev pub less_one : ℕ → Option ℕ
less_one zero = None
less_one (suc n) = Some n

-- none where the margin is nought, or where no poll is answered
abbrev pub wander : Result (Answer ℤ) WatchFault → Option ℕ
wander (Ok (Waiting k)) = None
wander (Ok (At t m)) = less_one (unsigned_abs m)
wander (Err e) = None

-- every true record at most d steps from the rows has their verdict at the latest poll that has all its rows
abbrev pub SafeTo : Rule → List Row → ℕ → Type 0
SafeTo rule rows d =
    (truth : TrueRecord) → Within d rule rows truth →
    verdict_at counts rule truth (length rows - 1 - horizon (formula rule)) ≡ verdict_at counts rule (signal rows) (length rows - 1 - horizon (formula rule))

-- the answer for the accepted rows is the defined number of steps, and it is safe
pub record Wanders (rule : Rule) (rows : List Row) (lent : ℕ) (r : Option ℕ) : Type 0 where
  pub value : r ≡ wander (reply counts rule rows lent)
  pub safe : (d : ℕ) → r ≡ Some d → SafeTo rule rows d
