-- The row that a poll of a record makes, and why it makes none. Assumes nothing.
--     cells_fault    why the cells cannot serve
--     reading_fault  why a reading cannot be taken
--     row_fault      the first fault of the heads that the rule reads
--     row            the steps of those heads
use Rattle.std.specs.Prelude.{ℕ, zero, suc, Bool, cond, ℤ, pos, Some, None, Option, nat_lt}
use Rattle.std.specs.Option.{unwrap_or, option_or}
use Rattle.entries.specs.Heads.{head_total}
use Rattle.formulas.specs.Formula.{reads}
use Rattle.records.specs.Model.{RecordModel}
use Rattle.rules.specs.Rules.{zone, formula}
use Rattle.rules.specs.declared.rule.Rule.{Rule}
use Rattle.scales.specs.Model.{ScaleModel}
use Rattle.layout.specs.Rows.{Row, cells_of}
use Rattle.layout.specs.Steps.{steps_of}
use Rattle.watches.specs.declared.refusals.WatchFault.{WatchFault}
use Rattle.watches.specs.declared.refusals.WatchFault.TheVariants.{TooFewCells, NoReading, Unlawful}

-- the heads that the rule reads
abbrev pub reads_head : Rule → ℕ → Bool
reads_head rule = reads (zone rule) (formula rule)

-- fewer cells than the need
abbrev pub cells_fault : Rule → ℕ → Option WatchFault
cells_fault rule lent = cond (nat_lt lent (cells_of rule)) (Some (TooFewCells (cells_of rule) lent)) None

-- a reading with no steps is unlawful
abbrev pub step_fault : ℕ → ℕ → Option ℤ → Option WatchFault
step_fault head poll None = Some (Unlawful head poll)
step_fault head poll (Some s) = None

abbrev pub reading_fault : {Reading Margin : Type 0} → ScaleModel Reading Margin → ℕ → ℕ → Option Reading → Option WatchFault
reading_fault sm head poll None = Some (NoReading head poll)
reading_fault sm head poll (Some x) = step_fault head poll (sm.steps x)

-- the first fault of the heads below n that are read
unfoldable pub first_fault : (ℕ → Bool) → (ℕ → Option WatchFault) → ℕ → Option WatchFault
first_fault read fault zero = None
first_fault read fault (suc n) = option_or (first_fault read fault n) (cond (read n) (fault n) None)

-- the first fault of a poll, by head
abbrev pub row_fault : {Reading Margin : Type 0} → ScaleModel Reading Margin → Rule → RecordModel Reading → ℕ → Option WatchFault
row_fault sm rule rm poll = first_fault (reads_head rule) (λ h. reading_fault sm h poll (rm.at h poll)) head_total

-- the steps of a head at a poll
abbrev pub steps_at : {Reading Margin : Type 0} → ScaleModel Reading Margin → RecordModel Reading → ℕ → ℕ → ℤ
steps_at sm rm poll head = unwrap_or (steps_of sm (rm.at head poll)) (pos 0)

-- the row that a poll of a record makes: the steps of the heads that the rule reads
abbrev pub row : {Reading Margin : Type 0} → ScaleModel Reading Margin → Rule → RecordModel Reading → ℕ → Row
row sm rule rm poll head = cond (reads_head rule head) (steps_at sm rm poll head) (pos 0)
