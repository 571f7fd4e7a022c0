-- What the calls of a watch come to for the rows that were accepted. Assumes nothing.
--     refusal       the ground on which a step is refused
--     after_step    the accepted rows after a step
--     play_fault    the refusal that stops a play, and play_rows the polls before it
--     after_play    the accepted rows after a play
--     reply         what ask answers
use Rattle.std.specs.Prelude.{ℕ, zero, suc, ◌+◌, ◌-◌, cond, List, [], ◌∷◌, ◌++◌, length, ℤ, Some, None, Ok, Err, Option, Result, nat_le, nat_lt}
use Rattle.std.specs.Option.{option_or}
use Rattle.formulas.specs.Formula.{Formula, horizon}
use Rattle.formulas.specs.Margin.{margin}
use Rattle.records.specs.Model.{RecordModel}
use Rattle.rules.specs.Needs.{need}
use Rattle.rules.specs.Rules.{zone, formula}
use Rattle.rules.specs.declared.rule.Rule.{Rule}
use Rattle.scales.specs.Model.{ScaleModel}
use Rattle.layout.specs.Rows.{Row, signal, cells_of}
use Rattle.watches.specs.Readings.{row_fault, row}
use Rattle.watches.specs.Surveys.{rows_from}
use Rattle.watches.specs.declared.answers.Answer.{Answer}
use Rattle.watches.specs.declared.answers.Answer.TheVariants.{Waiting, At}
use Rattle.watches.specs.declared.refusals.WatchFault.{WatchFault}
use Rattle.watches.specs.declared.refusals.WatchFault.TheVariants.{TooFewCells, Full}

-- the most rows of a watch
abbrev pub most_rows : ℕ
most_rows = 16777216

-- fewer cells than the need, then no room for a row, then the readings by head; n rows are there
abbrev pub refusal : {Reading Margin : Type 0} → ScaleModel Reading Margin → Rule → RecordModel Reading → ℕ → ℕ → ℕ → Option WatchFault
refusal sm rule rm poll lent n =
    cond (nat_lt lent (cells_of rule)) (Some (TooFewCells (cells_of rule) lent))
    (cond (nat_le most_rows n) (Some Full) (row_fault sm rule rm poll))

-- x where no ground refuses, else y
abbrev pub unless : {A : Type 0} → Option WatchFault → A → A → A
unless None x y = x
unless (Some e) x y = y

-- a step that no ground refuses adds its row at the end
abbrev pub after_step : {Reading Margin : Type 0} → ScaleModel Reading Margin → Rule → RecordModel Reading → ℕ → ℕ → List Row → List Row
after_step sm rule rm poll lent rows = unless (refusal sm rule rm poll lent (length rows)) (rows ++ (row sm rule rm poll ∷ [])) rows

-- the first refusal of n polls from poll t on, where k rows are there and each poll before adds one
unfoldable pub play_fault : {Reading Margin : Type 0} → ScaleModel Reading Margin → Rule → RecordModel Reading → ℕ → ℕ → ℕ → ℕ → Option WatchFault
play_fault sm rule rm lent k t zero = None
play_fault sm rule rm lent k t (suc n) = option_or (play_fault sm rule rm lent k t n) (refusal sm rule rm (t + n) lent (k + n))

-- how many polls come before it
unfoldable pub play_rows : {Reading Margin : Type 0} → ScaleModel Reading Margin → Rule → RecordModel Reading → ℕ → ℕ → ℕ → ℕ → ℕ
play_rows sm rule rm lent k t zero = 0
play_rows sm rule rm lent k t (suc n) = unless (play_fault sm rule rm lent k t (suc n)) (suc n) (play_rows sm rule rm lent k t n)

-- how many polls there are from the first to the last; none where the first is above the last
abbrev pub polls_to : ℕ → ℕ → ℕ
polls_to first last = last + 1 - first

-- a play adds the row of every poll before its first refusal
abbrev pub after_play : {Reading Margin : Type 0} → ScaleModel Reading Margin → Rule → RecordModel Reading → ℕ → ℕ → ℕ → List Row → List Row
after_play sm rule rm first last lent rows = rows ++ rows_from sm rule rm first (play_rows sm rule rm lent (length rows) first (polls_to first last))

-- of a zone and a formula: waiting with the rows to come while no poll has all its rows; else the latest that has, and the
-- margin of the accepted rows there
abbrev pub reply_of : (ℤ → ℤ) → List ℕ → Formula → List Row → ℕ → Result (Answer ℤ) WatchFault
reply_of mark zone φ rows lent =
    cond (nat_lt lent (need zone φ)) (Err (TooFewCells (need zone φ) lent))
    (cond (nat_le (length rows) (horizon φ)) (Ok (Waiting (horizon φ + 1 - length rows)))
    (Ok (At (length rows - 1 - horizon φ) (margin mark zone φ (signal rows) (length rows - 1 - horizon φ)))))

-- the same of a rule's zone and formula
abbrev pub reply : {Reading Margin : Type 0} → ScaleModel Reading Margin → Rule → List Row → ℕ → Result (Answer ℤ) WatchFault
reply sm rule = reply_of sm.mark (zone rule) (formula rule)

-- an answer with its margin as a whole number
abbrev pub meant : {Margin : Type 0} → (Margin → ℤ) → Result (Answer Margin) WatchFault → Result (Answer ℤ) WatchFault
meant whole (Ok (Waiting k)) = Ok (Waiting k)
meant whole (Ok (At t m)) = Ok (At t (whole m))
meant whole (Err e) = Err e
