-- Readings that are settled: what was worked out by hand, line by line. Assumes nothing.
--     Line          a line of the table
--     Right         what a line says
--     table         the lines
use Rattle.std.specs.Prelude.{◌≡◌, ℕ, false, List, [], ◌∷◌, ℤ, pos, negsuc, Some, Ok, Err, Option, Result, Float}
use Rattle.std.specs.Float.{fin}
use Rattle.std.specs.Option.{option_map}
use Rattle.formulas.specs.Formula.{Formula, head_test, zone_test, complement, either, window}
use Rattle.formulas.specs.Margin.{test, margin, verdict}
use Rattle.layout.specs.Rows.{Row}
use Rattle.records.specs.Grid.{grid_record}
use Rattle.records.specs.Model.{RecordModel}
use Rattle.rules.specs.Needs.{need}
use Rattle.runs.specs.Rank.{rank}
use Rattle.scales.specs.Counts.{counts}
use Rattle.scales.specs.Grid.{grid_whole}
use Rattle.scales.specs.Model.{ScaleModel}
use Rattle.scales.specs.Obscuration.{obscuration}
use Rattle.scales.specs.Panel.{panel}
use Rattle.scales.specs.declared.limit.Sense.TheVariants.{AtLeast}
use Rattle.watches.specs.Readings.{steps_at}
use Rattle.watches.specs.declared.answers.Answer.{Answer}
use Rattle.watches.specs.declared.answers.Answer.TheVariants.{Waiting, At}
use Rattle.watches.specs.declared.refusals.WatchFault.{WatchFault}
use Rattle.watches.specs.declared.refusals.WatchFault.TheVariants.{PastTheEnd}
use Rattle.watches.specs.Calls.{reply_of}
use Rattle.watches.specs.Surveys.{surveyed_of}

pub data Line : Type 0 where
  gives : (zone : List ℕ) (φ : Formula) (x : RecordModel ℤ) (t : ℕ) (m v : ℤ) → Line
  needs : (zone : List ℕ) (φ : Formula) (cells : ℕ) → Line
  ranks : (share width k : ℕ) → Line
  answers : (zone : List ℕ) (φ : Formula) (rows : List Row) (lent : ℕ) (a : Result (Answer ℤ) WatchFault) → Line
  surveys : (zone : List ℕ) (φ : Formula) (x : RecordModel ℤ) (lent t : ℕ) (r : Result ℤ WatchFault) → Line
  obscures : (reading : Float) (limit : ℤ) (value : Float) (digit : ℤ) → Line

-- the margin of a reading, at least a limit
abbrev pub at_least : {M : Type 0} → ScaleModel Float M → Float → ℤ → Option ℤ
at_least sm reading limit = option_map (test sm.mark AtLeast limit) (sm.steps reading)

-- in counts, the margin m and the verdict v of a formula at poll t; the cells that it needs; the K of a window; what ask answers after
-- some rows; what a survey answers; of obscuration, the margin as a float, and the digit on the panel
abbrev pub Right : Line → Type 0
Right (gives zone φ x t m v) = (margin counts.mark zone φ (steps_at counts x) t ≡ m) × (verdict counts.mark zone φ (steps_at counts x) t ≡ v)
Right (needs zone φ cells) = need zone φ ≡ cells
Right (ranks share width k) = rank share width ≡ k
Right (answers zone φ rows lent a) = reply_of counts.mark zone φ rows lent ≡ a
Right (surveys zone φ x lent t r) = surveyed_of counts zone φ x lent t ≡ r
Right (obscures reading limit value digit) = (at_least obscuration reading limit ≡ Some (grid_whole value)) × (at_least (panel obscuration) reading limit ≡ Some digit)

-- head 0 reads 5 9 12 7 10 3 8 11; and three heads read 40, 55 and 50
abbrev pub head_0 : RecordModel ℤ
head_0 = grid_record 1 8 (pos 5 ∷ pos 9 ∷ pos 12 ∷ pos 7 ∷ pos 10 ∷ pos 3 ∷ pos 8 ∷ pos 11 ∷ [])

abbrev pub three_heads : RecordModel ℤ
three_heads = grid_record 3 1 (pos 40 ∷ pos 55 ∷ pos 50 ∷ [])

-- at the edges: 3 and 8, five steps apart
abbrev pub edges : RecordModel ℤ
edges = grid_record 1 2 (pos 3 ∷ pos 8 ∷ [])

-- head 0 at least 8, and a window 0 to 3 of it
abbrev pub at_least_8 : Formula
at_least_8 = head_test 0 AtLeast (pos 8)

abbrev pub window_of : ℕ → Formula
window_of share = window 0 3 share at_least_8

-- its first rows
abbrev pub rows_3 : List Row
rows_3 = (λ h. pos 5) ∷ (λ h. pos 9) ∷ (λ h. pos 12) ∷ []

abbrev pub rows_4 : List Row
rows_4 = (λ h. pos 5) ∷ (λ h. pos 9) ∷ (λ h. pos 12) ∷ (λ h. pos 7) ∷ []

abbrev pub yes : ℤ
yes = pos 1

abbrev pub no : ℤ
no = negsuc 0

-- the floats 1.25 and 0.25
abbrev pub one_and_a_quarter : Float
one_and_a_quarter = fin false 10485760 (negsuc 22)

abbrev pub a_quarter : Float
a_quarter = fin false 8388608 (negsuc 24)

abbrev pub table : List Line
table =
    gives (0 ∷ []) (window_of 500) head_0 0 (pos 1) yes
    ∷ gives (0 ∷ []) (window_of 500) head_0 1 (pos 2) yes
    ∷ gives (0 ∷ []) (window_of 500) head_0 2 (pos 2) yes
    ∷ gives (0 ∷ []) (window_of 500) head_0 3 (pos 0) yes
    ∷ gives (0 ∷ []) (window_of 500) head_0 4 (pos 2) yes
    ∷ needs (0 ∷ []) (window_of 500) 12
    ∷ answers (0 ∷ []) (window_of 500) rows_3 12 (Ok (Waiting 1))
    ∷ answers (0 ∷ []) (window_of 500) rows_4 12 (Ok (At 0 (pos 1)))
    ∷ ranks 501 4 3
    ∷ gives (0 ∷ []) (window_of 501) head_0 0 (negsuc 0) no
    ∷ gives (0 ∷ []) (complement (window_of 500)) head_0 3 (pos 0) no
    ∷ surveys (0 ∷ []) (window_of 500) head_0 12 4 (Ok (pos 2))
    ∷ surveys (0 ∷ []) (window_of 500) head_0 12 5 (Err (PastTheEnd 5 3 8))
    ∷ ranks 950 1440 1368
    ∷ ranks 951 1440 1370
    ∷ gives (0 ∷ 1 ∷ 2 ∷ []) (zone_test 2 AtLeast (pos 45)) three_heads 0 (pos 5) yes
    ∷ gives (0 ∷ 1 ∷ 2 ∷ []) (zone_test 3 AtLeast (pos 45)) three_heads 0 (negsuc 4) no
    ∷ gives (0 ∷ []) at_least_8 edges 0 (negsuc 4) no
    ∷ gives (0 ∷ []) at_least_8 edges 1 (pos 0) yes
    ∷ gives (0 ∷ []) (either at_least_8 (complement at_least_8)) edges 0 (pos 5) yes
    ∷ obscures one_and_a_quarter (pos 256) a_quarter (pos 9)
    ∷ []
