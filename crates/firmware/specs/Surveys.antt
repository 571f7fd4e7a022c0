-- A survey of a grid for the rule that a list of entries makes, as C is told its answer. Assumes nothing.
--     grid_survey   the margin, or the first refusal: of the rule, of the grid, of the survey
--     Surveyed      that answer in C's numbers, and what is left of the cells that were lent
use Rattle.std.specs.Prelude.{◌≡◌, ℕ, Bool, true, List, length, drop, ℤ, pos, is_err, Some, None, Ok, Err, Option, Result}
use Rattle.entries.specs.declared.entry.Entry.{Entry}
use Rattle.formulas.specs.Formula.{Formula, horizon}
use Rattle.records.specs.Faults.{record_ground}
use Rattle.records.specs.Grid.{grid_fault, grid_record}
use Rattle.records.specs.declared.refusals.RecordFault.{RecordFault}
use Rattle.rules.specs.Assemble.{assemble}
use Rattle.rules.specs.Faults.{rule_ground}
use Rattle.rules.specs.Needs.{need}
use Rattle.rules.specs.declared.fault.RuleFault.{RuleFault}
use Rattle.scales.specs.Model.{ScaleModel}
use Rattle.watches.specs.Faults.{watch_ground}
use Rattle.watches.specs.Surveys.{surveyed_of}
use Rattle.watches.specs.declared.refusals.WatchFault.{WatchFault}
use Rattle.firmware.specs.Refusals.{unrefused, refused}
use Rattle.firmware.specs.declared.refusals.Refusal.{Refusal}

-- what is answered of the formula that the entries make, or the refusal of the rule
abbrev pub of_rule : {A : Type 0} → Result Formula RuleFault → (Formula → Result A Refusal) → Result A Refusal
of_rule (Ok φ) answer = answer φ
of_rule (Err f) answer = Err (refused (rule_ground f))

-- what is answered of the grid, or its refusal
abbrev pub of_grid : {A : Type 0} → Option RecordFault → Result A Refusal → Result A Refusal
of_grid None answer = answer
of_grid (Some f) answer = Err (refused (record_ground f))

-- what a survey answers, as C is to be told it: just that whole number, or the refusal in C's numbers
abbrev pub of_watch : {A : Type 0} → Result A WatchFault → Result (Option A) Refusal
of_watch (Ok m) = Ok (Some m)
of_watch (Err f) = Err (refused (watch_ground f))

-- the margin at poll t of the grid, to be told exactly, or the first refusal: of the rule, of the grid, of the survey
abbrev pub grid_survey : {Reading Margin : Type 0} → ScaleModel Reading Margin → List ℕ → List Entry → ℕ → ℕ → List Reading → ℕ → ℕ → Result (Option ℤ) Refusal
grid_survey sm zone es heads polls xs lent t =
    of_rule (assemble zone es) (λ φ. of_grid (grid_fault heads polls (length xs)) (of_watch (surveyed_of sm zone φ (grid_record heads polls xs) lent t)))

-- how many cells a watch of the rule needs, and how many polls past its own the rule looks
abbrev pub cells_needed : List ℕ → List Entry → Result ℕ Refusal
cells_needed zone es = of_rule (assemble zone es) (λ φ. Ok (need zone φ))

abbrev pub polls_ahead : List ℕ → List Entry → Result ℕ Refusal
polls_ahead zone es = of_rule (assemble zone es) (λ φ. Ok (horizon φ))

-- an answer with the whole number that its margin tells exactly; none where it tells none
abbrev pub told_whole : {Told : Type 0} → (Told → Option ℤ) → Result Told Refusal → Result (Option ℤ) Refusal
told_whole whole (Ok m) = Ok (whole m)
told_whole whole (Err r) = Err r

-- an answer is told by its refusal, if it has one, and by its value, which is x where there is none
abbrev pub refusal_of : {A : Type 0} → Result A Refusal → Refusal
refusal_of (Ok a) = unrefused
refusal_of (Err r) = r

abbrev pub value_or : {A : Type 0} → A → Result A Refusal → A
value_or x (Ok a) = a
value_or x (Err r) = x

-- what a call that needs so many cells leaves of those that it was lent: the cells behind them, and all cells where it is
-- refused; without a rule nothing is needed
pub record Kept {M : Type 0} (needed : Result ℕ Refusal) (refused : Bool) (cells cells' : List M) : Type 0 where
  pub same_length : length cells' ≡ length cells
  pub behind : drop (value_or 0 needed) cells' ≡ drop (value_or 0 needed) cells
  pub untouched : refused ≡ true → cells' ≡ cells

-- an answer told in C's numbers: the refusal, or none and the margin; the margin of a refused survey is 0
pub record Surveyed (answer : Result (Option ℤ) Refusal) (needed : Result ℕ Refusal) (refusal : Refusal) (margin : Option ℤ) (cells cells' : List ℤ) : Type 0 where
  pub refusal_told : refusal ≡ refusal_of answer
  pub margin_told : margin ≡ value_or (Some (pos 0)) answer
  pub kept : Kept needed (is_err answer) cells cells'
