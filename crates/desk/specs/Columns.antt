-- The columns of a picture. Assumes nothing.
--     widened      a column with a margin more
--     each_of      how many polls are in a column
--     middle_of    where a column stands
--     columns_of   the lowest and the highest margin of every so many polls
--     AreColumns   the columns are those, and how many polls are in the last
use Rattle.std.specs.Prelude.{◌≡◌, ℕ, ◌+◌, ◌-◌, ◌*◌, ◌/◌, ◌^◌, min, max, ◌<◌, ◌≤◌, zero, suc, ◌%◌, ◌==◌, List, [], ◌∷◌, ◌++◌, ℤ, if◌then◌else◌}
use Rattle.std.specs.Int.{div_ceil, int_min, int_max}
use Rattle.desk.specs.declared.answered.Answered.{Answered}
use Rattle.desk.specs.declared.columns.Column.{Column}

abbrev pub one_margin : ℤ → Column
one_margin m = record { lowest = m; highest = m }

abbrev pub widened : Column → ℤ → Column
widened c m = record { lowest = int_min c.lowest m; highest = int_max c.highest m }

abbrev pub with_last : List Column → ℤ → List Column
with_last [] m = []
with_last (c ∷ []) m = widened c m ∷ []
with_last (c ∷ d ∷ cs) m = c ∷ with_last (d ∷ cs) m

-- the first n polls, so many to a column
unfoldable pub columns_of : ℕ → (ℕ → Answered) → ℕ → List Column
columns_of each answers zero = []
columns_of each answers (suc n) = if n % each == 0 then columns_of each answers n ++ one_margin (answers n).margin ∷ [] else with_last (columns_of each answers n) (answers n).margin

-- how many polls are in a column, of so many polls in all
abbrev pub each_of : ℕ → ℕ
each_of polls = max (div_ceil polls 870) 1

-- the poll in the middle of a column, of so many polls each
abbrev pub middle_of : ℕ → ℕ → ℕ
middle_of each at = min (at * each + each / 2) (2 ^ 32 - 1)

-- before the first column it is as if one were full
pub record AreColumns (own filled : ℕ) (columns : List Column) (each n : ℕ) (answers : ℕ → Answered) : Type 0 where
  pub each_is : own ≡ each
  pub are : columns ≡ columns_of each answers n
  pub full : ℕ
  pub sum : n + each ≡ full * each + filled
  pub some : 0 < filled
  pub most : filled ≤ each
