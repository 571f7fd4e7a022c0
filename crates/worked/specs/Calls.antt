-- The calls of a soak that is begun, broken off and begun anew. Assumes nothing.
use Rattle.std.specs.Prelude.{ℕ, List, [], ◌∷◌}
use Rattle.records.specs.Model.{RecordModel}
use Rattle.watches.specs.Runs.{Call, step, play, ask, clear}

-- the latest first; all but one are lent all cells
abbrev pub begun_anew : {Reading : Type 0} → RecordModel Reading → RecordModel Reading → ℕ → List (Call Reading)
begun_anew early late lent =
    step late 10 lent
    ∷ play late 0 9 lent
    ∷ clear
    ∷ ask lent
    ∷ play early 3 4294967295 lent
    ∷ step early 6 0
    ∷ step early 5 lent
    ∷ []
