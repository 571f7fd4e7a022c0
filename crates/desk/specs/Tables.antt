-- The table of a rule's margins as text. Assumes nothing.
--     verdict_text   the word for a verdict
--     line_text      a line of the table
--     lines_text     the lines of the first answers
--     table_text     all of the table
use Rattle.std.specs.Prelude.{ℕ, zero, suc, Bool, true, false, List, [], ◌++◌, codes, decimal}
use Rattle.desk.specs.Amounts.{steps_text}
use Rattle.desk.specs.declared.amount.Unit.{Unit}
use Rattle.desk.specs.declared.answered.Answered.{Answered}

abbrev pub verdict_text : Bool → List ℕ
verdict_text true = codes "yes"
verdict_text false = codes "no"

-- as "3,-0.5,no"
abbrev pub line_text : Unit → Answered → List ℕ
line_text unit a = decimal a.poll ++ (codes "," ++ (steps_text unit a.margin ++ (codes "," ++ (verdict_text a.yes ++ codes "\n"))))

abbrev pub lines_text : Unit → (ℕ → Answered) → ℕ → List ℕ
lines_text unit answers zero = []
lines_text unit answers (suc n) = lines_text unit answers n ++ line_text unit (answers n)

-- the names of the columns, and a line for each of the first n answers
abbrev pub table_text : Unit → (ℕ → Answered) → ℕ → List ℕ
table_text unit answers n = codes "poll,margin,verdict\n" ++ lines_text unit answers n
