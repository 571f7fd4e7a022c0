-- What each entry of a list adds: the heads that it reads, a zone test, the width of its window. Assumes nothing.
use Rattle.std.specs.Prelude.{ℕ, Bool, false, cond, List, ◌==◌}
use Rattle.formulas.specs.Formula.{among, width}
use Rattle.entries.specs.declared.entry.Entry.{Entry}

-- the entry reads head h: a head test of it, or a zone test in a zone that has it
abbrev pub entry_reads : List ℕ → ℕ → Entry → Bool
entry_reads zone h e = cond (e.kind == 16) (e.head == h) (cond (e.kind == 17) (among h zone) false)

abbrev pub tests_zone : Entry → Bool
tests_zone e = e.kind == 17

-- the width of a window
abbrev pub entry_width : Entry → ℕ
entry_width e = cond (e.kind == 21) (width e.first e.last) 0
