-- The heads that are still to come. Assumes nothing.
use Rattle.std.specs.Prelude.{ℕ, List}
use Rattle.entries.specs.Heads.{heads}
use Rattle.entries.specs.declared.iter.Heads.{Heads}

-- the heads that an iterator is still to give
abbrev pub heads_left : Heads → List ℕ
heads_left s = heads s.left.bits
