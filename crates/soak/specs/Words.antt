-- What the program takes of what it is given. Assumes nothing.
--     scale_meant     the scale that the words at the end of a command mean
--     at_most_bytes   a file's bytes, where there are not too many
use Rattle.std.specs.Prelude.{ℕ, List, [], ◌∷◌, Some, None, Option, Ok, Err, Result, String, Vec, cond, codes, nat_lt, nat_eq, string_bytes, vec_len}
use Rattle.std.specs.declared.alloc.Global.{Global}
use Rattle.std.specs.Cmp.Lexicographic.{pointwise}
use Rattle.soak.specs.declared.command.ScaleName.{ScaleName}
use Rattle.soak.specs.declared.command.ScaleName.TheVariants.{Counts, Obscuration}
use Rattle.soak.specs.declared.files.Trouble.{Trouble}
use Rattle.soak.specs.declared.files.Trouble.TheVariants.{TooLong}

-- counts where none is named
abbrev pub scale_meant : List (String Global) → Option ScaleName
scale_meant [] = Some Counts
scale_meant (word ∷ []) = cond (pointwise nat_eq (string_bytes word) (codes "counts")) (Some Counts) (cond (pointwise nat_eq (string_bytes word) (codes "obscuration")) (Some Obscuration) None)
scale_meant (word ∷ other ∷ words) = None

abbrev pub at_most_bytes : Vec ℕ Global → ℕ → Result (Vec ℕ Global) Trouble
at_most_bytes bytes most = cond (nat_lt most (vec_len bytes)) (Err TooLong) (Ok bytes)
