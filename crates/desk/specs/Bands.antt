-- The band of a picture, from the lowest to the highest margin of each column. Assumes nothing.
--     band_text   along the highest margins, and back along the lowest
use Rattle.std.specs.Prelude.{ℕ, zero, suc, List, [], ◌++◌, length, slice_index_or, ℤ, pos, cond, codes, decimal, nat_eq}
use Rattle.desk.specs.Columns.{middle_of, one_margin}
use Rattle.desk.specs.Frames.{down_at, right_at}
use Rattle.desk.specs.declared.columns.Column.{Column}
use Rattle.desk.specs.declared.picture.Frame.{Frame}

-- a path begins at its first point and is drawn on to the others
abbrev pub pen_text : ℕ → List ℕ
pen_text at = cond (nat_eq at 0) (codes "M") (codes "L")

abbrev pub place_text : List ℕ → ℕ → ℕ → List ℕ
place_text pen x y = pen ++ (decimal x ++ (codes " " ++ decimal y))

-- where a poll and a margin stand
abbrev pub point_text : List ℕ → Frame → ℕ → ℤ → List ℕ
point_text pen frame poll margin = place_text pen (right_at frame.polls poll) (down_at frame margin)

abbrev pub column_at : List Column → ℕ → Column
column_at columns at = slice_index_or columns at (one_margin (pos 0))

-- the first n columns, from the left
unfoldable pub highest_text : Frame → ℕ → List Column → ℕ → List ℕ
highest_text frame each columns zero = []
highest_text frame each columns (suc n) = highest_text frame each columns n ++ point_text (pen_text n) frame (middle_of each n) (column_at columns n).highest

-- the first n columns, from the right
unfoldable pub lowest_text : Frame → ℕ → List Column → ℕ → List ℕ
lowest_text frame each columns zero = []
lowest_text frame each columns (suc n) = point_text (codes "L") frame (middle_of each n) (column_at columns n).lowest ++ lowest_text frame each columns n

abbrev pub begin_text : List ℕ
begin_text = codes "<path fill=\"#9db8d2\" stroke=\"#1f4e79\" stroke-linejoin=\"round\" d=\""

abbrev pub end_text : List ℕ
end_text = codes "Z\"/>\n"

abbrev pub band_text : Frame → ℕ → List Column → List ℕ
band_text frame each columns = begin_text ++ (highest_text frame each columns (length columns) ++ (lowest_text frame each columns (length columns) ++ end_text))
