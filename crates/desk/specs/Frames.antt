-- Where a picture has its polls and margins. Assumes nothing.
--     right_at      where a poll stands from the left
--     down_at       where a margin stands from the top
--     frame_shown   the frame of a rule's answers
--     frame_over    the same of the columns of their margins
use Rattle.std.specs.Prelude.{ℕ, zero, suc, ◌+◌, ◌-◌, ◌*◌, ◌/◌, min, max, List, [], ◌∷◌, ℤ, pos, ◌-ℤ◌, nat_abs, unsigned_abs, cond, nat_eq}
use Rattle.std.specs.Int.{int_min, int_max}
use Rattle.desk.specs.declared.answered.Answered.{Answered}
use Rattle.desk.specs.declared.columns.Column.{Column}
use Rattle.desk.specs.declared.picture.Frame.{Frame}

-- of so many polls the first stands at 100 and the last at 970
abbrev pub last_of : ℕ → ℕ
last_of polls = max (polls - 1) 1

abbrev pub right_at : ℕ → ℕ → ℕ
right_at polls poll = 100 + min poll (last_of polls) * 870 / last_of polls

-- how many steps there are from the highest to the lowest
abbrev pub height_of : Frame → ℕ
height_of frame = max (frame.above + frame.below) 1

-- the highest margin stands at 70 and the lowest at 420
abbrev pub down_at : Frame → ℤ → ℕ
down_at frame steps = 70 + nat_abs (int_max (pos frame.above -ℤ steps) (pos 0)) * 350 / height_of frame

-- how far a margin is above nought, and below
abbrev pub rise_by : ℤ → ℕ
rise_by m = unsigned_abs (int_max m (pos 0))

abbrev pub fall_by : ℤ → ℕ
fall_by m = unsigned_abs (int_min m (pos 0))

-- how far the first n margins rise above nought, and fall below
abbrev pub rise_of : (ℕ → Answered) → ℕ → ℕ
rise_of answers zero = 0
rise_of answers (suc n) = max (rise_of answers n) (rise_by (answers n).margin)

abbrev pub fall_of : (ℕ → Answered) → ℕ → ℕ
fall_of answers zero = 0
fall_of answers (suc n) = max (fall_of answers n) (fall_by (answers n).margin)

-- the same of columns
abbrev pub rise_over : List Column → ℕ
rise_over [] = 0
rise_over (c ∷ cs) = max (rise_by c.highest) (rise_over cs)

abbrev pub fall_over : List Column → ℕ
fall_over [] = 0
fall_over (c ∷ cs) = max (fall_by c.lowest) (fall_over cs)

-- one step high where all margins are nought
abbrev pub framed : ℕ → ℕ → ℕ → Frame
framed polls above below = record { polls = polls; above = cond (nat_eq (above + below) 0) 1 above; below = below }

-- the frame of the first n answers, which has them all and nought
abbrev pub frame_shown : (ℕ → Answered) → ℕ → Frame
frame_shown answers n = framed n (rise_of answers n) (fall_of answers n)

abbrev pub frame_over : ℕ → List Column → Frame
frame_over polls columns = framed polls (rise_over columns) (fall_over columns)
