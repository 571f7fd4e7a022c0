-- The ticks of a picture and the lines of its margins. Assumes nothing.
--     poll_step_of     how far apart the ticks of polls are
--     margin_step_of   how far apart the lines of margins are
--     level_text       a line at a margin
--     ticks_text       the ticks of the polls
--     lines_text       the lines above and below nought
use Rattle.std.specs.Prelude.{ℕ, zero, suc, ◌+◌, ◌-◌, ◌*◌, ◌/◌, ◌^◌, min, max, Bool, true, false, List, [], ◌∷◌, ◌++◌, ℤ, pos, neg_ℤ, cond, codes, decimal, nat_lt}
use Rattle.std.specs.Int.{div_ceil}
use Rattle.desk.specs.Amounts.{steps_text}
use Rattle.desk.specs.Frames.{down_at, height_of, right_at}
use Rattle.desk.specs.declared.amount.Unit.{Unit}
use Rattle.desk.specs.declared.amount.Unit.TheVariants.{Count, PercentPerMetre}
use Rattle.desk.specs.declared.picture.Frame.{Frame}

-- the first of the steps of which seven are as long as a span
unfoldable pub step_in : List ℕ → ℕ → ℕ
step_in [] span = 2 ^ 32 - 1
step_in (s ∷ steps) span = cond (nat_lt (s * 7) span) (step_in steps span) (max s 1)

-- steps that read well: 1, 2 and 5 times a power of ten
abbrev pub round_steps : List ℕ
round_steps =
    1 ∷ 2 ∷ 5 ∷ 10 ∷ 20 ∷ 50 ∷ 100 ∷ 200 ∷ 500 ∷ 1000 ∷ 2000 ∷ 5000 ∷ 10000 ∷ 20000 ∷ 50000 ∷ 100000 ∷ 200000 ∷ 500000 ∷ 1000000 ∷ 2000000 ∷ 5000000 ∷ []

-- the same of 256ths: powers of two
abbrev pub halved_steps : List ℕ
halved_steps =
    1 ∷ 2 ∷ 4 ∷ 8 ∷ 16 ∷ 32 ∷ 64 ∷ 128 ∷ 256 ∷ 512 ∷ 1024 ∷ 2048 ∷ 4096 ∷ 8192 ∷ 16384 ∷ 32768 ∷ 65536 ∷ 131072 ∷ 262144 ∷ 524288 ∷ 1048576 ∷ []

abbrev pub poll_step_of : ℕ → ℕ
poll_step_of polls = step_in round_steps polls

abbrev pub margin_step_of : Unit → ℕ → ℕ
margin_step_of Count height = step_in round_steps height
margin_step_of PercentPerMetre height = step_in halved_steps height

-- the mark of a tick, and its number below
abbrev pub mark_text : ℕ → List ℕ
mark_text x =
    codes "<line x1=\"" ++ (decimal x ++ (codes "\" y1=\"" ++ (decimal 420 ++ (codes "\" x2=\"" ++ (decimal x ++ (codes "\" y2=\"" ++ (decimal 426 ++ codes "\" stroke=\"#888\"/>\n")))))))

abbrev pub number_text : ℕ → ℕ → List ℕ
number_text x poll = codes "<text x=\"" ++ (decimal x ++ (codes "\" y=\"" ++ (decimal 442 ++ (codes "\" text-anchor=\"middle\">" ++ (decimal poll ++ codes "</text>\n")))))

abbrev pub tick_at : ℕ → ℕ → List ℕ
tick_at x poll = mark_text x ++ number_text x poll

abbrev pub tick_text : ℕ → ℕ → List ℕ
tick_text polls poll = tick_at (right_at polls poll) poll

-- every so many polls from poll 0
unfoldable pub ticks_from : ℕ → ℕ → ℕ → List ℕ
ticks_from polls step zero = []
ticks_from polls step (suc n) = ticks_from polls step n ++ tick_text polls (min (n * step) (2 ^ 32 - 1))

-- as many as begin within the polls
abbrev pub ticks_text : ℕ → List ℕ
ticks_text polls = ticks_from polls (poll_step_of polls) (div_ceil polls (poll_step_of polls))

-- a line across, and its words at the left
abbrev pub across_text : List ℕ → ℕ → List ℕ
across_text colour y =
    codes "<line x1=\"" ++ (decimal 100 ++ (codes "\" y1=\"" ++ (decimal y ++ (codes "\" x2=\"" ++ (decimal 970 ++ (codes "\" y2=\"" ++ (decimal y ++ (codes "\" stroke=\"" ++ (colour ++ codes "\"/>\n")))))))))

abbrev pub beside_at : ℕ → List ℕ → List ℕ
beside_at foot words = codes "<text x=\"" ++ (decimal 92 ++ (codes "\" y=\"" ++ (decimal foot ++ (codes "\" text-anchor=\"end\">" ++ (words ++ codes "</text>\n")))))

abbrev pub beside_text : ℕ → List ℕ → List ℕ
beside_text y words = beside_at (min (y + 4) (2 ^ 64 - 1)) words

abbrev pub level_text : List ℕ → ℕ → List ℕ → List ℕ
level_text colour y words = across_text colour y ++ beside_text y words

-- at a margin of so many steps
abbrev pub margin_text : List ℕ → Unit → Frame → ℤ → List ℕ
margin_text colour unit frame steps = level_text colour (down_at frame steps) (steps_text unit steps)

-- how far from nought a line is
abbrev pub level_size : ℕ → ℕ → ℕ
level_size step at = min ((at + 1) * step) (2 ^ 31 - 1)

abbrev pub level_steps : ℕ → Bool → ℕ → ℤ
level_steps step false at = pos (level_size step at)
level_steps step true at = neg_ℤ (pos (level_size step at))

-- the first n lines above nought, or below
unfoldable pub levels_text : Unit → Frame → ℕ → Bool → ℕ → List ℕ
levels_text unit frame step below zero = []
levels_text unit frame step below (suc n) = levels_text unit frame step below n ++ margin_text (codes "#ddd") unit frame (level_steps step below n)

-- up to the highest margin and down to the lowest
abbrev pub lines_at : Unit → Frame → ℕ → List ℕ
lines_at unit frame step = levels_text unit frame step false (frame.above / step) ++ levels_text unit frame step true (frame.below / step)

abbrev pub lines_text : Unit → Frame → List ℕ
lines_text unit frame = lines_at unit frame (margin_step_of unit (height_of frame))
