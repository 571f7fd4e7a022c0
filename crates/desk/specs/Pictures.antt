-- A picture as text. Assumes nothing.
--     names_text     the rule and its zone, and the axes
--     ringed_text    its nearest margin, ringed
--     sketch_text    lines, ticks, band and the nearest margin
--     last_text      the sketch, or how many rows are to come
--     picture_text   all of the picture
--     IsPicture      a text is the picture of what a rule comes to
use Rattle.std.specs.Prelude.{◌≡◌, ℕ, List, ◌++◌, pos, codes, decimal}
use Rattle.formulas.specs.Formula.{horizon}
use Rattle.records.specs.Model.{RecordModel}
use Rattle.rules.specs.Places.{place_means}
use Rattle.rules.specs.declared.place.RulePlace.{RulePlace}
use Rattle.scales.specs.Model.{ScaleModel}
use Rattle.desk.specs.Amounts.{steps_text, unit_text}
use Rattle.desk.specs.Bands.{band_text}
use Rattle.desk.specs.Columns.{columns_of, each_of}
use Rattle.desk.specs.Frames.{down_at, frame_over, frame_shown, right_at}
use Rattle.desk.specs.Rows.{place_answers, place_polls}
use Rattle.desk.specs.Summaries.{IsOutcome}
use Rattle.desk.specs.Tables.{verdict_text}
use Rattle.desk.specs.Ticks.{lines_text, margin_text, ticks_text}
use Rattle.desk.specs.declared.amount.Unit.{Unit}
use Rattle.desk.specs.declared.answered.Answered.{Answered}
use Rattle.desk.specs.declared.columns.Column.{Column}
use Rattle.desk.specs.declared.outcome.Outcome.{Outcome}
use Rattle.desk.specs.declared.outcome.Outcome.TheVariants as outcome
use Rattle.desk.specs.declared.picture.Frame.{Frame}

abbrev pub heading_text : RulePlace → List ℕ
heading_text place = codes "Rule " ++ (decimal place.rule_number ++ (codes ", zone " ++ (decimal place.zone_number ++ codes ": margin over the soak</text>\n")))

abbrev pub nearest_text : Unit → Answered → List ℕ
nearest_text unit a =
    codes "nearest to tripping: " ++ (steps_text unit a.margin ++ (codes " " ++ (unit_text unit ++ (codes " at poll " ++ (decimal a.poll ++ (codes ", verdict " ++ (verdict_text a.yes ++ codes "</text>\n")))))))

-- the axes, named at their middles
abbrev pub along_text : List ℕ
along_text = codes "<text x=\"" ++ (decimal 535 ++ (codes "\" y=\"" ++ (decimal 466 ++ codes "\" text-anchor=\"middle\">poll</text>\n")))

abbrev pub up_text : Unit → List ℕ
up_text unit = codes "<text transform=\"translate(24 " ++ (decimal 245 ++ (codes ") rotate(-90)\" text-anchor=\"middle\">margin in " ++ (unit_text unit ++ codes "</text>\n")))

-- where the heading stands
abbrev pub title_text : List ℕ
title_text = codes "<text x=\"" ++ (decimal 100 ++ codes "\" y=\"30\" font-size=\"18\">")

abbrev pub names_text : Unit → RulePlace → List ℕ
names_text unit place = title_text ++ (heading_text place ++ (along_text ++ up_text unit))

-- a ring around what stands there
abbrev pub ring_text : ℕ → ℕ → List ℕ
ring_text x y =
    codes "<circle cx=\"" ++ (decimal x ++ (codes "\" cy=\"" ++ (decimal y ++ codes "\" r=\"5\" fill=\"none\" stroke=\"#c00\" stroke-width=\"2\"/>\n")))

-- a line through it, from the highest margin to the lowest
abbrev pub plumb_text : ℕ → List ℕ
plumb_text x =
    codes "<line x1=\"" ++ (decimal x ++ (codes "\" y1=\"" ++ (decimal 70 ++ (codes "\" x2=\"" ++ (decimal x ++ (codes "\" y2=\"" ++ (decimal 420 ++ codes "\" stroke=\"#c00\" stroke-dasharray=\"2 4\"/>\n")))))))

-- under the heading
abbrev pub tag_text : List ℕ
tag_text = codes "<text x=\"" ++ (decimal 100 ++ (codes "\" y=\"" ++ (decimal 52 ++ codes "\" fill=\"#c00\">")))

abbrev pub ringed_at : Unit → ℕ → ℕ → Answered → List ℕ
ringed_at unit x y a = ring_text x y ++ (plumb_text x ++ (tag_text ++ nearest_text unit a))

-- a ring where the poll and its margin stand, a line through it, and the words
abbrev pub ringed_text : Unit → Frame → Answered → List ℕ
ringed_text unit frame a = ringed_at unit (right_at frame.polls a.poll) (down_at frame a.margin) a

-- how many rows are to come
abbrev pub start_text : List ℕ
start_text = codes "<text x=\"" ++ (decimal 100 ++ (codes "\" y=\"" ++ (decimal 70 ++ codes "\">")))

abbrev pub rows_text : ℕ → List ℕ
rows_text rows = codes "waiting: " ++ (decimal rows ++ codes " rows to come</text>\n")

abbrev pub waiting_text : ℕ → List ℕ
waiting_text rows = start_text ++ rows_text rows

-- the lines of the margins, the ticks of the polls, a band, the line of nought, and the nearest margin
abbrev pub sketch_text : Unit → Frame → List ℕ → Answered → List ℕ
sketch_text unit frame band nearest =
    lines_text unit frame ++ (ticks_text frame.polls ++ (band ++ (margin_text (codes "#c00") unit frame (pos 0) ++ ringed_text unit frame nearest)))

-- of columns of so many polls each
abbrev pub sketch_in : Unit → Frame → ℕ → List Column → Answered → List ℕ
sketch_in unit frame each columns nearest = sketch_text unit frame (band_text frame each columns) nearest

abbrev pub sketch_over : Unit → ℕ → ℕ → List Column → Answered → List ℕ
sketch_over unit polls each columns nearest = sketch_in unit (frame_over polls columns) each columns nearest

-- of the columns of the first n answers
abbrev pub sketch_shown : Unit → (ℕ → Answered) → ℕ → Answered → List ℕ
sketch_shown unit answers n nearest = sketch_in unit (frame_shown answers n) (each_of n) (columns_of (each_of n) answers n) nearest

abbrev pub last_text : Unit → (ℕ → Answered) → ℕ → Outcome → List ℕ
last_text unit answers n (outcome.Waiting rows) = waiting_text rows
last_text unit answers n (outcome.Answered s) = sketch_shown unit answers n s.nearest

-- white paper of the picture's size
abbrev pub open_text : List ℕ
open_text =
    codes "<svg xmlns=\"http://www.w3.org/2000/svg\" viewBox=\"0 0 " ++ (decimal 1000 ++ (codes " " ++ (decimal 480 ++ codes "\" font-family=\"sans-serif\" font-size=\"13\">\n")))

abbrev pub paper_text : List ℕ
paper_text = codes "<rect width=\"" ++ (decimal 1000 ++ (codes "\" height=\"" ++ (decimal 480 ++ codes "\" fill=\"#fff\"/>\n")))

abbrev pub close_text : List ℕ
close_text = codes "</svg>\n"

-- of the first n answers of the rule of a place, and what it comes to
abbrev pub picture_text : Unit → RulePlace → (ℕ → Answered) → ℕ → Outcome → List ℕ
picture_text unit place answers n o = open_text ++ (paper_text ++ (names_text unit place ++ (last_text unit answers n o ++ close_text)))

-- what the rule of the place comes to, and the picture that says it
pub record IsPicture {Reading Margin : Type 0} (sm : ScaleModel Reading Margin) (unit : Unit) (place : RulePlace) (rm : RecordModel Reading) (text : List ℕ) : Type 0 where
  pub comes_to : Outcome
  pub is : IsOutcome (place_answers sm place rm) (horizon (place_means place).0) rm.polls comes_to
  pub text_is : text ≡ picture_text unit place (place_answers sm place rm) (place_polls place rm) comes_to
