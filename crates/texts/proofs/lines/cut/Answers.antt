-- The first such byte parts the text. Assumes nothing.
use Rattle.std.proofs.Common.{◌+◌, ◌<◌, length, sym, refl, arith}
use Rattle.std.proofs.lemmas.List.{length-drop, length-take-le}
use Rattle.texts.proofs.PartLaws.{uncut_where, cut_where, whole_rest}
use Rattle.texts.proofs.lines.cut.Goals as goal

pub returns-in-Some : goal.returns-in-Some
returns-in-Some c =
    let text = c.args.text.now in
    let i = c.in-Some.at in
    let s = cut_where _ text i (sym c.in-Some.ensures) in
    let lt : i < length text = s.1 in
    simp (whole_rest (i + 1) text) (s.0, omega (arith, length-take-le i text (omega arith), length-drop (i + 1) text))

pub returns-in-None : goal.returns-in-None
returns-in-None c = (refl, uncut_where _ c.args.text.now (sym c.in-None.ensures))
