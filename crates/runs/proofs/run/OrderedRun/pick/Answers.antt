use Rattle.std.proofs.Common.{◌≡◌, take, ◌∙◌, sym}
use Rattle.runs.specs.Cells.{in_place}
use Rattle.runs.proofs.Picks.{got, in_place_none, in_place_at, picked}
use Rattle.runs.proofs.run.OrderedRun.pick.Goals as goal

pub returns-in_err-at : goal.returns-in_err-at
returns-in_err-at g c =
    let k = c.args.k in
    let ms = take c.args.self.now.kept c.args.self.now.cells.now in
    let stands : c.from_residual.result ≡ in_place k ms = c.from_residual.ensures ∙ sym (in_place_none k ms (c.in_err-at.ensures)) in
    record { stands = stands; highest = λ whole o. picked whole k ms _ stands o.falls }

pub returns : goal.returns
returns g c =
    let k = c.args.k in
    let ms = take c.args.self.now.kept c.args.self.now.cells.now in
    let at = c.in_ok-at.ensures in
    let stands : c.copied.result ≡ in_place k ms = c.copied.ensures ∙ got ms c.in_ok-at.at _ c.get.ensures.lookup ∙ in_place_at k c.in_ok-at.at ms at.0 at.1 in
    record { stands = stands; highest = λ whole o. picked whole k ms _ stands o.falls }
