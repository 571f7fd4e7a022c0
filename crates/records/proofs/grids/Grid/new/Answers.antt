-- The grid made has the model of what it was given. Assumes nothing.
use Rattle.std.proofs.Common.{List, [], ap, ◌∙◌}
use Rattle.records.specs.Grid.{grid_record}
use Rattle.records.specs.declared.grids.Grid.{Grid}
use Rattle.records.proofs.ModelLaws.{made_or_empty}
use Rattle.records.proofs.grids.Grid.new.Goals as goal

pub returns : goal.returns
returns g c =
    let m = λ (v : Grid g.row.T.Denot). grid_record v.size.heads v.size.polls v.readings.now in
    let none : List g.row.T.Denot = [] in
    ap m c.unwrap_or.ensures
    ∙ made_or_empty c.made.result _ m _ _ c.made.ensures.fault c.made.ensures.grid (ap (λ h. grid_record h c.none.result.polls none) c.none.ensures.heads)
