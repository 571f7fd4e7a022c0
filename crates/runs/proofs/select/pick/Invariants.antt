use Rattle.std.proofs.Common.{◌≤◌, map, length, take}
use Rattle.std.specs.List.{All}
use Rattle.runs.proofs.Bounding.{Bounded, IsNot}
use Rattle.runs.proofs.select.pick.Given as goal

abbrev pub invariant-loop-x : goal.invariant-loop-x
invariant-loop-x g l =
    let whole = (g.S.Scale.model l.scale).whole in
    record {
      within : l.x-index ≤ length l.margins;
      bounded : Bounded whole l.k (map whole l.margins) l.low l.high;
      others : All (IsNot whole l.k (map whole l.margins)) (take l.x-index l.margins);
    }
