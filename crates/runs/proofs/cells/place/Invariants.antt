use Rattle.std.proofs.Common.{◌+◌, ◌^◌, ◌<◌, ◌≤◌, min, map, length}
use Rattle.runs.specs.Highest.{above}
use Rattle.runs.specs.Order.{Descending}
use Rattle.runs.proofs.cells.place.Given as goal

abbrev pub invariant-loop-level : goal.invariant-loop-level
invariant-loop-level g l =
    let whole = (g.S.Scale.model l.scale).whole in
    record {
      between : (min l.top l.laid ≤ l.level) × (l.level ≤ l.top);
      within : l.base + 2 ^ l.level ≤ length l.margins + 1;
      around : Descending (map whole l.margins) → (l.base ≤ above (whole l.m) (map whole l.margins)) × (above (whole l.m) (map whole l.margins) < l.base + 2 ^ l.level);
    }

abbrev pub invariant-loop-level-2 : goal.invariant-loop-level-2
invariant-loop-level-2 g l =
    let whole = (g.S.Scale.model l.scale).whole in
    record {
      within : l.base + 2 ^ min l.top l.level ≤ length l.margins + 1;
      around : Descending (map whole l.margins) → (l.base ≤ above (whole l.m) (map whole l.margins)) × (above (whole l.m) (map whole l.margins) < l.base + 2 ^ min l.top l.level);
    }
