use Rattle.std.proofs.Common.{rules, subst}
use Rattle.std.specs.Fmt.{WritesInCalls}
use Rattle.std.proofs.Output.{writes_in_calls_append}
use Rattle.desk.specs.Amounts.{amount_text}
use Rattle.desk.specs.Ticks.{across_text, beside_at, beside_text}
use Rattle.desk.proofs.plot.write_level.Goals as goal

pub returns : goal.returns
returns g c =
    let took = g.W.Write.write_str_gives in
    let first = c.args.out.now in
    let last = c.writeln-2.new.self in
    let colour = c.args.colour.now in
    let words = amount_text c.args.margin in
    let across : WritesInCalls took first (across_text colour c.args.y) c.writeln.new.self = c.in_ok-writeln.ensures.writes in
    let at_foot : WritesInCalls took c.writeln.new.self (beside_at c.saturating_add-foot.result words) last = search rules in
    let beside : WritesInCalls took c.writeln.new.self (beside_text c.args.y words) last = subst (λ foot. WritesInCalls took c.writeln.new.self (beside_at foot words) last) c.saturating_add-foot.ensures at_foot in
    writes_in_calls_append took first (across_text colour c.args.y) c.writeln.new.self (beside_text c.args.y words) last across beside
