use Rattle.std.proofs.Common.{◌++◌, subst}
use Rattle.std.specs.Fmt.{WritesInCalls}
use Rattle.std.proofs.Output.{writes_in_calls_append}
use Rattle.desk.specs.Pictures.{along_text, heading_text, title_text, up_text}
use Rattle.desk.proofs.soaks.Soak.write_names.Goals as goal

pub returns : goal.returns
returns g c =
    let took = g.W.Write.write_str_gives in
    let unit = g.S.Measured.told_in in
    let last = c.writeln-3.new.self in
    let place = c.args.place.now in
    let title : WritesInCalls took c.args.out.now title_text c.write.new.self = c.in_ok-write.ensures.writes in
    let heading : WritesInCalls took c.write.new.self (heading_text place) c.writeln.new.self = c.in_ok-writeln.ensures.writes in
    let along : WritesInCalls took c.writeln.new.self along_text c.writeln-2.new.self = c.in_ok-writeln-2.ensures.writes in
    let up : WritesInCalls took c.writeln-2.new.self (up_text unit) last = subst (λ u. WritesInCalls took c.writeln-2.new.self (up_text u) last) c.unit-unit.ensures c.in_ok-writeln-3.ensures.writes in
    let axes : WritesInCalls took c.writeln.new.self (along_text ++ up_text unit) last = writes_in_calls_append took c.writeln.new.self along_text c.writeln-2.new.self (up_text unit) last along up in
    writes_in_calls_append took c.args.out.now title_text c.write.new.self (heading_text place ++ (along_text ++ up_text unit)) last title
    (writes_in_calls_append took c.write.new.self (heading_text place) c.writeln.new.self (along_text ++ up_text unit) last heading axes)
