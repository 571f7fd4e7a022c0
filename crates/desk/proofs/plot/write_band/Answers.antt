use Rattle.std.proofs.Common.{◌++◌, length}
use Rattle.std.specs.Fmt.{WritesInCalls}
use Rattle.std.proofs.Output.{writes_in_calls_append}
use Rattle.desk.specs.Bands.{begin_text, end_text, highest_text, lowest_text}
use Rattle.desk.proofs.plot.write_band.Goals as goal

pub returns : goal.returns
returns g c =
    let took = g.W.Write.write_str_gives in
    let first = c.args.out.now in
    let last = c.writeln.new.self in
    let frame = c.args.frame.now in
    let each = c.args.columns.now.each in
    let cs = c.args.columns.now.columns.items in
    let high = highest_text frame each cs (length cs) in
    let low = lowest_text frame each cs (length cs) in
    let begin : WritesInCalls took first begin_text c.write.new.self = c.in_ok-write.ensures.writes in
    let end : WritesInCalls took c.write_lowest.new.out end_text last = c.in_ok-writeln.ensures.writes in
    let back : WritesInCalls took c.write_highest.new.out (low ++ end_text) last = writes_in_calls_append took c.write_highest.new.out low c.write_lowest.new.out end_text last c.in_ok-write_lowest.ensures end in
    let along : WritesInCalls took c.write.new.self (high ++ (low ++ end_text)) last = writes_in_calls_append took c.write.new.self high c.write_highest.new.out (low ++ end_text) last c.in_ok-write_highest.ensures back in
    writes_in_calls_append took first begin_text c.write.new.self (high ++ (low ++ end_text)) last begin along
