use Rattle.std.specs.Fmt.{WritesInCalls}
use Rattle.std.proofs.Output.{writes_in_calls_append}
use Rattle.desk.specs.Pictures.{rows_text, start_text}
use Rattle.desk.proofs.plot.write_waiting.Goals as goal

pub returns : goal.returns
returns g c =
    let took = g.W.Write.write_str_gives in
    let start : WritesInCalls took c.args.out.now start_text c.write.new.self = c.in_ok-write.ensures.writes in
    let words : WritesInCalls took c.write.new.self (rows_text c.args.rows) c.writeln.new.self = c.in_ok-writeln.ensures.writes in
    writes_in_calls_append took c.args.out.now start_text c.write.new.self (rows_text c.args.rows) c.writeln.new.self start words
