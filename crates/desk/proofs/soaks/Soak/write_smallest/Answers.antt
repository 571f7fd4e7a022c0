use Rattle.std.proofs.Common.{rules, ◌≡◌, codes, None, Some, sym, subst}
use Rattle.std.specs.Fmt.{WritesInCalls}
use Rattle.std.proofs.Output.{writes_in_calls_append}
use Rattle.desk.specs.Reports.{smallest_text}
use Rattle.desk.proofs.soaks.Soak.write_smallest.Goals as goal

pub returns-in_default : goal.returns-in_default
returns-in_default g c =
    let took = g.W.Write.write_str_gives in
    let none : c.args.smallest ≡ None = search rules in
    writes_in_calls_append took c.args.out.now (codes "\n") c.writeln.new.self _ c.writeln-in_default.new.self c.in_ok-writeln.ensures.writes
    (subst (λ o. WritesInCalls took c.writeln.new.self (smallest_text g.S.Measured.told_in o) c.writeln-in_default.new.self) (sym none) c.in_ok-writeln-2.ensures.writes)

pub returns : goal.returns
returns g c =
    let took = g.W.Write.write_str_gives in
    let some : WritesInCalls took c.writeln.new.self (smallest_text g.S.Measured.told_in (Some c.in-Some.field-0)) c.writeln-2.new.self = search rules in
    writes_in_calls_append took c.args.out.now (codes "\n") c.writeln.new.self _ c.writeln-2.new.self c.in_ok-writeln.ensures.writes
    (subst (λ o. WritesInCalls took c.writeln.new.self (smallest_text g.S.Measured.told_in o) c.writeln-2.new.self) (sym c.in-Some.is) some)
