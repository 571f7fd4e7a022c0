use Rattle.std.proofs.Common.{rules, ◌++◌, codes, sym, subst}
use Rattle.std.specs.Fmt.{WritesInCalls}
use Rattle.std.proofs.Output.{writes_in_calls_append}
use Rattle.desk.specs.Reports.{number_in, outcome_text}
use Rattle.desk.proofs.soaks.Soak.write_row.Goals as goal
use Rattle.desk.proofs.soaks.Soak.write_row.Goals.{in-Waiting+in_ok-write-in-Waiting, in-Answered+in_ok-write_summary-in-Answered}

pub returns-clause-text : goal.returns-clause-text
returns-clause-text g c =
    let took = g.W.Write.write_str_gives in
    let row = c.args.row.now in
    let numbers : WritesInCalls took c.args.out.now (number_in 5 row.rule_number ++ (number_in 6 row.zone_number ++ number_in 9 row.horizon)) c.write.new.self = search rules in
    let outcome : WritesInCalls took c.write.new.self (outcome_text g.S.Measured.told_in row.outcome) c.match-outcome.out =
    elim c.match-outcome.branch [
      | in-Waiting+in_ok-write-in-Waiting w ↦
          subst (WritesInCalls took c.write.new.self (outcome_text g.S.Measured.told_in row.outcome)) (sym w.out-is)
          (subst (λ o. WritesInCalls took c.write.new.self (outcome_text g.S.Measured.told_in o) w.write-in-Waiting.new.self) (sym w.in-Waiting.is) w.in_ok-write-in-Waiting.ensures.writes)
      | in-Answered+in_ok-write_summary-in-Answered w ↦
          subst (WritesInCalls took c.write.new.self (outcome_text g.S.Measured.told_in row.outcome)) (sym w.out-is)
          (subst (λ o. WritesInCalls took c.write.new.self (outcome_text g.S.Measured.told_in o) w.write_summary.new.out) (sym w.in-Answered.is) (w.in_ok-write_summary-in-Answered).ensures.text)
    ] in
    writes_in_calls_append took c.args.out.now _ c.write.new.self _ c.writeln.new.self numbers (writes_in_calls_append took c.write.new.self _ c.match-outcome.out (codes "\n") c.writeln.new.self outcome c.in_ok-writeln.ensures.writes)
