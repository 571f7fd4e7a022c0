use Rattle.std.proofs.Common.{rules, ◌≡◌, w32, to_z, of_z}
use Rattle.desk.proofs.TableLaws.{line_written}
use Rattle.desk.proofs.margins.LinesListener.hear.Goals as goal

pub returns-clause-heard : goal.returns-clause-heard
returns-clause-heard g c first answers n few e old =
    let steps : to_z w32 (of_z w32 c.args.answered.margin) ≡ c.args.answered.margin = search rules in (
      line_written g.W.Write.write_str_gives c.args.self.now.unit answers n c.args.answered _ c.verdict_word-verdict.result.now first.out c.args.self.now.out c.writeln.new.self e steps c.verdict_word-verdict.ensures old.0
          c.in_ok-writeln.ensures.writes,
      old.1,
    )
