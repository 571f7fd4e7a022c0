use Rattle.std.specs.Fmt.{WritesInCalls}
use Rattle.desk.specs.Columns.{each_of}
use Rattle.std.proofs.Common.{rules, ◌≡◌, ◌++◌, None, refl, sym, subst}
use Rattle.formulas.specs.Formula.{horizon}
use Rattle.rules.specs.Places.{place_means}
use Rattle.rules.specs.Rules.{zone, formula}
use Rattle.desk.specs.Answers.{answers_of, polls_of}
use Rattle.desk.specs.Pictures.{close_text, paper_text, last_text, names_text, open_text, picture_text}
use Rattle.desk.specs.Rows.{place_answers, place_polls}
use Rattle.std.proofs.Output.{writes_in_calls_append}
use Rattle.desk.specs.Summaries.{IsOutcome}
use Rattle.desk.proofs.PictureLaws.{sketch_are, last_are, outcome_are}
use Rattle.desk.proofs.soaks.Soak.plot.Goals as goal
use Rattle.desk.proofs.soaks.Soak.plot.Goals.{in-Answered+in_ok-write_sketch-in-Answered, in-Waiting+in_ok-write_waiting-in-Waiting}

pub returns-clause-picture : goal.returns-clause-picture
returns-clause-picture g c =
    let took = g.W.Write.write_str_gives in
    let unit = g.S.Measured.told_in in
    let sm = g.S.Scale.model c.args.self.now.scale in
    let rm = g.R.Record.model c.args.self.now.«record».now in
    let rule = c.rule-rule.result in
    let means = place_means c.args.place.now in
    let heard = c.in_ok-follow.ensures.heard (record { tally = record { summary = None }; columns = c.over.result }) (refl, c.over.ensures.columns (answers_of sm rule rm)) in
    let answers = answers_of sm rule rm in
    let h = horizon (formula rule) in
    let polls = polls_of (formula rule) rm in
    let summed : IsOutcome answers h rm.polls c.outcome_of.result = c.outcome_of.ensures answers heard.0 in
    let columns = c.follow.new.listener.columns in
    let each : c.over.result.each ≡ each_of polls = search rules in
    let drawn : WritesInCalls took c.write_names.new.out (last_text unit answers polls c.outcome_of.result) c.match-outcome_of.out =
    elim c.match-outcome_of.branch [
      | in-Answered+in_ok-write_sketch-in-Answered w ↦
          let nearest = w.in-Answered.summary.nearest in
          subst (WritesInCalls took c.write_names.new.out (last_text unit answers polls c.outcome_of.result)) (sym w.out-is)
          (subst (λ o. WritesInCalls took c.write_names.new.out (last_text unit answers polls o) w.write_sketch.new.out) (sym w.in-Answered.is)
          (subst (λ l. WritesInCalls took c.write_names.new.out l w.write_sketch.new.out)
          (sketch_are unit answers columns.each c.over.result.each polls w.in-Answered.summary.polls columns.columns.items nearest (subst (IsOutcome answers h rm.polls) w.in-Answered.is summed).polls heard.1.each_is each heard.1.are)
          (w.in_ok-write_sketch-in-Answered).ensures))
      | in-Waiting+in_ok-write_waiting-in-Waiting w ↦
          subst (WritesInCalls took c.write_names.new.out (last_text unit answers polls c.outcome_of.result)) (sym w.out-is)
          (subst (λ o. WritesInCalls took c.write_names.new.out (last_text unit answers polls o) w.write_waiting.new.out) (sym w.in-Waiting.is) (w.in_ok-write_waiting-in-Waiting).ensures)
    ] in
    let zone_is : zone rule ≡ means.1 = search rules in
    let formula_is : formula rule ≡ means.0 = search rules in
    let first = c.args.out.now in
    let last = c.writeln-3.new.self in
    let place = c.args.place.now in
    let o = c.outcome_of.result in
    let words = last_text unit (place_answers sm place rm) (place_polls place rm) o in
    let names = names_text unit place in
    let meant : WritesInCalls took c.write_names.new.out words c.match-outcome_of.out = last_are took c.write_names.new.out c.match-outcome_of.out unit sm rm rule means.1 means.0 o zone_is formula_is drawn in
    let opened : WritesInCalls took first open_text c.writeln.new.self = c.in_ok-writeln.ensures.writes in
    let paper : WritesInCalls took c.writeln.new.self paper_text c.writeln-2.new.self = c.in_ok-writeln-2.ensures.writes in
    let closed : WritesInCalls took c.match-outcome_of.out close_text last = c.in_ok-writeln-3.ensures.writes in
    let behind_names : WritesInCalls took c.write_names.new.out (words ++ close_text) last = writes_in_calls_append took c.write_names.new.out words c.match-outcome_of.out close_text last meant closed in
    let behind_paper : WritesInCalls took c.writeln-2.new.self (names ++ (words ++ close_text)) last =
    writes_in_calls_append took c.writeln-2.new.self names c.write_names.new.out (words ++ close_text) last c.in_ok-write_names.ensures behind_names in
    let behind_open : WritesInCalls took c.writeln.new.self (paper_text ++ (names ++ (words ++ close_text))) last =
    writes_in_calls_append took c.writeln.new.self paper_text c.writeln-2.new.self (names ++ (words ++ close_text)) last paper behind_paper in (
      picture_text unit place (place_answers sm place rm) (place_polls place rm) o,
      record { comes_to = o; is = outcome_are sm rm rule means.1 means.0 o zone_is formula_is summed; text_is = refl },
      writes_in_calls_append took first open_text c.writeln.new.self (paper_text ++ (names ++ (words ++ close_text))) last opened behind_open,
    )
