use Rattle.std.proofs.Common.{◌≡◌, ◌+◌, ◌-◌, ◌<◌, None, Ok, Err, sym, subst, rules, arith}
use Rattle.formulas.specs.Formula.{horizon}
use Rattle.rules.specs.Rules.{formula}
use Rattle.watches.specs.Surveys.{polls_fault}
use Rattle.desk.specs.Answers.{answers_of}
use Rattle.desk.specs.Pairs.{BothTaken}
use Rattle.desk.specs.Told.{TellsFirst}
use Rattle.desk.specs.declared.trouble.Trouble.TheVariants.{Refused}
use Rattle.desk.proofs.HearLaws.{Heard, begins, silent, spoken, stopped, outside_tells}
use Rattle.desk.proofs.soaks.Soak.follow_in.Goals as goal
use Rattle.desk.proofs.soaks.Soak.follow_in.Goals.{in-Some+in_ok-hear, in_default}

pub loop-poll-init : goal.loop-poll-init
loop-poll-init g c =
    begins g.S.Scale.model c.args.rule.now c.args.self.now.scale (g.R.Record.model c.args.self.now.«record».now) g.L.Listener.heard c.over.result _ _ _ _ _ c.over.ensures c.new.ensures c.new-2.ensures c.requires.cells c.requires.verdict_cells

pub loop-poll-preserved : goal.loop-poll-preserved
loop-poll-preserved g c =
    let model = g.S.Scale.model in
    let rm = g.R.Record.model c.args.self.now.«record».now in
    let within = subst (λ k. c.loop-poll.poll < k) c.polls-poll-end.ensures c.loop-poll-test.true in
    let taken = c.in_ok-answered.ensures c.args.rule.now within c.loop-poll.invariant.follows in
    elim c.match-branch-2.branch [
      | in-Some+in_ok-hear w ↦
          subst (Heard model c.args.rule.now c.args.self.now.scale rm g.L.Listener.heard (c.loop-poll.poll + 1) c.take.new.pair.margins c.take.new.pair.verdicts c.take.new.cells c.take.new.verdict_cells c.args.listener.now) (sym w.listener-is)
          (spoken model c.args.rule.now c.args.self.now.scale rm g.L.Listener.heard c.loop-poll.poll _ _ _ _ _ _ c.loop-poll.invariant _ _ _ _ w.in-Some.answered w.hear.new.self within
          (subst (λ o. BothTaken model c.args.rule.now c.args.self.now.scale rm c.loop-poll.poll c.take.new.pair.margins c.take.new.pair.verdicts c.take.new.cells c.take.new.verdict_cells (Ok o)) w.in-Some.is taken)
          w.in_ok-hear.ensures.heard)
      | in_default w ↦
          subst (Heard model c.args.rule.now c.args.self.now.scale rm g.L.Listener.heard (c.loop-poll.poll + 1) c.take.new.pair.margins c.take.new.pair.verdicts c.take.new.cells c.take.new.verdict_cells c.args.listener.now) (sym w.listener-is)
          (silent model c.args.rule.now c.args.self.now.scale rm g.L.Listener.heard c.loop-poll.poll _ _ _ _ _ _ c.loop-poll.invariant _ _ _ _
          (subst (λ o. BothTaken model c.args.rule.now c.args.self.now.scale rm c.loop-poll.poll c.take.new.pair.margins c.take.new.pair.verdicts c.take.new.cells c.take.new.verdict_cells (Ok o)) w.in_default.is taken))
    ]

pub returns-in_err-answered-clause-told : goal.returns-in_err-answered-clause-told
returns-in_err-answered-clause-told g c =
    let rm = g.R.Record.model c.args.self.now.«record».now in
    let within = subst (λ k. c.loop-poll.poll < k) c.polls-poll-end.ensures c.loop-poll-test.true in
    let told : c.from_residual.result ≡ Err (Refused c.in_err-answered.field-0.0) = search rules in
    let taken = c.in_err-answered.ensures c.args.rule.now within c.loop-poll.invariant.follows in
    subst (TellsFirst g.L.Listener.stops _) (sym told)
    (stopped g.S.Scale.model c.args.rule.now c.args.self.now.scale rm g.L.Listener.heard c.loop-poll.poll _ _ _ _ _ _ c.loop-poll.invariant c.in_err-answered.field-0.0 within taken.told)

pub returns-in_err-hear-clause-told : goal.returns-in_err-hear-clause-told
returns-in_err-hear-clause-told g c =
    let told : c.from_residual-in_err-hear.result ≡ Err c.in_err-hear.field-0.0 = search rules in
    subst (TellsFirst g.L.Listener.stops _) (sym told)
    (outside_tells (Unit {0}) g.L.Listener.stops _ c.in_err-hear.field-0.0 c.in_err-hear.ensures.outside (λ e. subst g.L.Listener.stops e c.in_err-hear.ensures.stops))

pub returns-clause-told : goal.returns-clause-told
returns-clause-told g c =
    let all : c.loop-poll.poll ≡ (g.R.Record.model c.args.self.now.«record».now).polls = omega arith in
    subst (λ k. polls_fault (g.S.Scale.model c.args.self.now.scale) c.args.rule.now (g.R.Record.model c.args.self.now.«record».now) 0 k ≡ None) all c.loop-poll.invariant.fine

pub returns-clause-heard : goal.returns-clause-heard
returns-clause-heard g c first h =
    let all : c.loop-poll.poll ≡ (g.R.Record.model c.args.self.now.«record».now).polls = omega arith in
    subst (λ k. g.L.Listener.heard first c.loop-poll.listener (k - horizon (formula c.args.rule.now)) (answers_of (g.S.Scale.model c.args.self.now.scale) c.args.rule.now (g.R.Record.model c.args.self.now.«record».now)))
    all (c.loop-poll.invariant.hears first h)
