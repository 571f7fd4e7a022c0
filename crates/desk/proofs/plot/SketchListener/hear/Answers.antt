use Rattle.desk.proofs.plot.SketchListener.hear.Goals as goal

pub returns-clause-heard : goal.returns-clause-heard
returns-clause-heard c first answers n few e h = (c.in_ok-hear.ensures.heard first.tally answers n few e h.0, c.in_ok-hear-2.ensures.heard first.columns answers n few e h.1)
