-- The first fault that comes is the first that was still to come. Assumes nothing.
use Rattle.std.proofs.Common.{◌≡◌, [], ◌∷◌, Err, sym, ap, ◌∙◌, rules}
use Rattle.std.specs.Result.{result_err}
use Rattle.texts.specs.Numbers.{natural_read}
use Rattle.texts.specs.Fields.{defect_of}
use Rattle.texts.proofs.log_text.take_three.Goals as goal

pub returns-in_err-first-clause-fault : goal.returns-in_err-first-clause-fault
returns-in_err-first-clause-fault g c =
    let is : c.from_residual.result ≡ Err c.in_err-first.field-0.0 = search rules in
    let natural = defect_of natural_read in
    let reading = defect_of g.T.Written.written in
    ap result_err is ∙ sym (c.in_err-first.ensures.fault (natural ∷ reading ∷ []))

pub returns-in_err-second-clause-fault : goal.returns-in_err-second-clause-fault
returns-in_err-second-clause-fault g c =
    let is : c.from_residual-in_err-second.result ≡ Err c.in_err-second.field-0.0 = search rules in
    let natural = defect_of natural_read in
    let reading = defect_of g.T.Written.written in
    ap result_err is ∙ sym (c.in_ok-first.ensures.fault (natural ∷ reading ∷ []) ∙ c.in_err-second.ensures.fault (reading ∷ []))

pub returns-in_err-reading-clause-fault : goal.returns-in_err-reading-clause-fault
returns-in_err-reading-clause-fault g c =
    let is : c.from_residual-in_err-reading.result ≡ Err c.in_err-reading.field-0.0 = search rules in
    let natural = defect_of natural_read in
    let reading = defect_of g.T.Written.written in
    ap result_err is ∙ sym (c.in_ok-first.ensures.fault (natural ∷ reading ∷ []) ∙ c.in_ok-second.ensures.fault (reading ∷ []) ∙ c.in_err-reading.ensures.fault [])

pub returns-in_err-end-clause-fault : goal.returns-in_err-end-clause-fault
returns-in_err-end-clause-fault g c =
    let is : c.from_residual-in_err-end.result ≡ Err c.in_err-end.field-0.0 = search rules in
    let natural = defect_of natural_read in
    let reading = defect_of g.T.Written.written in
    ap result_err is ∙ sym (c.in_ok-first.ensures.fault (natural ∷ reading ∷ []) ∙ c.in_ok-second.ensures.fault (reading ∷ []) ∙ c.in_ok-reading.ensures.fault [] ∙ sym c.in_err-end.ensures)
