-- The first fault that comes is the first that was still to come. Assumes nothing.
use Rattle.std.proofs.Common.{◌≡◌, [], ◌∷◌, Err, sym, ap, ◌∙◌, rules}
use Rattle.std.specs.Result.{result_err}
use Rattle.texts.specs.Numbers.{natural_read}
use Rattle.texts.specs.Fields.{ahead, defect_of}
use Rattle.texts.specs.Logs.{head_fault, log_test}
use Rattle.texts.proofs.log_text.read_head.Goals as goal

pub returns-in_err-take_log-clause-fault : goal.returns-in_err-take_log-clause-fault
returns-in_err-take_log-clause-fault g c =
    let is : c.from_residual.result ≡ Err c.in_err-take_log.field-0.0 = search rules in
    let natural = defect_of natural_read in
    let reading = defect_of g.T.Written.written in
    let start : ahead c.of-fields.result (log_test ∷ natural ∷ natural ∷ reading ∷ []) ≡ head_fault g.T.Written.written c.args.line.text.now = search rules in
    ap result_err is ∙ sym (c.in_err-take_log.ensures.fault (natural ∷ natural ∷ reading ∷ [])) ∙ start

pub returns-clause-fault : goal.returns-clause-fault
returns-clause-fault g c =
    let natural = defect_of natural_read in
    let reading = defect_of g.T.Written.written in
    let start : ahead c.of-fields.result (log_test ∷ natural ∷ natural ∷ reading ∷ []) ≡ head_fault g.T.Written.written c.args.line.text.now = search rules in
    c.take_three.ensures.fault ∙ sym (c.in_ok-take_log.ensures.fault (natural ∷ natural ∷ reading ∷ [])) ∙ start
