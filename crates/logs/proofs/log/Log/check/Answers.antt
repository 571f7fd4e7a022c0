-- The check answers the first fault, so it passes exactly lawful logs. Assumes nothing.
use Rattle.std.proofs.Common.{◌≡◌, Ok, rules}
use Rattle.faults.specs.Checks.{checked}
use Rattle.logs.specs.Log.{log_fault}
use Rattle.logs.proofs.LawfulLaws.{decides_result}
use Rattle.logs.proofs.log.Log.check.Goals as goal

pub returns-in_err-new-clause-lawful : goal.returns-in_err-new-clause-lawful
returns-in_err-new-clause-lawful g c =
    let is : c.from_residual.result ≡ checked (log_fault c.args.heads c.args.polls c.args.entries.now) = search rules in
    decides_result c.args.heads c.args.polls c.args.entries.now _ is

pub returns-clause-lawful : goal.returns-clause-lawful
returns-clause-lawful g c =
    let is : Ok tt ≡ checked (log_fault c.args.heads c.args.polls c.args.entries.now) = search rules in
    decides_result c.args.heads c.args.polls c.args.entries.now _ is
