use Rattle.std.proofs.Common.{rules, ◌≡◌, ap}
use Rattle.std.specs.Fmt.{sign_text, styled_decimal}
use Rattle.std.specs.Int.{is_negative}
use Rattle.std.proofs.Output.{has_written_of_eq}
use Rattle.desk.proofs.DecimalLaws.{percent_text}
use Rattle.desk.proofs.amount.AmountDisplay.fmt.Goals as goal
use Rattle.desk.proofs.amount.AmountDisplay.fmt.Goals.{then-self-lt0, else-self-lt0}

pub returns-clause-writes : goal.returns-clause-writes
returns-clause-writes g c plain ok =
    let f = c.fraction_of-digits.result in
    let sign : c.if-self-lt0.sign.now ≡ sign_text (is_negative c.args.self.now.steps) = elim c.if-self-lt0.branch [ then-self-lt0 w ↦ search rules | else-self-lt0 w ↦ search rules ] in
    has_written_of_eq _ _ _ _ _
    (percent_text c.args.self.now.unit c.args.self.now.steps c.unsigned_abs-size.result c.if-self-lt0.sign.now _ f (search rules) (search rules) sign c.fraction_of-digits.ensures.shortest c.if-places-eq0.false
    (ap (λ s. styled_decimal s f.digits) c.laid_out.ensures))
    (c.write-2.ensures.writes plain ok)
