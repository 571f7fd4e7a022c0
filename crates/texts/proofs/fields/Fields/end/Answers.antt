-- What is left of the line has a field. Assumes nothing.
use Rattle.std.proofs.Common.{sym, ◌∙◌}
use Rattle.texts.proofs.FieldLaws.{surplus}
use Rattle.texts.proofs.fields.Fields.end.Goals as goal

pub returns-then-is_some : goal.returns-then-is_some
returns-then-is_some c =
    let f = c.args.self.now in
    surplus (λ text. text.now) f.line f.wanted f.column f.mark f.rest (sym c.is_some.ensures ∙ c.if-is_some.true)
