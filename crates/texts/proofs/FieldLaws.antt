-- What refuses a line, step by step. Assumes nothing.
use Rattle.std.proofs.Common.{◌≡◌, ℕ, true, List, [], is_some, Some, None, Option, sym, ap}
use Rattle.std.specs.Option.{option_map}
use Rattle.texts.proofs.PartLaws.{some_parts}
use Rattle.texts.specs.Fields.{at, fields_fault, fields_in}
use Rattle.texts.specs.declared.refusals.Defect.TheVariants.{TooMany}

-- a field that is left is too many
pub surplus : {R : Type 0} (now : R → List ℕ) (line wanted column mark : ℕ) (o : Option R) → is_some o ≡ true → Some (at line column (TooMany wanted)) ≡ fields_fault line wanted column [] (fields_in mark (option_map now o))
surplus now line wanted column mark None e = cc
surplus now line wanted column mark (Some text) e =
    let s = some_parts _ (now text) in
    sym (ap (fields_fault line wanted column []) s.2)
