-- What reading comes to, in the words of outlines: exactly the lawful outline that the bytes spell. Assumes nothing.
use Rattle.std.specs.Prelude.{◌≡◌, ℕ, List, Ok}
use Rattle.sheets.specs.Lawful.{Lawful}
use Rattle.sheets.specs.Outlines.{Outline}
use Rattle.sheets.specs.Reading.{read}
use Rattle.sheets.specs.Spelling.{spell}

pub record ReadsExactly (xs : List ℕ) : Type 0 where
  -- what is read is spelled by the bytes, and lawful
  pub spelled : (o : Outline) → read xs ≡ Ok o → xs ≡ spell o
  pub lawful : (o : Outline) → read xs ≡ Ok o → Lawful o
  -- a lawful outline that the bytes spell is read
  pub reads : (o : Outline) → xs ≡ spell o → Lawful o → read xs ≡ Ok o
  -- and it is the only one
  pub only : (o p : Outline) → xs ≡ spell o → Lawful o → xs ≡ spell p → Lawful p → o ≡ p
