-- The heads passed are in a zone: what is left gives the answer. Assumes nothing.
use Rattle.std.proofs.Common.{◌≡◌, ℕ, ◌+◌, List}
use Rattle.std.specs.List.{list_any}
use Rattle.formulas.specs.Formula.{among}
use Rattle.entries.specs.Heads.{heads}
use Rattle.sheets.specs.Outlines.{SheetZone}
use Rattle.sheets.specs.Reading.{all_zoned}
use Rattle.sheets.proofs.reader.Reader.all_zoned.Given as goal

abbrev pub invariant-loop-head : goal.invariant-loop-head
invariant-loop-head l = (zs : List SheetZone) → ((h : ℕ) → among h (heads l.self.heads.bits) ≡ list_any (λ z. among h z.heads) zs) → (left : ℕ) → l.head + left ≡ l.self.total → all_zoned zs 0 l.self.total ≡ all_zoned zs l.head left
