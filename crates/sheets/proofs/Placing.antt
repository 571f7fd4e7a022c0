-- The rules of a sheet, placed. Assumes nothing.
use Rattle.std.proofs.Common.{◌≡◌, ℕ, ◌+◌, ◌<◌, ◌≤◌, List, ◌++◌, length, drop, Ok, Err, refl, sym, ap, ◌∙◌, arith}
use Rattle.std.proofs.Math.Seq.{take-append_seam}
use Rattle.std.proofs.lemmas.Bool.{cond-true, cond-false, le-leb, lt-leb}
use Rattle.std.proofs.lemmas.List.{length-map, length-append, length-drop}
use Rattle.std.proofs.lemmas.Slice.{drop-append-drop}
use Rattle.rules.specs.declared.place.RulePlace.{RulePlace}
use Rattle.sheets.specs.Loading.{line, lines, Filled, counts}
use Rattle.sheets.specs.Outlines.{Outline, rules_of, zones, rules}
use Rattle.sheets.specs.Reading.{read, read_into}
use Rattle.sheets.specs.Standing.{InSheet}
use Rattle.sheets.specs.declared.fault.SheetFault.TheVariants.{TooFewPlaces}
use Rattle.sheets.specs.declared.reader.Reader.{Reader}
use Rattle.sheets.proofs.Numbers.{same_count}
use Rattle.sheets.proofs.RuleReading.{numbers}

module _ (o : Outline) (r : Reader) (met : InSheet o r) (ps : List RulePlace) (same : ps ≡ r.rules.items) where
  -- the places read hold all rules
  pub as_many : length ps ≡ length (rules o)
  as_many =
      ap length same
      ∙ sym (length-map r.rules.items line)
      ∙ ap length met.rules
      ∙ same_count (λ l. l.number) (λ r. r.number) (lines (zones o)) (rules_of (zones o)) (numbers (zones o))

  pub counted : (n : ℕ) → n ≡ length r.zones.items → record { groups = r.groups; zones = n; rules = length ps } ≡ counts o
  counted n e =
      let groups : r.groups ≡ length o.groups = met.counted in
      let zones : n ≡ length (zones o) = e ∙ ap length met.numbers ∙ length-map (zones o) (λ z. z.number) in
      let rules : length ps ≡ length (rules o) = as_many in
      cc

  module _ (xs : List ℕ) (places : ℕ) (is : read xs ≡ Ok o) where
    pub too_few : places < length ps → read_into xs places ≡ Err (TooFewPlaces (length ps) places)
    too_few l = rw (is, as_many) (cond-false _ _ _ (lt-leb (length (rules o)) places (omega (arith, as_many))))

    pub enough : length ps ≤ places → read_into xs places ≡ Ok o
    enough l = rw is (cond-true _ _ _ (le-leb (length (rules o)) places (omega (arith, as_many))))

  module _ (before : List RulePlace) (fits : length ps ≤ length before) where
    pub filled : Filled o before (ps ++ drop (length ps) before)
    filled = record {
      holds = rw (sym as_many, take-append_seam ps (drop (length ps) before), same) met.rules;
      behind = rw (sym as_many) (drop-append-drop (length ps) before ps (length ps) (omega arith) refl);
      same_length = length-append ps (drop (length ps) before) ∙ ap (λ n. length ps + n) (length-drop (length ps) before) ∙ omega arith;
    }
