use Rattle.std.proofs.Common.{◌≡◌, ℕ, ◌<◌, ◌≤◌, Bool, true, false, eqb, List, map, length, Ok, Err, sym, ap, ◌∙◌, rules, tests, arith}
use Rattle.std.proofs.lemmas.Bool.{cond-true, cond-false, lt-ltb, le-ltb, eqb-true, eqb-false}
use Rattle.std.proofs.lemmas.Iterator.{YieldsList-from_slice}
use Rattle.std.proofs.lemmas.Iterator.Search.{any_from_yields_List}
use Rattle.std.proofs.lemmas.List.{length-map}
use Rattle.std.specs.List.{list_any}
use Rattle.sheets.specs.Outlines.{SheetZone}
use Rattle.sheets.specs.Parts.{zone_number}
use Rattle.sheets.specs.declared.fault.SheetFault.TheVariants.{ZoneNumberTwice, TooManyZones}
use Rattle.sheets.specs.declared.sizes.TheConstants.{ZONES}
use Rattle.sheets.proofs.Numbers.{has_number}
use Rattle.sheets.proofs.reader.Reader.check_zone.Goals as goal

-- whether an earlier zone has the number, by the numbers kept
module _ (at n : ℕ) (ns : List ℕ) (zs : List SheetZone) (k : ns ≡ map (λ z. z.number) zs) where
  earlier : (b : Bool) → b ≡ list_any (λ m. eqb m n) ns → list_any (λ z. eqb z.number n) zs ≡ b
  earlier b e = has_number (λ z. z.number) n zs ∙ ap (list_any (λ m. eqb m n)) (sym k) ∙ sym e

  count : length ns ≡ length zs
  count = ap length k ∙ length-map zs (λ z. z.number)

  twice : (b : Bool) → b ≡ list_any (λ m. eqb m n) ns → b ≡ true → Err (ZoneNumberTwice at n) ≡ zone_number at n zs
  twice b e t = sym (cond-true _ _ _ (earlier b e ∙ t))

  no_room : (b : Bool) → b ≡ list_any (λ m. eqb m n) ns → b ≡ false → ZONES ≤ length ns → Err (TooManyZones at) ≡ zone_number at n zs
  no_room b e f l = sym (cond-false _ _ _ (earlier b e ∙ f) ∙ cond-false _ _ _ (le-ltb (length zs) ZONES (omega (arith, count))))

  room : (b : Bool) → b ≡ list_any (λ m. eqb m n) ns → b ≡ false → length ns < ZONES → Ok tt ≡ zone_number at n zs
  room b e f l = sym (cond-false _ _ _ (earlier b e ∙ f) ∙ cond-true _ _ _ (lt-ltb (length zs) ZONES (omega (arith, count))))

pub returns-then-any-clause-value : goal.returns-then-any-clause-value
returns-then-any-clause-value c zs k =
    twice _ _ _ zs k c.any.result
    (any_from_yields_List (λ m. eqb m c.args.number) _ _ c.any.result c.any.ensures.ran (YieldsList-from_slice c.args.self.now.zones.items cc) (λ x b q r. search (rules, tests)))
    c.if-any.true

pub returns-then-is_full-clause-value : goal.returns-then-is_full-clause-value
returns-then-is_full-clause-value c zs k =
    no_room _ _ c.args.self.now.zones.items zs k c.any.result
    (any_from_yields_List (λ m. eqb m c.args.number) _ _ c.any.result c.any.ensures.ran (YieldsList-from_slice c.args.self.now.zones.items cc) (λ x b q r. search (rules, tests)))
    c.if-any.false (omega (arith, eqb-true _ _ (sym c.is_full.ensures.value ∙ c.if-is_full.true)))

pub returns-clause-value : goal.returns-clause-value
returns-clause-value c zs k =
    room _ _ c.args.self.now.zones.items zs k c.any.result
    (any_from_yields_List (λ m. eqb m c.args.number) _ _ c.any.result c.any.ensures.ran (YieldsList-from_slice c.args.self.now.zones.items cc) (λ x b q r. search (rules, tests)))
    c.if-any.false (omega (arith, eqb-false _ _ (sym c.is_full.ensures.value ∙ c.if-is_full.false), c.is_full.ensures.fits))
