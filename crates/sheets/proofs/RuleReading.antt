-- What a reader has after one rule more of a zone. Assumes nothing.
use Rattle.std.proofs.Common.{◌≡◌, ℕ, ◌≤◌, Bool, true, false, cond, List, [], ◌∷◌, ◌++◌, map, length, take, nat_le, Ok, Err, Result, refl, sym, ap, ap₂, ◌∙◌, append-nil, append_assoc, arith}
use Rattle.std.proofs.lemmas.List.{map-append, map_push, take_all, length-take}
use Rattle.std.proofs.lemmas.Simd.{map-map}
use Rattle.std.proofs.lemmas.List.Folds.{list_any-append}
use Rattle.std.proofs.lemmas.Grind.{flat_map-append}
use Rattle.std.specs.Int.{w16, from_le_bytes}
use Rattle.faults.specs.Checks.{on}
use Rattle.formulas.specs.Formula.{Formula, among}
use Rattle.entries.specs.Heads.{heads}
use Rattle.rules.specs.Places.{place_means, Numbered}
use Rattle.rules.specs.declared.place.RulePlace.{RulePlace}
use Rattle.sheets.specs.Layout.{StretchModel, PieceModel, behind, split, of_kind, fields, word_at}
use Rattle.sheets.specs.Loading.{line, lines, zone_lines, line_of}
use Rattle.sheets.specs.Outlines.{SheetZone, SheetRule, rules_of}
use Rattle.sheets.specs.Parts.{rule, rule_number, rule_formula, with_rule}
use Rattle.sheets.specs.Standing.{Stands}
use Rattle.sheets.specs.declared.fault.SheetFault.{SheetFault}
use Rattle.sheets.specs.declared.fault.SheetFault.TheVariants.{ShortFields}
use Rattle.sheets.specs.declared.reader.Reader.{Reader}
use Rattle.sheets.proofs.Records.{kind_good}
use Rattle.sheets.proofs.ZonesFit.{rules_push}
use Rattle.sheets.proofs.Chains.{goes, stops}

module _ (before : List SheetZone) (z : SheetZone) (s : StretchModel) where
  pub no_piece : {f : SheetFault} → split s ≡ Err f → rule before z s ≡ Err f
  unfolding rule
  no_piece e = stops _ e

  module _ {p : PieceModel × StretchModel} (is_piece : split s ≡ Ok p) where
    pub no_kind : {f : SheetFault} → of_kind 4 p.0 ≡ Err f → rule before z s ≡ Err f
    unfolding rule
    no_kind e = goes _ is_piece ∙ stops _ e

    module _ {q : PieceModel} (is_kind : of_kind 4 p.0 ≡ Ok q) where
      pub no_fields : {f : SheetFault} → fields 2 q ≡ Err f → rule before z s ≡ Err f
      unfolding rule
      no_fields e = goes _ is_piece ∙ (goes _ is_kind ∙ stops _ e)

      same_at : q.at ≡ p.0.at
      same_at = ap (λ p. p.at) (sym (kind_good 4 p.0 q is_kind).1)

      module _ {xs : List ℕ} {inside : StretchModel} (number : ℕ) (is_fields : fields 2 q ≡ Ok (xs, inside)) (is_word : number ≡ word_at 0 xs) where
        with_number : rule before z s ≡ on (rule_number p.0.at number (rules_of before ++ z.rules)) (λ _. on (rule_formula p.0.at z.heads inside) (λ φ. Ok (with_rule z (record { number = number; formula = φ }), p.1)))
        unfolding rule
        with_number =
            goes _ is_piece
            ∙ (goes _ is_kind
            ∙ (goes _ is_fields
            ∙ ap₂ (λ a n. on (rule_number a n (rules_of before ++ z.rules)) (λ _. on (rule_formula a z.heads inside) (λ φ. Ok (with_rule z (record { number = n; formula = φ }), p.1)))) same_at (sym is_word)))

        pub bad_number : {f : SheetFault} → rule_number p.0.at number (rules_of before ++ z.rules) ≡ Err f → rule before z s ≡ Err f
        bad_number e = with_number ∙ stops _ e

        module _ (hs : List ℕ) (is_new : rule_number p.0.at number (rules_of before ++ z.rules) ≡ Ok tt) (same_heads : z.heads ≡ hs) where
          with_formula : rule before z s ≡ on (rule_formula p.0.at hs inside) (λ φ. Ok (with_rule z (record { number = number; formula = φ }), p.1))
          with_formula =
              with_number
              ∙ (goes _ is_new
              ∙ ap (λ hs. on (rule_formula p.0.at hs inside) (λ φ. Ok (with_rule z (record { number = number; formula = φ }), p.1))) same_heads)

          pub bad_formula : {f : SheetFault} → rule_formula p.0.at hs inside ≡ Err f → rule before z s ≡ Err f
          bad_formula e = with_formula ∙ stops _ e

          pub is_read : {φ : Formula} → rule_formula p.0.at hs inside ≡ Ok φ → rule before z s ≡ Ok (with_rule z (record { number = number; formula = φ }), p.1)
          is_read e = with_formula ∙ goes _ e

-- the lines of zones have the numbers of their rules
zone_numbers : (z : SheetZone) → map (λ l. l.number) (zone_lines z) ≡ map (λ r. r.number) z.rules
zone_numbers z = map-map (λ l. l.number) (line_of z) z.rules

pub numbers : (zs : List SheetZone) → map (λ l. l.number) (lines zs) ≡ map (λ r. r.number) (rules_of zs)
numbers [] = refl
numbers (z ∷ zs) =
    map-append (λ l. l.number) (zone_lines z) (lines zs)
    ∙ ap₂ (λ xs ys. xs ++ ys) (zone_numbers z) (numbers zs)
    ∙ sym (map-append (λ r. r.number) z.rules (rules_of zs))

lines_with : (zs : List SheetZone) (z : SheetZone) → lines (zs ++ z ∷ []) ≡ lines zs ++ zone_lines z
lines_with zs z = flat_map-append zone_lines zs (z ∷ []) ∙ ap (λ ys. lines zs ++ ys) (append-nil (zone_lines z))

module _ {total groups : ℕ} (before : List SheetZone) (z : SheetZone) {r : Reader} (stands : Stands total groups (before ++ z ∷ []) r) where
  -- the numbers of the rules met
  pub numbers_met : map (λ p. p.rule_number) r.rules.items ≡ map (λ r. r.number) (rules_of before ++ z.rules)
  numbers_met =
      sym (map-map (λ l. l.number) line r.rules.items)
      ∙ ap (map (λ l. l.number)) stands.rules
      ∙ numbers (before ++ z ∷ [])
      ∙ ap (map (λ r. r.number)) (rules_push before z)

  -- a rule more of the last zone
  pub one_rule : (p : RulePlace) (x : SheetRule) (new : Reader) → line p ≡ line_of z x → new.rules.items ≡ r.rules.items ++ p ∷ [] → new.total ≡ r.total → new.groups ≡ r.groups → new.zones ≡ r.zones → new.heads ≡ r.heads → Stands total groups (before ++ with_rule z x ∷ []) new
  one_rule p x new is pushed same_total same_groups same_zones same_heads = record {
    card = same_total ∙ stands.card;
    counted = same_groups ∙ stands.counted;
    numbers =
        ap (λ a. a.items) same_zones ∙ stands.numbers
        ∙ map-append (λ z. z.number) before (z ∷ [])
        ∙ sym (map-append (λ z. z.number) before (with_rule z x ∷ []));
    heads_met = λ h.
        ap (λ s. among h (heads s.bits)) same_heads ∙ stands.heads_met h
        ∙ list_any-append (λ z. among h z.heads) before (z ∷ [])
        ∙ sym (list_any-append (λ z. among h z.heads) before (with_rule z x ∷ []));
    rules =
        ap (map line) pushed
        ∙ map_push line r.rules.items p
        ∙ ap₂ (λ xs y. xs ++ y ∷ []) (stands.rules ∙ lines_with before z) is
        ∙ append_assoc (lines before) (zone_lines z) (line_of z x ∷ [])
        ∙ ap (λ ys. lines before ++ ys) (sym (map_push (line_of z) z.rules x))
        ∙ sym (lines_with before (with_rule z x));
  }

-- two bytes of fields are the word that they spell
field : (b : Bool) (bs xs : List ℕ) (left inside : StretchModel) (f : SheetFault) → cond {A = Result (List ℕ × StretchModel) SheetFault} b (Ok (take 2 bs, left)) (Err f) ≡ Ok (xs, inside) → xs ≡ take 2 bs
field true bs xs left inside f e =
    let same : ◌≡◌ {A = List ℕ × StretchModel} (take 2 bs, left) (xs, inside) = cc in
    sym (ap (λ x. x.0) same)
field false bs xs left inside f e = absurd (cc)

pub word_is : (q : PieceModel) (xs : List ℕ) (inside : StretchModel) → fields 2 q ≡ Ok (xs, inside) → from_le_bytes w16 xs ≡ word_at 0 xs
word_is q xs inside e =
    let is = field (nat_le 2 (length q.inside.bytes)) q.inside.bytes xs (behind 2 q.inside) inside (ShortFields q.at) e in
    let two : length xs ≤ 2 = omega (arith, ap length is, length-take 2 q.inside.bytes) in
    ap (from_le_bytes w16) (sym (take_all 2 xs two))

-- a place that holds a rule of a zone
pub line_is : (p : RulePlace) (z : SheetZone) (x : SheetRule) (number : ℕ) (hs gs : List ℕ) → place_means p ≡ (x.formula, gs) → Numbered p x.number number → z.number ≡ number → z.heads ≡ hs → gs ≡ hs → line p ≡ line_of z x
line_is p z x number hs gs means numbered same_number same_heads zoned =
    ap (λ m. record { number = p.rule_number; zone = p.zone_number; heads = m.1; formula = m.0 }) means
    ∙ ap₂ (λ n k. record { number = n; zone = k; heads = gs; formula = x.formula }) numbered.0 (numbered.1 ∙ sym same_number)
    ∙ ap (λ ks. record { number = x.number; zone = z.number; heads = ks; formula = x.formula }) (zoned ∙ sym same_heads)
