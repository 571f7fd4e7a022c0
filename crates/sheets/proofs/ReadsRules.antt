-- The rules of a zone: those that are read are spelled and fit, and those that fit are read. Assumes nothing.
--     RulesFit      the rules of a zone, after those of the zones before it
use Rattle.std.proofs.Common.{◌≡◌, ℕ, ◌+◌, ◌<◌, ◌≤◌, Bool, false, eqb, List, [], ◌∷◌, ◌++◌, length, Ok, Result, sym, refl, ap, ◌∙◌, subst, ap₂, append_assoc, length-append, arith}
use Rattle.std.proofs.ByRecursion.{All-push}
use Rattle.std.proofs.lemmas.Bool.{cond-true, cond-false, lt-ltb, ltb-true}
use Rattle.std.proofs.lemmas.List.{length_push, take_all}
use Rattle.std.specs.List.{AllByRecursion, list_any, flat_map}
use Rattle.faults.specs.Checks.{on}
use Rattle.sheets.specs.Lawful.{LawfulRule, rules_numbered}
use Rattle.sheets.specs.Layout.{StretchModel, PieceModel, word_at, split, of_kind, fields}
use Rattle.sheets.specs.Outlines.{SheetZone, SheetRule, rules_of}
use Rattle.sheets.specs.Parts.{rule, rule_number, rule_formula, with_rule, to_end}
use Rattle.sheets.specs.Spelling.{word, formula_bytes, record_bytes, rule_bytes}
use Rattle.sheets.specs.declared.fault.SheetFault.{SheetFault}
use Rattle.sheets.proofs.Accepted.{same_pair, stays}
use Rattle.sheets.proofs.Counts.{all_front, all_behind, count-append, keys_more, key_last}
use Rattle.sheets.proofs.Records.{Bytes, split_spelled, split_reads, kind_good, word_small, word_spelled, word_reads, fields_spelled, fields_reads}
use Rattle.sheets.proofs.RuleFormulas.{rule_formula_spelled, rule_formula_lawful, rule_formula_reads}
use Rattle.sheets.proofs.ToEnd.{Sound, Complete, Items, sound_to_end, complete_to_end}
use Rattle.sheets.proofs.Chains.{bind_good, bind_on, good_on, test_good}

-- a number that the check of a rule's number accepts
number_fresh : (at n : ℕ) (rs : List SheetRule) → rule_number at n rs ≡ Ok tt → (list_any (λ r. eqb r.number n) rs ≡ false) × (length rs < 64)
number_fresh at n rs e =
    let s = stays _ _ _ _ e in
    (s.0, ltb-true (length rs) 64 (test_good _ _ _ _ s.1).0)

number_reads : (at n : ℕ) (rs : List SheetRule) → list_any (λ r. eqb r.number n) rs ≡ false → length rs < 64 → rule_number at n rs ≡ Ok tt
number_reads at n rs fresh room = cond-false _ _ _ fresh ∙ cond-true _ _ _ (lt-ltb (length rs) 64 room)

-- the fields of a rule
pub two_fields : (xs : List ℕ) → Bytes xs → length xs ≡ 2 → xs ≡ word (word_at 0 xs)
two_fields xs bs e = sym (word_spelled 0 xs bs (omega (arith, e)) ∙ take_all 2 xs (omega (arith, e)))

-- what goes on after a record of a kind
pub a_kind : {X : Type 0} (n : ℕ) (p : PieceModel) (k : PieceModel → Result X SheetFault) (y : X) → on (of_kind n p) k ≡ Ok y → (p.kind ≡ n) × (k p ≡ Ok y)
a_kind n p k y e =
    let b = bind_good (of_kind n p) k y e in
    let g = kind_good n p b.0 b.1 in
    (g.0, ap k g.1 ∙ b.2)

-- the rules of a zone of heads, after the rules of other zones
pub record RulesFit (all : List SheetZone) (hs : List ℕ) (rs : List SheetRule) : Type 0 where
  pub lawful : AllByRecursion (LawfulRule hs) rs
  pub few : length (rules_of all ++ rs) ≤ 64
  pub numbers : (n : ℕ) → rules_numbered n (rules_of all ++ rs) ≤ 1

module _ (all : List SheetZone) (hs : List ℕ) where
  one_behind : (rs : List SheetRule) (r : SheetRule) → rules_of all ++ (rs ++ r ∷ []) ≡ (rules_of all ++ rs) ++ r ∷ []
  one_behind rs r = sym (append_assoc (rules_of all) rs (r ∷ []))

  rules_more : (rs : List SheetRule) (r : SheetRule) → RulesFit all hs rs → LawfulRule hs r → list_any (λ q. eqb q.number r.number) (rules_of all ++ rs) ≡ false → length (rules_of all ++ rs) < 64 → RulesFit all hs (rs ++ r ∷ [])
  rules_more rs r f law fresh room = record {
    lawful = All-push (LawfulRule hs) rs r f.lawful law;
    few = omega (arith, room, ap length (one_behind rs r), length_push (rules_of all ++ rs) r);
    numbers = λ n. subst (λ qs. rules_numbered n qs ≤ 1) (sym (one_behind rs r)) (keys_more (λ (q : SheetRule). q.number) (rules_of all ++ rs) r f.numbers fresh n);
  }

  pub record LastRule (rs : List SheetRule) (r : SheetRule) : Type 0 where
    pub lawful : LawfulRule hs r
    pub fresh : list_any (λ q. eqb q.number r.number) (rules_of all ++ rs) ≡ false
    pub room : length (rules_of all ++ rs) < 64

  rules_last : (rs : List SheetRule) (r : SheetRule) → RulesFit all hs (rs ++ r ∷ []) → LastRule rs r
  rules_last rs r f = record {
    lawful = (all_behind (LawfulRule hs) rs (r ∷ []) f.lawful).0;
    fresh = key_last (λ (q : SheetRule). q.number) (rules_of all ++ rs) r (λ n. subst (λ qs. rules_numbered n qs ≤ 1) (one_behind rs r) (f.numbers n));
    room = omega (arith, f.few, ap length (one_behind rs r), length_push (rules_of all ++ rs) r);
  }

  rules_fewer : (rs qs : List SheetRule) → RulesFit all hs (rs ++ qs) → RulesFit all hs rs
  rules_fewer rs qs f = record {
    lawful = all_front (LawfulRule hs) rs qs f.lawful;
    few = omega (arith, f.few, length-append (rules_of all) (rs ++ qs), length-append rs qs, length-append (rules_of all) rs);
    numbers = λ n. let p : SheetRule → Bool = λ q. eqb q.number n in omega (arith, f.numbers n, count-append p (rules_of all) (rs ++ qs), count-append p rs qs, count-append p (rules_of all) rs);
  }

  module _ (number : ℕ) where
    abbrev pub zone_of : List SheetRule → SheetZone
    zone_of rs = record { number = number; heads = hs; rules = rs }

    rule_sound : Sound (rule all) zone_of rule_bytes (RulesFit all hs)
    unfolding rule
    rule_sound rs s y b bs f e =
        good_on (split s) _ _ e (λ p parts e.
        let sp = split_spelled s p.0 p.1 bs parts in
        let k = a_kind 4 p.0 _ _ e in
        good_on (fields 2 p.0) _ _ k.1 (λ g first e.
        let fs = fields_spelled 2 p.0 g.0 g.1 sp.inside_bytes first in
        good_on (rule_number p.0.at (word_at 0 g.0) (rules_of all ++ rs)) _ _ e (λ _ own e.
        let fresh = number_fresh p.0.at (word_at 0 g.0) (rules_of all ++ rs) own in
        good_on (rule_formula p.0.at hs g.1) _ _ e (λ φ means e.
        let r : SheetRule = record { number = word_at 0 g.0; formula = φ } in
        let same = same_pair (zone_of (rs ++ r ∷ [])) y p.1 b e in
        let inside : p.0.inside.bytes ≡ word r.number ++ formula_bytes φ =
        fs.bytes ∙ ap₂ (λ xs ys. xs ++ ys) (two_fields g.0 fs.front_bytes fs.many) (rule_formula_spelled p.0.at hs g.1 φ means fs.behind_bytes) in
        record {
          item = r;
          is = sym same.0;
          bytes = sp.bytes ∙ (λ i. record_bytes (k.0 i) (inside i) ++ (same.1 i).bytes);
          fits = rules_more rs r f (word_small 0 g.0 fs.front_bytes, rule_formula_lawful p.0.at hs g.1 φ means) fresh.0 fresh.1;
          left = subst (λ (t : StretchModel). Bytes t.bytes) same.1 sp.behind_bytes;
        }))))

    rule_complete : Complete (rule all) zone_of rule_bytes (RulesFit all hs)
    unfolding rule
    rule_complete rs r place rest short f =
        let l = rules_last rs r f in
        let payload : List ℕ = word r.number ++ formula_bytes r.formula in
        let p : PieceModel = record { kind = 4; at = place; inside = record { place = place + 4; bytes = payload } } in
        let n : word_at 0 (word r.number) ≡ r.number = word_reads 0 r.number [] [] l.lawful.0 refl in (
          place + (4 + length payload),
          bind_on (split (record { place = place; bytes = rule_bytes r ++ rest })) _ _ _ (split_reads place 4 payload rest (omega arith) (omega arith))
              (bind_on (fields 2 p) _ _ _ (fields_reads 2 p (word r.number) (formula_bytes r.formula) refl refl)
              (bind_on (rule_number place (word_at 0 (word r.number)) (rules_of all ++ rs)) _ _ _
              (ap (λ k. rule_number place k (rules_of all ++ rs)) n ∙ number_reads place r.number (rules_of all ++ rs) l.fresh l.room)
              (bind_on (rule_formula place hs (record { place = place + 4 + 2; bytes = formula_bytes r.formula })) _ _ _
              (rule_formula_reads place (place + 4 + 2) hs r.formula l.lawful.1)
              (λ i. Ok (with_rule (zone_of rs) (record { number = n i; formula = r.formula }), record { place = place + (4 + length payload); bytes = rest }))))),
        )

    some_bytes : (r : SheetRule) → 0 < length (rule_bytes r)
    some_bytes r = omega arith

    -- rules to the end of a zone
    pub rules_sound : (s : StretchModel) (y : SheetZone) → Bytes s.bytes → RulesFit all hs [] → to_end (rule all) (zone_of []) s ≡ Ok y → Items (rule all) zone_of rule_bytes (RulesFit all hs) [] s.bytes y
    rules_sound s y bs f e = sound_to_end (rule all) zone_of rule_bytes (RulesFit all hs) some_bytes rule_sound [] s y bs f e

    pub rules_complete : (rs : List SheetRule) (place : ℕ) → length (flat_map rule_bytes rs) ≤ 16384 → RulesFit all hs rs → to_end (rule all) (zone_of []) (record { place = place; bytes = flat_map rule_bytes rs }) ≡ Ok (zone_of rs)
    rules_complete rs place short f = complete_to_end (rule all) zone_of rule_bytes (RulesFit all hs) some_bytes rules_fewer rule_complete [] rs place short f
