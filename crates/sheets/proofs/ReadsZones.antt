-- The zones of a group: those that are read are spelled and fit, and those that fit are read. Assumes nothing.
use Rattle.std.proofs.Common.{◌≡◌, ℕ, ◌+◌, ◌<◌, ◌≤◌, false, eqb, List, [], ◌∷◌, ◌++◌, length, Ok, sym, refl, ap, ◌∙◌, subst, append_assoc, length-append, arith}
use Rattle.std.proofs.lemmas.Bool.{cond-true, cond-false, lt-ltb, ltb-true}
use Rattle.std.specs.List.{list_any, flat_map}
use Rattle.rules.proofs.Grounds.{fair_true}
use Rattle.sheets.specs.Layout.{StretchModel, PieceModel, word_at, byte_at, split, fields, counted}
use Rattle.sheets.specs.Outlines.{SheetZone, SheetGroup}
use Rattle.sheets.specs.Parts.{rule, zone, opened_zone, head_count, zone_heads, zone_number, to_end}
use Rattle.sheets.specs.Spelling.{word, record_bytes, rule_bytes, zone_bytes}
use Rattle.sheets.proofs.Accepted.{same_pair, stays, fair_good}
use Rattle.sheets.proofs.Records.{Bytes, split_spelled, split_reads, word_small, word_spelled, word_reads, fields_spelled, fields_reads, counted_spelled, counted_reads}
use Rattle.sheets.proofs.ReadsRules.{zone_of, rules_sound, rules_complete, a_kind}
use Rattle.sheets.proofs.ToEnd.{Sound, Complete, Items, sound_to_end, complete_to_end}
use Rattle.sheets.proofs.ZonesFit.{ZonesFit, Header, heads_sound, heads_read, any_low, zones_more, header_last, rules_last, rules_none, zones_fewer}
use Rattle.sheets.proofs.Chains.{bind_on, good_on, test_good}

-- the number of a zone among those before it
number_fresh : (at n : ℕ) (all : List SheetZone) → zone_number at n all ≡ Ok tt → (list_any (λ z. eqb z.number n) all ≡ false) × (length all < 32)
number_fresh at n all e =
    let s = stays _ _ _ _ e in
    (s.0, ltb-true (length all) 32 (test_good _ _ _ _ s.1).0)

number_reads : (at n : ℕ) (all : List SheetZone) → list_any (λ z. eqb z.number n) all ≡ false → length all < 32 → zone_number at n all ≡ Ok tt
number_reads at n all fresh room = cond-false _ _ _ fresh ∙ cond-true _ _ _ (lt-ltb (length all) 32 room)

-- the fields of a zone
three_fields : (xs : List ℕ) → Bytes xs → length xs ≡ 3 → xs ≡ word (word_at 0 xs) ++ byte_at 2 xs ∷ []
three_fields [] bs e = absurd (omega (arith, e))
three_fields (a ∷ []) bs e = absurd (omega (arith, e))
three_fields (a ∷ (b ∷ [])) bs e = absurd (omega (arith, e))
three_fields (a ∷ (b ∷ (c ∷ []))) bs e = ap (λ ys. ys ++ c ∷ []) (sym (word_spelled 0 (a ∷ (b ∷ (c ∷ []))) bs (omega arith)))
three_fields (a ∷ (b ∷ (c ∷ (d ∷ ds)))) bs e = absurd (omega (arith, e))

-- what a zone's record opens with
record Opened (total : ℕ) (all : List SheetZone) (p : PieceModel) (z : SheetZone) (b : StretchModel) : Type 0 where
  number : ℕ
  heads : List ℕ
  is : z ≡ zone_of all heads number []
  kind : p.kind ≡ 3
  bytes : p.inside.bytes ≡ word number ++ (length heads ∷ (heads ++ b.bytes))
  header : Header total all number heads
  left : Bytes b.bytes

module _ (total : ℕ) (all : List SheetZone) where
  opened : (p : PieceModel) (z : SheetZone) (b : StretchModel) → Bytes p.inside.bytes → opened_zone total all p ≡ Ok (z, b) → Opened total all p z b
  opened p z b bs e =
      let k = a_kind 3 p _ _ e in
      good_on (fields 3 p) _ _ k.1 (λ f first e.
      let fs = fields_spelled 3 p f.0 f.1 bs first in
      let n = byte_at 2 f.0 in
      good_on (counted p.at n f.1) _ _ e (λ hs listed e.
      let cs = counted_spelled p.at n f.1 hs.0 hs.1 fs.behind_bytes listed in
      good_on (head_count p.at n) _ _ e (λ _ few e.
      let fair = fair_good n 32 (test_good _ _ _ _ few).0 in
      good_on (zone_heads p.at total all 0 hs.0) _ _ e (λ _ stand e.
      let heads = heads_sound p.at total all 0 hs.0 stand in
      good_on (zone_number p.at (word_at 0 f.0) all) _ _ e (λ _ own e.
      let fresh = number_fresh p.at (word_at 0 f.0) all own in
      let same = same_pair (zone_of all hs.0 (word_at 0 f.0) []) z hs.1 b e in
      let front : f.0 ≡ word (word_at 0 f.0) ++ length hs.0 ∷ [] = three_fields f.0 fs.front_bytes fs.many ∙ ap (λ m. word (word_at 0 f.0) ++ m ∷ []) (sym cs.many) in
      record {
        number = word_at 0 f.0;
        heads = hs.0;
        is = sym same.0;
        kind = k.0;
        bytes = fs.bytes ∙ (λ i. front i ++ cs.bytes i) ∙ ap (λ (t : StretchModel). word (word_at 0 f.0) ++ (length hs.0 ∷ (hs.0 ++ t.bytes))) same.1;
        header = record {
          numbered = word_small 0 f.0 fs.front_bytes;
          some_heads = omega (arith, fair.0, cs.many);
          few_heads = omega (arith, fair.1, cs.many);
          rising = heads.1;
          free = heads.2;
          fresh = fresh.0;
          room = fresh.1;
        };
        left = subst (λ (t : StretchModel). Bytes t.bytes) same.1 cs.behind_bytes;
      })))))

  opens : (at place number : ℕ) (hs rest : List ℕ) → Header total all number hs →
      (after : ℕ) × (opened_zone total all (record { kind = 3; at = at; inside = record { place = place; bytes = word number ++ (length hs ∷ (hs ++ rest)) } }) ≡ Ok (zone_of all hs number [], record { place = after; bytes = rest }))
  opens at place number hs rest h =
      let xs : List ℕ = word number ++ length hs ∷ [] in
      let p : PieceModel = record { kind = 3; at = at; inside = record { place = place; bytes = word number ++ (length hs ∷ (hs ++ rest)) } } in
      let n : word_at 0 xs ≡ number = word_reads 0 number [] (length hs ∷ []) h.numbered refl in (
        place + 3 + length hs,
        bind_on (fields 3 p) _ _ _ (fields_reads 3 p xs (hs ++ rest) refl refl)
            (bind_on (counted at (length hs) (record { place = place + 3; bytes = hs ++ rest })) _ _ _ (counted_reads at (length hs) (record { place = place + 3; bytes = hs ++ rest }) hs rest refl refl)
            (bind_on (head_count at (length hs)) _ _ _ (cond-true _ _ _ (fair_true h.some_heads h.few_heads))
            (bind_on (zone_heads at total all 0 hs) _ _ _ (heads_read at total all 0 hs (any_low hs) h.rising h.free)
            (bind_on (zone_number at (word_at 0 xs) all) _ _ _ (ap (λ k. zone_number at k all) n ∙ number_reads at number all h.fresh h.room)
            (λ i. Ok (zone_of all hs (n i) [], record { place = place + 3 + length hs; bytes = rest })))))),
      )

-- the zones of a group, after those of the groups before it
module _ (total : ℕ) (before : List SheetZone) (name : List ℕ) where
  abbrev pub group_of : List SheetZone → SheetGroup
  group_of zs = record { name = name; zones = zs }

  abbrev pub GroupZones : List SheetZone → Type 0
  GroupZones zs = ZonesFit total (before ++ zs)

  zone_sound : Sound (zone total before) group_of zone_bytes GroupZones
  unfolding zone
  zone_sound zs s y b bs f e =
      let all : List SheetZone = before ++ zs in
      good_on (split s) _ _ e (λ p parts e.
      let sp = split_spelled s p.0 p.1 bs parts in
      good_on (opened_zone total all p.0) _ _ e (λ o first e.
      let op = opened total all p.0 o.0 o.1 sp.inside_bytes first in
      good_on (to_end (rule all) o.0 o.1) _ _ e (λ full more e.
      let read : to_end (rule all) (zone_of all op.heads op.number []) o.1 ≡ Ok full = subst (λ z. to_end (rule all) z o.1 ≡ Ok full) op.is more in
      let i = rules_sound all op.heads op.number o.1 full op.left (rules_none total all op.heads f) read in
      let z : SheetZone = zone_of all op.heads op.number i.items in
      let same = same_pair (group_of (zs ++ full ∷ [])) y p.1 b e in
      let inside : p.0.inside.bytes ≡ word z.number ++ (length z.heads ∷ (z.heads ++ flat_map rule_bytes z.rules)) = subst (λ ys. p.0.inside.bytes ≡ word op.number ++ (length op.heads ∷ (op.heads ++ ys))) i.bytes op.bytes in
      record {
        item = z;
        is = sym same.0 ∙ ap (λ x. group_of (zs ++ x ∷ [])) i.is;
        bytes = sp.bytes ∙ (λ j. record_bytes (op.kind j) (inside j) ++ (same.1 j).bytes);
        fits = subst (ZonesFit total) (append_assoc before zs (z ∷ [])) (zones_more total all z f op.header i.fits);
        left = subst (λ (t : StretchModel). Bytes t.bytes) same.1 sp.behind_bytes;
      })))

  zone_complete : Complete (zone total before) group_of zone_bytes GroupZones
  unfolding zone
  zone_complete zs z place rest short f =
      let all : List SheetZone = before ++ zs in
      let fit : ZonesFit total (all ++ z ∷ []) = subst (ZonesFit total) (sym (append_assoc before zs (z ∷ []))) f in
      let body : List ℕ = flat_map rule_bytes z.rules in
      let payload : List ℕ = word z.number ++ (length z.heads ∷ (z.heads ++ body)) in
      let o = opens total all place (place + 4) z.number z.heads body (header_last total all z fit) in
      let few : length body ≤ 16384 = omega (arith, short, length-append z.heads body) in (
        place + (4 + length payload),
        bind_on (split (record { place = place; bytes = zone_bytes z ++ rest })) _ _ _ (split_reads place 3 payload rest (omega arith) (omega (arith, short)))
            (bind_on (opened_zone total all (record { kind = 3; at = place; inside = record { place = place + 4; bytes = payload } })) _ _ _ o.1
            (bind_on (to_end (rule all) (zone_of all z.heads z.number []) (record { place = o.0; bytes = body })) _ _ _ (rules_complete all z.heads z.number z.rules o.0 few (rules_last total all z fit))
            refl)),
      )

  some_bytes : (z : SheetZone) → 0 < length (zone_bytes z)
  some_bytes z = omega arith

  fewer : (xs ys : List SheetZone) → GroupZones (xs ++ ys) → GroupZones xs
  fewer xs ys f = zones_fewer total (before ++ xs) ys (subst (ZonesFit total) (sym (append_assoc before xs ys)) f)

  -- zones to the end of a group
  pub zones_sound : (s : StretchModel) (y : SheetGroup) → Bytes s.bytes → GroupZones [] → to_end (zone total before) (group_of []) s ≡ Ok y → Items (zone total before) group_of zone_bytes GroupZones [] s.bytes y
  zones_sound s y bs f e = sound_to_end (zone total before) group_of zone_bytes GroupZones some_bytes zone_sound [] s y bs f e

  pub zones_complete : (zs : List SheetZone) (place : ℕ) → length (flat_map zone_bytes zs) ≤ 16384 → GroupZones zs → to_end (zone total before) (group_of []) (record { place = place; bytes = flat_map zone_bytes zs }) ≡ Ok (group_of zs)
  zones_complete zs place short f = complete_to_end (zone total before) group_of zone_bytes GroupZones some_bytes fewer zone_complete [] zs place short f
