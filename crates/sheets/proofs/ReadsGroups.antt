-- The groups of a sheet: those that are read are spelled and fit, and those that fit are read. Assumes nothing.
--     GroupsFit     groups that may begin a lawful sheet
use Rattle.std.proofs.Common.{◌≡◌, ℕ, ◌+◌, ◌<◌, ◌≤◌, leb, List, [], ◌∷◌, ◌++◌, length, Ok, sym, refl, ap, ◌∙◌, subst, append-nil, length-append, arith}
use Rattle.std.proofs.ByRecursion.{All-push}
use Rattle.std.proofs.lemmas.Bool.{cond-true, lt-ltb, ltb-true, leb-true, le-leb, and_parts, and_from}
use Rattle.std.proofs.lemmas.List.{length_push}
use Rattle.std.proofs.lemmas.List.Concat.{flat_map-append}
use Rattle.std.specs.List.{AllByRecursion, flat_map}
use Rattle.rules.proofs.Grounds.{fair_true}
use Rattle.sheets.specs.Lawful.{LawfulZone, LawfulGroup, NameByte}
use Rattle.sheets.specs.Layout.{StretchModel, PieceModel, byte_at, split, fields, counted}
use Rattle.sheets.specs.Outlines.{Outline, SheetGroup, SheetZone, zones_of}
use Rattle.sheets.specs.Parts.{zone, group, opened_group, name, name_bytes, group_room, to_end}
use Rattle.sheets.specs.Spelling.{record_bytes, zone_bytes, group_bytes}
use Rattle.sheets.proofs.Accepted.{same_pair, passes, fair_good}
use Rattle.sheets.proofs.Counts.{all_front, all_behind}
use Rattle.sheets.proofs.Records.{Bytes, split_spelled, split_reads, fields_spelled, fields_reads, counted_spelled, counted_reads}
use Rattle.sheets.proofs.ReadsRules.{a_kind}
use Rattle.sheets.proofs.ReadsZones.{group_of, zones_sound, zones_complete}
use Rattle.sheets.proofs.ToEnd.{Sound, Complete, Items, sound_to_end, complete_to_end}
use Rattle.sheets.proofs.ZonesFit.{ZonesFit, zones_fewer}
use Rattle.sheets.proofs.Chains.{bind_on, good_on, test_good}

-- ---- the name
characters_good : (at : ℕ) (bs : List ℕ) → name_bytes at bs ≡ Ok tt → AllByRecursion NameByte bs
characters_good at [] e = tt
characters_good at (b ∷ bs) e =
    let p = passes _ _ _ _ e in
    let q = and_parts (leb 32 b) (leb b 126) p.0 in
    ((leb-true 32 b q.0, leb-true b 126 q.1), characters_good at bs p.1)

characters_read : (at : ℕ) (bs : List ℕ) → AllByRecursion NameByte bs → name_bytes at bs ≡ Ok tt
characters_read at [] a = refl
characters_read at (b ∷ bs) a = cond-true _ _ _ (and_from _ _ (le-leb 32 b a.0.0) (le-leb b 126 a.0.1)) ∙ characters_read at bs a.1

-- a name of 1 to 24 characters
record Named (bs : List ℕ) : Type 0 where
  named : 1 ≤ length bs
  short : length bs ≤ 24
  characters : AllByRecursion NameByte bs

name_good : (at : ℕ) (bs : List ℕ) → name at bs ≡ Ok tt → Named bs
name_good at bs e =
    let p = passes _ _ _ _ e in
    let f = fair_good (length bs) 24 p.0 in
    record { named = f.0; short = f.1; characters = characters_good at bs p.1 }

name_reads : (at : ℕ) (bs : List ℕ) → Named bs → name at bs ≡ Ok tt
name_reads at bs n = cond-true _ _ _ (fair_true n.named n.short) ∙ characters_read at bs n.characters

pub one_field : (xs : List ℕ) → length xs ≡ 1 → xs ≡ byte_at 0 xs ∷ []
one_field [] e = absurd (omega (arith, e))
one_field (a ∷ []) e = refl
one_field (a ∷ (b ∷ bs)) e = absurd (omega (arith, e))

-- ---- what a group's record opens with
record Opened (before : List SheetGroup) (p : PieceModel) (g : SheetGroup) (b : StretchModel) : Type 0 where
  name : List ℕ
  is : g ≡ record { name = name; zones = [] }
  kind : p.kind ≡ 2
  bytes : p.inside.bytes ≡ length name ∷ (name ++ b.bytes)
  named : Named name
  room : length before < 16
  left : Bytes b.bytes

opened : (before : List SheetGroup) (p : PieceModel) (g : SheetGroup) (b : StretchModel) → Bytes p.inside.bytes → opened_group before p ≡ Ok (g, b) → Opened before p g b
opened before p g b bs e =
    let k = a_kind 2 p _ _ e in
    good_on (fields 1 p) _ _ k.1 (λ f first e.
    let fs = fields_spelled 1 p f.0 f.1 bs first in
    let n = byte_at 0 f.0 in
    good_on (counted p.at n f.1) _ _ e (λ c listed e.
    let cs = counted_spelled p.at n f.1 c.0 c.1 fs.behind_bytes listed in
    good_on (name p.at c.0) _ _ e (λ _ named e.
    good_on (group_room p.at before) _ _ e (λ _ room e.
    let none : SheetGroup = record { name = c.0; zones = [] } in
    let same = same_pair none g c.1 b e in
    let front : f.0 ≡ length c.0 ∷ [] = one_field f.0 fs.many ∙ ap (λ m. m ∷ []) (sym cs.many) in
    record {
      name = c.0;
      is = sym same.0;
      kind = k.0;
      bytes = fs.bytes ∙ (λ i. front i ++ cs.bytes i) ∙ ap (λ (t : StretchModel). length c.0 ∷ (c.0 ++ t.bytes)) same.1;
      named = name_good p.at c.0 named;
      room = ltb-true (length before) 16 (test_good _ _ _ _ room).0;
      left = subst (λ (t : StretchModel). Bytes t.bytes) same.1 cs.behind_bytes;
    }))))

opens : (before : List SheetGroup) (at place : ℕ) (bs rest : List ℕ) → Named bs → length before < 16 →
    (after : ℕ) × (opened_group before (record { kind = 2; at = at; inside = record { place = place; bytes = length bs ∷ (bs ++ rest) } }) ≡ Ok (record { name = bs; zones = [] }, record { place = after; bytes = rest }))
opens before at place bs rest n room =
    let p : PieceModel = record { kind = 2; at = at; inside = record { place = place; bytes = length bs ∷ (bs ++ rest) } } in (
      place + 1 + length bs,
      bind_on (fields 1 p) _ _ _ (fields_reads 1 p (length bs ∷ []) (bs ++ rest) refl refl)
          (bind_on (counted at (length bs) (record { place = place + 1; bytes = bs ++ rest })) _ _ _ (counted_reads at (length bs) (record { place = place + 1; bytes = bs ++ rest }) bs rest refl refl)
          (bind_on (name at bs) _ _ _ (name_reads at bs n)
          (bind_on (group_room at before) _ _ _ (cond-true _ _ _ (lt-ltb (length before) 16 room))
          refl))),
    )

-- ---- groups one after another
pub record GroupsFit (total : ℕ) (gs : List SheetGroup) : Type 0 where
  pub lawful : AllByRecursion LawfulGroup gs
  pub few : length gs ≤ 16
  pub zones : ZonesFit total (zones_of gs)

zones_push : (gs : List SheetGroup) (g : SheetGroup) → zones_of (gs ++ g ∷ []) ≡ zones_of gs ++ g.zones
zones_push gs g = flat_map-append (λ (y : SheetGroup). y.zones) gs (g ∷ []) ∙ ap (λ zs. zones_of gs ++ zs) (append-nil g.zones)

module _ (total : ℕ) where
  groups_more : (gs : List SheetGroup) (g : SheetGroup) → GroupsFit total gs → Named g.name → length gs < 16 → ZonesFit total (zones_of gs ++ g.zones) → GroupsFit total (gs ++ g ∷ [])
  groups_more gs g f n room z =
      let lawful : LawfulGroup g = record { named = n.named; short = n.short; characters = n.characters; zones = all_behind LawfulZone (zones_of gs) g.zones z.lawful } in
      record {
        lawful = All-push LawfulGroup gs g f.lawful lawful;
        few = omega (arith, room, length_push gs g);
        zones = subst (ZonesFit total) (sym (zones_push gs g)) z;
      }

  groups_fewer : (xs ys : List SheetGroup) → GroupsFit total (xs ++ ys) → GroupsFit total xs
  groups_fewer xs ys f = record {
    lawful = all_front LawfulGroup xs ys f.lawful;
    few = omega (arith, f.few, length-append xs ys);
    zones = zones_fewer total (zones_of xs) (zones_of ys) (subst (ZonesFit total) (flat_map-append (λ (y : SheetGroup). y.zones) xs ys) f.zones);
  }

  abbrev pub sheet_of : List SheetGroup → Outline
  sheet_of gs = record { total = total; groups = gs }

  group_sound : Sound group sheet_of group_bytes (GroupsFit total)
  unfolding group
  group_sound gs s y b bs f e =
      let before : List SheetZone = zones_of gs in
      good_on (split s) _ _ e (λ p parts e.
      let sp = split_spelled s p.0 p.1 bs parts in
      good_on (opened_group gs p.0) _ _ e (λ o first e.
      let op = opened gs p.0 o.0 o.1 sp.inside_bytes first in
      good_on (to_end (zone total before) o.0 o.1) _ _ e (λ full more e.
      let none : ZonesFit total (before ++ []) = subst (ZonesFit total) (sym (append-nil before)) f.zones in
      let read : to_end (zone total before) (group_of total before op.name []) o.1 ≡ Ok full = subst (λ g. to_end (zone total before) g o.1 ≡ Ok full) op.is more in
      let i = zones_sound total before op.name o.1 full op.left none read in
      let g : SheetGroup = record { name = op.name; zones = i.items } in
      let same = same_pair (sheet_of (gs ++ full ∷ [])) y p.1 b e in
      let inside : p.0.inside.bytes ≡ length g.name ∷ (g.name ++ flat_map zone_bytes g.zones) = subst (λ ys. p.0.inside.bytes ≡ length op.name ∷ (op.name ++ ys)) i.bytes op.bytes in
      record {
        item = g;
        is = sym same.0 ∙ ap (λ x. sheet_of (gs ++ x ∷ [])) i.is;
        bytes = sp.bytes ∙ (λ j. record_bytes (op.kind j) (inside j) ++ (same.1 j).bytes);
        fits = groups_more gs g f op.named op.room i.fits;
        left = subst (λ (t : StretchModel). Bytes t.bytes) same.1 sp.behind_bytes;
      })))

  group_complete : Complete group sheet_of group_bytes (GroupsFit total)
  unfolding group
  group_complete gs g place rest short f =
      let law : LawfulGroup g = (all_behind LawfulGroup gs (g ∷ []) f.lawful).0 in
      let named : Named g.name = record { named = law.named; short = law.short; characters = law.characters } in
      let room : length gs < 16 = omega (arith, f.few, length_push gs g) in
      let body : List ℕ = flat_map zone_bytes g.zones in
      let payload : List ℕ = length g.name ∷ (g.name ++ body) in
      let o = opens gs place (place + 4) g.name body named room in
      let few : length body ≤ 16384 = omega (arith, short, length-append g.name body) in (
        place + (4 + length payload),
        bind_on (split (record { place = place; bytes = group_bytes g ++ rest })) _ _ _ (split_reads place 2 payload rest (omega arith) (omega (arith, short)))
            (bind_on (opened_group gs (record { kind = 2; at = place; inside = record { place = place + 4; bytes = payload } })) _ _ _ o.1
            (bind_on (to_end (zone total (zones_of gs)) (record { name = g.name; zones = [] }) (record { place = o.0; bytes = body })) _ _ _
            (zones_complete total (zones_of gs) g.name g.zones o.0 few (subst (ZonesFit total) (zones_push gs g) f.zones))
            refl)),
      )

  some_bytes : (g : SheetGroup) → 0 < length (group_bytes g)
  some_bytes g = omega arith

  -- groups to the end of a sheet
  pub groups_sound : (s : StretchModel) (y : Outline) → Bytes s.bytes → GroupsFit total [] → to_end group (sheet_of []) s ≡ Ok y → Items group sheet_of group_bytes (GroupsFit total) [] s.bytes y
  groups_sound s y bs f e = sound_to_end group sheet_of group_bytes (GroupsFit total) some_bytes group_sound [] s y bs f e

  pub groups_complete : (gs : List SheetGroup) (place : ℕ) → length (flat_map group_bytes gs) ≤ 16384 → GroupsFit total gs → to_end group (sheet_of []) (record { place = place; bytes = flat_map group_bytes gs }) ≡ Ok (sheet_of gs)
  groups_complete gs place short f = complete_to_end group sheet_of group_bytes (GroupsFit total) some_bytes groups_fewer group_complete [] gs place short f
