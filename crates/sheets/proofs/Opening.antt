-- A zone or a group that is opened: what its record says, and that a reader has met it then. Assumes nothing.
use Rattle.std.proofs.Common.{◌≡◌, ℕ, ◌+◌, ◌*◌, ◌||◌, List, [], ◌∷◌, ◌++◌, map, get_or, Ok, refl, sym, ap, ◌∙◌, ap₂, append-nil}
use mathlib.Core.Bool.{or-false}
use Rattle.std.proofs.lemmas.Grind.{flat_map-append}
use Rattle.std.proofs.lemmas.List.{map-append}
use Rattle.std.proofs.lemmas.List.Folds.{list_any-append}
use Rattle.formulas.specs.Formula.{among}
use Rattle.entries.specs.Heads.{heads, SameHeads}
use Rattle.entries.proofs.Listing.{among-append}
use Rattle.sheets.specs.Layout.{StretchModel, PieceModel, word_at, byte_at, of_kind, fields, counted}
use Rattle.sheets.specs.Loading.{line, zone_lines}
use Rattle.sheets.specs.Outlines.{SheetZone, SheetGroup}
use Rattle.sheets.specs.Parts.{head_count, zone_heads, zone_number, opened_zone, name, group_room, opened_group}
use Rattle.sheets.specs.Standing.{Stands}
use Rattle.sheets.specs.declared.reader.Reader.{Reader}
use Rattle.sheets.proofs.Records.{kind_good}

-- a zone of no rules yet
abbrev pub new_zone : ℕ → List ℕ → SheetZone
new_zone n hs = record { number = n; heads = hs; rules = [] }

pub zone_opens : (total : ℕ) (before : List SheetZone) (p q : PieceModel) (f : List ℕ × StretchModel) (hs : List ℕ × StretchModel) → of_kind 3 p ≡ Ok q → fields 3 q ≡ Ok f → counted p.at (byte_at 2 f.0) f.1 ≡ Ok hs → head_count p.at (byte_at 2 f.0) ≡ Ok tt → zone_heads p.at total before 0 hs.0 ≡ Ok tt → zone_number p.at (word_at 0 f.0) before ≡ Ok tt → opened_zone total before p ≡ Ok (new_zone (word_at 0 f.0) hs.0, hs.1)
zone_opens total before p q f hs a b c d e g =
    let same : q ≡ p = sym (kind_good 3 p q a).1 in
    let b2 : fields 3 p ≡ Ok f = ap (fields 3) (sym same) ∙ b in
    rw (a ∙ ap Ok same, b2, c, d, e, g) refl

-- the zone is met after those before it
pub zone_met : (total groups : ℕ) (before : List SheetZone) (r s : Reader) (n : ℕ) (hs : List ℕ) → Stands total groups before r → s.total ≡ r.total → s.groups ≡ r.groups → s.zones.items ≡ r.zones.items ++ n ∷ [] → SameHeads (heads s.heads.bits) (heads r.heads.bits ++ hs) → s.rules ≡ r.rules → Stands total groups (before ++ new_zone n hs ∷ []) s
zone_met total groups before r s n hs stands t g z h k = record {
  card = t ∙ stands.card;
  counted = g ∙ stands.counted;
  numbers = z ∙ ap (λ ns. ns ++ n ∷ []) stands.numbers ∙ sym (map-append (λ z. z.number) before (new_zone n hs ∷ []));
  heads_met = λ j. h j ∙ among-append j (heads r.heads.bits) hs ∙ ap₂ ◌||◌ (stands.heads_met j) (sym (or-false (among j hs))) ∙ sym (list_any-append (λ z. among j z.heads) before (new_zone n hs ∷ []));
  rules = ap (λ ps. map line ps.items) k ∙ stands.rules ∙ sym (flat_map-append zone_lines before (new_zone n hs ∷ []) ∙ append-nil _);
}

-- a group of no zones yet
abbrev pub new_group : List ℕ → SheetGroup
new_group bs = record { name = bs; zones = [] }

pub group_opens : (before : List SheetGroup) (p q : PieceModel) (f : List ℕ × StretchModel) (bs : List ℕ × StretchModel) → of_kind 2 p ≡ Ok q → fields 1 q ≡ Ok f → counted p.at (byte_at 0 f.0) f.1 ≡ Ok bs → name p.at bs.0 ≡ Ok tt → group_room p.at before ≡ Ok tt → opened_group before p ≡ Ok (new_group bs.0, bs.1)
group_opens before p q f bs a b c d e =
    let same : q ≡ p = sym (kind_good 2 p q a).1 in
    let b2 : fields 1 p ≡ Ok f = ap (fields 1) (sym same) ∙ b in
    rw (a ∙ ap Ok same, b2, c, d, e) refl

-- the group is met
pub group_met : (total groups : ℕ) (zs : List SheetZone) (r s : Reader) → Stands total groups zs r → s.total ≡ r.total → s.groups ≡ r.groups + 1 → s.zones ≡ r.zones → s.heads ≡ r.heads → s.rules ≡ r.rules → Stands total (groups + 1) zs s
group_met total groups zs r s stands t g z h k = record {
  card = t ∙ stands.card;
  counted = g ∙ ap (λ n. n + 1) stands.counted;
  numbers = ap (λ ns. ns.items) z ∙ stands.numbers;
  heads_met = λ j. ap (λ hs. among j (heads hs.bits)) h ∙ stands.heads_met j;
  rules = ap (λ ps. map line ps.items) k ∙ stands.rules;
}

-- the number in the first two bytes
pub first_word : (xs : List ℕ) → word_at 0 xs ≡ get_or xs 0 0 + get_or xs 1 0 * 256
first_word [] = refl
first_word (x ∷ []) = refl
first_word (x ∷ (y ∷ ys)) = refl
