-- The whole sheet: what is read is the one lawful outline that the bytes spell. Assumes nothing.
use Rattle.std.proofs.Common.{◌≡◌, ℕ, zero, suc, ◌+◌, ◌<◌, ◌≤◌, Bool, true, false, cond, eqb, ltb, leb, List, [], ◌∷◌, ◌++◌, length, take, drop, Ok, sym, refl, ap, ◌∙◌, subst, ⊎_elim, append-nil, arith}
use Rattle.std.proofs.ByRecursion.{All-append}
use Rattle.std.proofs.lemmas.Bool.{cases_Bool, cases_order, cond-true, lt-ltb, ltb-true, leb-true, le-leb, eqb-true, eq-eqb, and_parts, and_from}
use Rattle.std.proofs.lemmas.List.{take_all, drop_all, length-drop}
use Rattle.std.specs.List.{AllByRecursion, list_any, flat_map}
use Rattle.formulas.specs.Formula.{among}
use Rattle.rules.proofs.Grounds.{fair_true}
use Rattle.sheets.specs.Exactly.{ReadsExactly}
use Rattle.sheets.specs.Lawful.{Lawful, LawfulGroup, LawfulZone, zones_with}
use Rattle.sheets.specs.Layout.{StretchModel, PieceModel, word_at, byte_at, first_piece, fields}
use Rattle.sheets.specs.Outlines.{Outline, SheetGroup, SheetZone, zones_of, zones}
use Rattle.sheets.specs.Parts.{group, to_end}
use Rattle.sheets.specs.Reading.{whole, head_total, all_zoned, read}
use Rattle.sheets.specs.Spelling.{word, record_bytes, group_bytes, spell}
use Rattle.sheets.proofs.Accepted.{passes, same_ok, fair_good}
use Rattle.sheets.proofs.Counts.{some_counted, some_passes}
use Rattle.sheets.proofs.Records.{Bytes, split_spelled, word_reads, fields_spelled, fields_reads}
use Rattle.sheets.proofs.ReadsGroups.{GroupsFit, sheet_of, groups_sound, groups_complete, one_field}
use Rattle.sheets.proofs.ZonesFit.{Zoned, zones_none}
use Rattle.sheets.proofs.Chains.{bind_on, good_on, test_good}

-- ---- every head in a zone
all_found : (zs : List SheetZone) (h count : ℕ) → all_zoned zs h count ≡ Ok tt → (k : ℕ) → h ≤ k → k < h + count → list_any (λ z. among k z.heads) zs ≡ true
all_found zs h zero e k l m = absurd (omega arith)
all_found zs h (suc count) e k l m =
    let p = passes _ _ _ _ e in
    ⊎_elim
    (λ s. subst (λ g. list_any (λ z. among g z.heads) zs ≡ true) s p.0)
    (⊎_elim (λ s. all_found zs (suc h) count p.1 k s (omega (arith, m))) (λ s. absurd (omega (arith, s, l))))
    (cases_order h k)

found_all : (zs : List SheetZone) (h count : ℕ) → ((k : ℕ) → h ≤ k → k < h + count → list_any (λ z. among k z.heads) zs ≡ true) → all_zoned zs h count ≡ Ok tt
found_all zs h zero f = refl
found_all zs h (suc count) f =
    cond-true _ _ _ (f h (omega arith) (omega arith)) ∙ found_all zs (suc h) count (λ k l m. f k (omega arith) (omega arith))

-- each head below the total in exactly one zone
exactly_one : (total : ℕ) (zs : List SheetZone) → Zoned total zs → all_zoned zs 0 total ≡ Ok tt → (h : ℕ) → zones_with h zs ≡ cond (ltb h total) 1 0
exactly_one total zs few e h =
    let p : SheetZone → Bool = λ z. among h z.heads in
    ⊎_elim
    (λ (low : ltb h total ≡ true). omega (arith, few h, ap {B = ℕ} (λ b. cond b 1 0) low, some_counted p zs (all_found zs 0 total e h (omega arith) (omega (arith, ltb-true h total low)))))
    (λ (high : ltb h total ≡ false). omega (arith, few h, ap {B = ℕ} (λ b. cond b 1 0) high))
    (cases_Bool (ltb h total))

all_in_one : (total : ℕ) (zs : List SheetZone) → ((h : ℕ) → zones_with h zs ≡ cond (ltb h total) 1 0) → all_zoned zs 0 total ≡ Ok tt
all_in_one total zs one =
    found_all zs 0 total (λ h l m. some_passes (λ z. among h z.heads) zs (omega (arith, one h, ap {B = ℕ} (λ b. cond b 1 0) (lt-ltb h total (omega (arith, m))))))

-- ---- the sheet's own record
record Whole (xs : List ℕ) (p : PieceModel) : Type 0 where
  bytes : xs ≡ record_bytes 1 p.inside.bytes
  inside : Bytes p.inside.bytes
  short : length xs ≤ 16384

whole_good : (xs : List ℕ) (p : PieceModel) → Bytes xs → whole xs ≡ Ok p → Whole xs p
whole_good xs p bs e =
    let a = passes _ _ _ _ e in
    let size = and_parts (leb 4 (length xs)) (leb (length xs) 16384) a.0 in
    let b = test_good _ _ _ _ a.1 in
    let one = and_parts (eqb (word_at 2 xs) 1) (eqb (4 + word_at 0 xs) (length xs)) b.0 in
    let full : 4 + word_at 0 xs ≡ length xs = eqb-true _ _ one.1 in
    let s : StretchModel = record { place = 0; bytes = xs } in
    let n = word_at 0 xs in
    let sp = split_spelled s (first_piece n s).0 (first_piece n s).1 bs (cond-true _ _ _ (and_from _ _ size.0 (le-leb (4 + n) (length xs) (omega (arith, full))))) in
    let most : take n (drop 4 xs) ≡ drop 4 xs = take_all n (drop 4 xs) (omega (arith, full, length-drop 4 xs)) in
    let none : drop (4 + n) xs ≡ [] = drop_all (4 + n) xs (omega (arith, full)) in
    subst (Whole xs) b.1 (record {
      bytes = sp.bytes ∙ (λ i. record_bytes (eqb-true (word_at 2 xs) 1 one.0 i) (most i) ++ none i) ∙ append-nil (record_bytes 1 (drop 4 xs));
      inside = subst Bytes most sp.inside_bytes;
      short = leb-true (length xs) 16384 size.1;
    })

whole_reads : (payload : List ℕ) → length (record_bytes 1 payload) ≤ 16384 → whole (record_bytes 1 payload) ≡ Ok (record { kind = 1; at = 0; inside = record { place = 4; bytes = payload } })
whole_reads payload short =
    let xs : List ℕ = record_bytes 1 payload in
    let n : word_at 0 xs ≡ length payload = word_reads 0 (length payload) [] (word 1 ++ payload) (omega (arith, short)) refl in
    cond-true _ _ _ (and_from _ _ (le-leb 4 (length xs) (omega arith)) (le-leb (length xs) 16384 short))
    ∙ cond-true _ _ _ (and_from _ _ (eq-eqb (word_at 2 xs) 1 refl) (eq-eqb (4 + word_at 0 xs) (length xs) (omega (arith, n))))

-- ---- the whole
groups_none : (total : ℕ) → GroupsFit total []
groups_none total = record { lawful = tt; few = omega arith; zones = zones_none total }

record Good (xs : List ℕ) (o : Outline) : Type 0 where
  spelled : xs ≡ spell o
  lawful : Lawful o

good : (xs : List ℕ) (o : Outline) → Bytes xs → read xs ≡ Ok o → Good xs o
unfolding read
good xs o bs e =
    good_on (whole xs) _ _ e (λ p one e.
    let w = whole_good xs p bs one in
    good_on (fields 1 p) _ _ e (λ f first e.
    let fs = fields_spelled 1 p f.0 f.1 w.inside first in
    let total = byte_at 0 f.0 in
    good_on (head_total total) _ _ e (λ _ card e.
    let fair = fair_good total 64 (test_good _ _ _ _ card).0 in
    good_on (to_end group (sheet_of total []) f.1) _ _ e (λ full more e.
    let i = groups_sound total f.1 full fs.behind_bytes (groups_none total) more in
    good_on (all_zoned (zones full) 0 full.total) _ _ e (λ _ found e.
    let made : Outline = sheet_of total i.items in
    let same : made ≡ o = sym i.is ∙ same_ok full o e in
    let zoned : all_zoned (zones made) 0 total ≡ Ok tt = ap (λ (q : Outline). all_zoned (zones q) 0 q.total) (sym i.is) ∙ found in
    let inside : p.inside.bytes ≡ total ∷ flat_map group_bytes i.items = fs.bytes ∙ (λ j. one_field f.0 fs.many j ++ i.bytes j) in
    let spelled : xs ≡ spell made = w.bytes ∙ ap (record_bytes 1) inside in
    subst (Good xs) same (record {
      spelled = spelled;
      lawful = record {
        some_heads = fair.0;
        few_heads = fair.1;
        few_groups = i.fits.few;
        few_zones = i.fits.zones.few_zones;
        few_rules = i.fits.zones.few_rules;
        groups = i.fits.lawful;
        zoned = exactly_one total (zones made) i.fits.zones.zoned zoned;
        zone_numbers = i.fits.zones.zone_numbers;
        rule_numbers = i.fits.zones.rule_numbers;
        short = subst (λ ys. length ys ≤ 16384) spelled w.short;
      };
    }))))))

all_zones : (gs : List SheetGroup) → AllByRecursion LawfulGroup gs → AllByRecursion LawfulZone (zones_of gs)
all_zones [] a = tt
all_zones (g ∷ gs) a = All-append LawfulZone g.zones (zones_of gs) a.0.zones (all_zones gs a.1)

reads : (o : Outline) → Lawful o → read (spell o) ≡ Ok o
unfolding read
reads o law =
    let body : List ℕ = flat_map group_bytes o.groups in
    let payload : List ℕ = o.total ∷ body in
    let p : PieceModel = record { kind = 1; at = 0; inside = record { place = 4; bytes = payload } } in
    let fit : GroupsFit o.total o.groups = record {
      lawful = law.groups;
      few = law.few_groups;
      zones = record {
        lawful = all_zones o.groups law.groups;
        few_zones = law.few_zones;
        few_rules = law.few_rules;
        zoned = λ h. omega (arith, law.zoned h);
        zone_numbers = law.zone_numbers;
        rule_numbers = law.rule_numbers;
      };
    } in
    bind_on (whole (spell o)) _ _ _ (whole_reads payload law.short)
    (bind_on (fields 1 p) _ _ _ (fields_reads 1 p (o.total ∷ []) body refl refl)
    (bind_on (head_total o.total) _ _ _ (cond-true _ _ _ (fair_true law.some_heads law.few_heads))
    (bind_on (to_end group (sheet_of o.total []) (record { place = 5; bytes = body })) _ _ _ (groups_complete o.total o.groups 5 (omega (arith, law.short)) fit)
    (bind_on (all_zoned (zones o) 0 o.total) _ _ _ (all_in_one o.total (zones o) law.zoned)
    refl))))

-- what is read is the one lawful outline that the bytes spell
pub reads_exactly : (xs : List ℕ) → Bytes xs → ReadsExactly xs
reads_exactly xs bs = record {
  spelled = λ o e. (good xs o bs e).spelled;
  lawful = λ o e. (good xs o bs e).lawful;
  reads = λ o e law. ap read e ∙ reads o law;
  only = λ o p e law f more. same_ok o p (sym (ap read e ∙ reads o law) ∙ ap read f ∙ reads p more);
}
