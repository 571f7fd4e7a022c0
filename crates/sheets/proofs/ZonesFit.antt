-- Zones that fit one after another: what the reader holds each against, and what that comes to. Assumes nothing.
--     ZonesFit      zones that may begin a lawful sheet
--     Header        the number and the heads of one zone more
use Rattle.std.proofs.Common.{◌≡◌, ℕ, suc, ◌<◌, ◌≤◌, Bool, true, false, cond, eqb, ltb, List, [], ◌∷◌, ◌++◌, length, Ok, sym, refl, ap, ◌∙◌, subst, ⊎_elim, append-nil, length-append, arith}
use Rattle.std.proofs.ByRecursion.{All-push, All-weaker}
use Rattle.std.proofs.lemmas.Bool.{cases_Bool, cond-false, lt-ltb, le-ltb, lt-leb, ltb-true, ltb-false, leb-false}
use Rattle.std.proofs.lemmas.List.{length_push}
use Rattle.std.proofs.lemmas.List.Concat.{flat_map-append}
use Rattle.std.specs.List.{AllByRecursion, list_any}
use Rattle.formulas.specs.Formula.{among}
use Rattle.entries.proofs.Listing.{all_among}
use Rattle.entries.specs.Heads.{Rising}
use Rattle.sheets.specs.Lawful.{LawfulZone, zones_with, zones_numbered, rules_numbered}
use Rattle.sheets.specs.Outlines.{SheetZone, SheetRule, rules_of}
use Rattle.sheets.specs.Parts.{zone_heads}
use Rattle.sheets.proofs.Accepted.{stays}
use Rattle.sheets.proofs.Counts.{all_front, all_behind, all_from_among, count-append, count_push, none_counted, none_passes, keys_more, key_last}
use Rattle.sheets.proofs.ReadsRules.{RulesFit}

-- a head below the total, and in no zone before
abbrev pub Free : ℕ → List SheetZone → ℕ → Type 0
Free total all h = (h < total) × (list_any (λ z. among h z.heads) all ≡ false)

-- ---- the heads of a zone, one after another
pub heads_sound : (at total : ℕ) (all : List SheetZone) (low : ℕ) (hs : List ℕ) → zone_heads at total all low hs ≡ Ok tt → AllByRecursion (λ h. low ≤ h) hs × Rising hs × AllByRecursion (Free total all) hs
heads_sound at total all low [] e = (tt, tt, tt)
heads_sound at total all low (h ∷ hs) e =
    let a = stays _ _ _ _ e in
    let b = stays _ _ _ _ a.1 in
    let c = stays _ _ _ _ b.1 in
    let rest = heads_sound at total all (suc h) hs c.1 in
    let high : low ≤ h = ltb-false h low b.0 in
    ((high, All-weaker (λ k. suc h ≤ k) (λ k. low ≤ k) (λ k l. omega (arith, high, l)) hs rest.0), (rest.0, rest.1), ((leb-false total h a.0, c.0), rest.2))

pub heads_read : (at total : ℕ) (all : List SheetZone) (low : ℕ) (hs : List ℕ) → AllByRecursion (λ h. low ≤ h) hs → Rising hs → AllByRecursion (Free total all) hs → zone_heads at total all low hs ≡ Ok tt
heads_read at total all low [] a r f = refl
heads_read at total all low (h ∷ hs) a r f =
    cond-false _ _ _ (lt-leb total h f.0.0) ∙ cond-false _ _ _ (le-ltb h low a.0) ∙ cond-false _ _ _ f.0.1 ∙ heads_read at total all (suc h) hs r.0 r.1 f.1

pub any_low : (hs : List ℕ) → AllByRecursion (λ h. 0 ≤ h) hs
any_low [] = tt
any_low (h ∷ hs) = (omega arith, any_low hs)

-- ---- each head in at most one zone, and none that is not below the total
abbrev pub Zoned : ℕ → List SheetZone → Type 0
Zoned total zs = (h : ℕ) → zones_with h zs ≤ cond (ltb h total) 1 0

zoned_more : (total : ℕ) (all : List SheetZone) (z : SheetZone) → Zoned total all → AllByRecursion (Free total all) z.heads → Zoned total (all ++ z ∷ [])
zoned_more total all z k free h =
    let p : SheetZone → Bool = λ y. among h y.heads in
    ⊎_elim
    (λ e. let f = all_among (Free total all) z.heads h free e in
    omega (arith, count_push p all z, none_counted p all f.1, ap {B = ℕ} (λ b. cond b 1 0) e, ap {B = ℕ} (λ b. cond b 1 0) (lt-ltb h total f.0)))
    (λ e. omega (arith, count_push p all z, k h, ap {B = ℕ} (λ b. cond b 1 0) e))
    (cases_Bool (among h z.heads))

free_last : (total : ℕ) (all : List SheetZone) (z : SheetZone) → Zoned total (all ++ z ∷ []) → AllByRecursion (Free total all) z.heads
free_last total all z k = all_from_among (Free total all) z.heads free
  where
    free : (h : ℕ) → among h z.heads ≡ true → Free total all h
    free h e =
        let p : SheetZone → Bool = λ y. among h y.heads in
        ⊎_elim
        (λ (low : ltb h total ≡ true). (ltb-true h total low, none_passes p all (omega (arith, count_push p all z, k h, ap {B = ℕ} (λ b. cond b 1 0) e, ap {B = ℕ} (λ b. cond b 1 0) low))))
        (λ (high : ltb h total ≡ false). absurd (omega (arith, count_push p all z, k h, ap {B = ℕ} (λ b. cond b 1 0) e, ap {B = ℕ} (λ b. cond b 1 0) high)))
        (cases_Bool (ltb h total))

-- ---- zones one after another
pub record ZonesFit (total : ℕ) (zs : List SheetZone) : Type 0 where
  pub lawful : AllByRecursion LawfulZone zs
  pub few_zones : length zs ≤ 32
  pub few_rules : length (rules_of zs) ≤ 64
  pub zoned : Zoned total zs
  pub zone_numbers : (n : ℕ) → zones_numbered n zs ≤ 1
  pub rule_numbers : (n : ℕ) → rules_numbered n (rules_of zs) ≤ 1

-- one zone more, but for its rules
pub record Header (total : ℕ) (all : List SheetZone) (number : ℕ) (hs : List ℕ) : Type 0 where
  pub numbered : number < 65536
  pub some_heads : 1 ≤ length hs
  pub few_heads : length hs ≤ 32
  pub rising : Rising hs
  pub free : AllByRecursion (Free total all) hs
  pub fresh : list_any (λ z. eqb z.number number) all ≡ false
  pub room : length all < 32

pub rules_push : (all : List SheetZone) (z : SheetZone) → rules_of (all ++ z ∷ []) ≡ rules_of all ++ z.rules
rules_push all z = flat_map-append (λ (y : SheetZone). y.rules) all (z ∷ []) ∙ ap (λ rs. rules_of all ++ rs) (append-nil z.rules)

module _ (total : ℕ) where
  pub zones_more : (all : List SheetZone) (z : SheetZone) → ZonesFit total all → Header total all z.number z.heads → RulesFit all z.heads z.rules → ZonesFit total (all ++ z ∷ [])
  zones_more all z f h r =
      let lawful : LawfulZone z = record { numbered = h.numbered; some_heads = h.some_heads; few_heads = h.few_heads; rising = h.rising; rules = r.lawful } in
      record {
        lawful = All-push LawfulZone all z f.lawful lawful;
        few_zones = omega (arith, h.room, length_push all z);
        few_rules = subst (λ rs. length rs ≤ 64) (sym (rules_push all z)) r.few;
        zoned = zoned_more total all z f.zoned h.free;
        zone_numbers = keys_more (λ (y : SheetZone). y.number) all z f.zone_numbers h.fresh;
        rule_numbers = λ n. subst (λ rs. rules_numbered n rs ≤ 1) (sym (rules_push all z)) (r.numbers n);
      }

  lawful_last : (all : List SheetZone) (z : SheetZone) → ZonesFit total (all ++ z ∷ []) → LawfulZone z
  lawful_last all z f = (all_behind LawfulZone all (z ∷ []) f.lawful).0

  pub header_last : (all : List SheetZone) (z : SheetZone) → ZonesFit total (all ++ z ∷ []) → Header total all z.number z.heads
  header_last all z f =
      let law = lawful_last all z f in
      record {
        numbered = law.numbered;
        some_heads = law.some_heads;
        few_heads = law.few_heads;
        rising = law.rising;
        free = free_last total all z f.zoned;
        fresh = key_last (λ (y : SheetZone). y.number) all z f.zone_numbers;
        room = omega (arith, f.few_zones, length_push all z);
      }

  pub rules_last : (all : List SheetZone) (z : SheetZone) → ZonesFit total (all ++ z ∷ []) → RulesFit all z.heads z.rules
  rules_last all z f = record {
    lawful = (lawful_last all z f).rules;
    few = subst (λ rs. length rs ≤ 64) (rules_push all z) f.few_rules;
    numbers = λ n. subst (λ rs. rules_numbered n rs ≤ 1) (rules_push all z) (f.rule_numbers n);
  }

  -- a zone with no rules yet
  pub rules_none : (all : List SheetZone) (hs : List ℕ) → ZonesFit total all → RulesFit all hs []
  rules_none all hs f = record {
    lawful = tt;
    few = subst (λ rs. length rs ≤ 64) (sym (append-nil (rules_of all))) f.few_rules;
    numbers = λ n. subst (λ rs. rules_numbered n rs ≤ 1) (sym (append-nil (rules_of all))) (f.rule_numbers n);
  }

  pub zones_fewer : (xs ys : List SheetZone) → ZonesFit total (xs ++ ys) → ZonesFit total xs
  zones_fewer xs ys f =
      let parts = flat_map-append (λ (y : SheetZone). y.rules) xs ys in
      record {
        lawful = all_front LawfulZone xs ys f.lawful;
        few_zones = omega (arith, f.few_zones, length-append xs ys);
        few_rules = omega (arith, f.few_rules, ap length parts, length-append (rules_of xs) (rules_of ys));
        zoned = λ h. omega (arith, f.zoned h, count-append (λ (z : SheetZone). among h z.heads) xs ys);
        zone_numbers = λ n. omega (arith, f.zone_numbers n, count-append (λ (z : SheetZone). eqb z.number n) xs ys);
        rule_numbers = λ n. omega (arith, f.rule_numbers n, ap (rules_numbered n) parts, count-append (λ (r : SheetRule). eqb r.number n) (rules_of xs) (rules_of ys));
      }

  pub zones_none : ZonesFit total []
  zones_none = record { lawful = tt; few_zones = omega arith; few_rules = omega arith; zoned = λ h. omega arith; zone_numbers = λ n. omega arith; rule_numbers = λ n. omega arith }
