-- The heads of a zone, met one by one: what is left to be met, and that the set of them has just those. Assumes nothing.
use Rattle.std.proofs.Common.{◌≡◌, ℕ, suc, ◌+◌, ◌<◌, ◌≤◌, Bool, true, false, cond, List, [], ◌∷◌, length, get_or, take, drop, Some, None, Ok, Err, Option, refl, sym, ap, ◌∙◌, subst, ⊎_elim, arith, drop-cons, add-one}
use Rattle.std.proofs.lemmas.Bool.{both_ways, cases_order, cond-true, cond-false, eq-eqb, ne_eqb, le-leb, lt-leb, lt-ltb, le-ltb}
use Rattle.std.proofs.lemmas.List.{take_all, drop_all}
use Rattle.std.specs.List.{AllByRecursion, list_any}
use Rattle.std.specs.Option.{MatchOption, ok_or}
use Rattle.formulas.specs.Formula.{among}
use Rattle.entries.specs.Heads.{heads, Rising, SameHeads}
use Rattle.entries.specs.declared.heads.HeadSet.{HeadSet}
use Rattle.entries.proofs.Adding.{listed_more}
use Rattle.entries.proofs.Listing.{rising}
use Rattle.sheets.specs.Outlines.{SheetZone}
use Rattle.sheets.specs.Parts.{zone_heads}
use Rattle.sheets.specs.declared.fault.SheetFault.{SheetFault}
use Rattle.sheets.proofs.ZonesFit.{heads_sound}
use Rattle.sheets.specs.declared.fault.SheetFault.TheVariants.{HeadAboveTotal, HeadNotRising, HeadInTwoZones}

-- ---- lists that rise are equal if they have the same heads
among_first : (h : ℕ) (hs : List ℕ) → among h (h ∷ hs) ≡ true
among_first h hs = rw (eq-eqb h h refl) refl

not_among : (g h : ℕ) (hs : List ℕ) → g ≤ h → AllByRecursion (λ k. h < k) hs → among g hs ≡ false
not_among g h [] l a = refl
not_among g h (k ∷ ks) l a = rw (ne_eqb k g (omega (arith, a.0))) (not_among g h ks l a.1)

not_first : (g h : ℕ) (hs : List ℕ) → g < h → Rising (h ∷ hs) → among g (h ∷ hs) ≡ false
not_first g h hs l r = rw (ne_eqb h g (omega arith)) (not_among g h hs (omega arith) r.0)

other : (x h : ℕ) (xs ys : List ℕ) → (x ≡ h → ⊥) → among h (x ∷ xs) ≡ among h (x ∷ ys) → among h xs ≡ among h ys
other x h xs ys n e = rw (ne_eqb x h n) at e

same_rest : (x : ℕ) (xs ys : List ℕ) → Rising (x ∷ xs) → Rising (x ∷ ys) → SameHeads (x ∷ xs) (x ∷ ys) → SameHeads xs ys
same_rest x xs ys r s e h =
    ⊎_elim
    (λ (q : h ≡ x). not_among h x xs (omega arith) r.0 ∙ sym (not_among h x ys (omega arith) s.0))
    (⊎_elim (λ (q : h < x). other x h xs ys (omega arith) (e h)) (λ (q : x < h). other x h xs ys (omega arith) (e h)))
    (cases_order h x)

rising_same : (xs ys : List ℕ) → Rising xs → Rising ys → SameHeads xs ys → xs ≡ ys
rising_same [] [] r s e = refl
rising_same [] (y ∷ ys) r s e = absurd (both_ways _ (sym (e y)) (among_first y ys))
rising_same (x ∷ xs) [] r s e = absurd (both_ways _ (e x) (among_first x xs))
rising_same (x ∷ xs) (y ∷ ys) r s e =
    ⊎_elim
    (λ (q : x ≡ y).
    let t : Rising (x ∷ ys) = subst (λ k. Rising (k ∷ ys)) (sym q) s in
    let f : SameHeads (x ∷ xs) (x ∷ ys) = subst (λ k. SameHeads (x ∷ xs) (k ∷ ys)) (sym q) e in
    ap (λ zs. x ∷ zs) (rising_same xs ys r.1 s.1 (same_rest x xs ys r t f)) ∙ ap (λ k. k ∷ ys) q)
    (⊎_elim
    (λ (q : x < y). absurd (both_ways _ (e x ∙ not_first x y ys q s) (among_first x xs)))
    (λ (q : y < x). absurd (both_ways _ (sym (e y) ∙ not_first y x xs q r) (among_first y ys))))
    (cases_order x y)

-- ---- one head more
module _ (at total : ℕ) (zs : List SheetZone) (low g : ℕ) (hs : List ℕ) where
  above_total : total ≤ g → zone_heads at total zs low (g ∷ hs) ≡ Err (HeadAboveTotal at g)
  above_total l = cond-true _ _ _ (le-leb total g l)

  not_rising : g < total → g < low → zone_heads at total zs low (g ∷ hs) ≡ Err (HeadNotRising at g)
  not_rising l m = cond-false _ _ _ (lt-leb total g l) ∙ cond-true _ _ _ (lt-ltb g low m)

  met_before : (b : Bool) → g < total → low ≤ g → list_any (λ z. among g z.heads) zs ≡ b → zone_heads at total zs low (g ∷ hs) ≡ cond b (Err (HeadInTwoZones at g)) (zone_heads at total zs (suc g) hs)
  met_before b l m e = cond-false _ _ _ (lt-leb total g l) ∙ cond-false _ _ _ (le-ltb g low m) ∙ ap (λ (t : Bool). cond t (Err (HeadInTwoZones at g)) (zone_heads at total zs (suc g) hs)) e

-- ---- the loop over them
-- the reader has met the heads of these zones
abbrev pub Met : ℕ → List SheetZone → Type 0
Met bits zs = (h : ℕ) → among h (heads bits) ≡ list_any (λ z. among h z.heads) zs

-- what is said of all is said of those left, from the low one on; the set has those passed
pub record Passing (at total bits : ℕ) (hs : List ℕ) (low i set : ℕ) : Type 0 where
  pub left : (zs : List SheetZone) → Met bits zs → zone_heads at total zs 0 hs ≡ zone_heads at total zs low (drop i hs)
  pub listed : SameHeads (heads set) (take i hs)

module _ {at total bits : ℕ} {hs : List ℕ} {low i set : ℕ} (p : Passing at total bits hs low i set) (g : ℕ) (is : get_or hs i 0 ≡ g) where
  one_left : (zs : List SheetZone) → Met bits zs → i < length hs → zone_heads at total zs 0 hs ≡ zone_heads at total zs low (g ∷ drop (suc i) hs)
  one_left zs m l = p.left zs m ∙ ap (zone_heads at total zs low) (drop-cons hs i 0 l ∙ ap (λ k. k ∷ drop (suc i) hs) is)

  pub refused_above : (zs : List SheetZone) → Met bits zs → i < length hs → total ≤ g → zone_heads at total zs 0 hs ≡ Err (HeadAboveTotal at g)
  refused_above zs m l a = one_left zs m l ∙ above_total at total zs low g (drop (suc i) hs) a

  pub refused_falling : (zs : List SheetZone) → Met bits zs → i < length hs → g < total → g < low → zone_heads at total zs 0 hs ≡ Err (HeadNotRising at g)
  refused_falling zs m l a b = one_left zs m l ∙ not_rising at total zs low g (drop (suc i) hs) a b

  pub refused_again : (zs : List SheetZone) → Met bits zs → i < length hs → g < total → low ≤ g → among g (heads bits) ≡ true → zone_heads at total zs 0 hs ≡ Err (HeadInTwoZones at g)
  refused_again zs m l a b e = one_left zs m l ∙ met_before at total zs low g (drop (suc i) hs) true a b (sym (m g) ∙ e)

  pub one_more : (new : ℕ) → i < length hs → g < total → low ≤ g → among g (heads bits) ≡ false → SameHeads (heads new) (g ∷ heads set) → Passing at total bits hs (g + 1) (i + 1) new
  one_more new l a b e same = record {
    left = λ zs m. rw (add-one g, add-one i) (one_left zs m l ∙ met_before at total zs low g (drop (suc i) hs) false a b (sym (m g) ∙ e));
    listed = listed_more (heads new) (heads set) hs i l p.listed (rw is same);
  }

module _ {at total bits : ℕ} {hs : List ℕ} {low i set : ℕ} (p : Passing at total bits hs low i set) (zs : List SheetZone) (m : Met bits zs) (l : length hs ≤ i) where
  pub all_passed : zone_heads at total zs 0 hs ≡ Ok tt
  all_passed = p.left zs m ∙ rw (drop_all i hs l) refl

  pub all_listed : heads set ≡ hs
  all_listed = rising_same (heads set) hs (rising set) (heads_sound at total zs 0 hs all_passed).1 (subst (λ gs. SameHeads (heads set) gs) (take_all i hs l) p.listed)

-- the set with one head more, where there is one
pub set_from_ok : (o : Option HeadSet) (f : SheetFault) (s : HeadSet) (P : Type 0) (Q : HeadSet → Type 0) → MatchOption o P Q → Ok s ≡ ok_or o f → Q s
set_from_ok None f s P Q m e = cc
set_from_ok (Some t) f s P Q m e = let q : s ≡ t = cc in subst Q (sym q) m
