-- The margin that a row works out for one entry, and the step of one entry whole. Assumes nothing.
use Rattle.std.proofs.Common.{◌≡◌, ℕ, ◌+◌, ◌-◌, ◌*◌, ◌%◌, ◌<◌, ◌≤◌, true, false, List, [], ◌∷◌, ◌++◌, map, length, get_or, take, drop, set, ℤ, neg_ℤ, Some, None, Option, sym, refl, ap, ap₂, ◌∙◌, subst, mod-lt, ⊎_elim, arith}
use Rattle.std.specs.List.{between, All}
use Rattle.std.specs.Int.{int_max, int_min}
use Rattle.std.specs.Option.{option_map}
use Rattle.std.proofs.lemmas.List.{map-append, map_more, take_more_set, take_all, drop_all, drop_more, length-map, length-set, length-take, get_or-take, get_or-drop}
use Rattle.std.proofs.lemmas.Bool.{cases_lt, false≢true}
use Rattle.std.proofs.lemmas.Option.{slice_get-get_or, same_Some, none-some}
use Rattle.scales.specs.Model.{ScaleModel}
use Rattle.scales.specs.declared.limit.Sense.{Sense}
use Rattle.formulas.specs.Formula.{width}
use Rattle.formulas.specs.Margin.{Signal, test, polls}
use Rattle.runs.specs.Highest.{highest, kth}
use Rattle.runs.specs.Cells.{in_place}
use Rattle.runs.proofs.Picks.{in_place_at, picked}
use Rattle.runs.proofs.Kths.{highest_is, kth_exists}
use Rattle.rules.specs.Nodes.{NodeModel, HeadTest, ZoneTest, Not, Either, Both, Window}
use Rattle.layout.specs.Cells.{Outside, Run}
use Rattle.layout.specs.Shape.{Shape, offset, need, Seen}
use Rattle.layout.specs.Slots.{Wants, Wanted, RunOf, RingOf}
use Rattle.layout.specs.Steps.{TakenIn, Readings, Lit, row_test, WorkedOut, Entered, Tested, AllTested, Zoned}
use Rattle.layout.proofs.Frames.{outside_same, outside_wider, set_outside}
use Rattle.layout.proofs.RingLaws.{ring_next}
use Rattle.layout.proofs.Slides.{run_same, run_pick}
use Rattle.layout.proofs.SlotLaws.{zone_ring, zone_run, zone_leaves, ring_leaves, ring_leaves_run, leaves_both}
use Rattle.layout.proofs.Moves.{At, fair}

-- the head that comes next is the one at i
record NextHead (i h : ℕ) (hs left : List ℕ) : Type 0 where
  within : i < length hs
  is : h ≡ get_or hs i 0
  rest : left ≡ drop (i + 1) hs

next_head : (i h : ℕ) (hs left : List ℕ) → h ∷ left ≡ drop i hs → NextHead i h hs left
next_head i h hs left e = ⊎_elim
    (λ (lt : i < length hs). let same = e ∙ drop_more hs i 0 lt in record { within = lt; is = cc; rest = cc })
    (λ (le : length hs ≤ i). let none = e ∙ drop_all i hs le in cc)
    (cases_lt i (length hs))

no_head : (i : ℕ) (hs : List ℕ) → i ≤ length hs → [] ≡ drop i hs → i ≡ length hs
no_head i hs fits e = ⊎_elim
    (λ (lt : i < length hs). let some = e ∙ drop_more hs i 0 lt in cc)
    (λ (le : length hs ≤ i). omega arith)
    (cases_lt i (length hs))

-- ---- the tests of the zone's heads: the first i are made, those of the other heads are left
pub record TestedTo {Reading M : Type 0} (sm : ScaleModel Reading M) (sh : Shape) (row : Readings Reading) (s : Sense) (l : ℤ) (i : ℕ) (left : List ℕ) (cells : List M) : Type 0 where
  pub long : length cells ≡ length sh.zone
  pub fits : i ≤ length sh.zone
  pub ahead : left ≡ drop i sh.zone
  pub tested : Tested sm sh row s l i cells

module _ {Reading M : Type 0} {sm : ScaleModel Reading M} {sh : Shape} {row : Readings Reading} {s : Sense} {l : ℤ} where
  module _ {i h : ℕ} {left left' : List ℕ} {cells : List M} (t : TestedTo sm sh row s l i left cells) (is : left ≡ h ∷ left') (heads : All (Seen sh) sh.zone) where
    met : NextHead i h sh.zone left'
    met = next_head i h sh.zone left' (sym is ∙ t.ahead)

    inside : i < length cells
    inside = omega (arith, t.long, met.within)

    test_is : {y : ℕ → ℤ} (o : Option M) → Lit sm sh row y → option_map sm.whole o ≡ row_test sm (row h) s l → option_map sm.whole o ≡ Some (test sm.mark s l (y h))
    test_is o lit e =
        let seen = subst (Seen sh) (sym met.is) (heads i 0 met.within) in
        e ∙ ap (option_map (test sm.mark s l)) (lit h seen.0 seen.1)

    pub tested_next : {m : M} → option_map sm.whole (Some m) ≡ row_test sm (row h) s l → TestedTo sm sh row s l (i + 1) left' (set cells i m)
    tested_next {m} e = record {
      long = length-set cells i m ∙ t.long;
      fits = omega (arith, met.within);
      ahead = met.rest;
      tested = λ y lit.
          let f : ℕ → ℤ = λ k. test sm.mark s l (y k) in
          let one : sm.whole m ≡ f h = same_Some (sm.whole m) (f h) (test_is (Some m) lit e) in
          ap (map sm.whole) (take_more_set cells i m inside) ∙ map-append sm.whole (take i cells) (m ∷ [])
          ∙ ap (λ zs. zs ++ (sm.whole m ∷ [])) (t.tested y lit) ∙ ap (λ z. map f (take i sh.zone) ++ (z ∷ [])) (one ∙ ap f met.is)
          ∙ sym (map_more f sh.zone i 0 met.within);
    }

    pub tested_stop : option_map sm.whole None ≡ row_test sm (row h) s l → AllTested sm sh row s l cells false
    tested_stop e = record {
      lit = λ y lit. absurd (none-some _ (test_is None lit e));
      tested = λ f. absurd (false≢true f);
    }

  pub tested_all : {i : ℕ} {left : List ℕ} {cells : List M} → TestedTo sm sh row s l i left cells → left ≡ [] → AllTested sm sh row s l cells true
  tested_all {cells = cells} t none = record {
    lit = λ y lit. refl;
    tested = λ _. subst (λ n. Tested sm sh row s l n cells) (no_head _ sh.zone t.fits (sym none ∙ t.ahead)) t.tested;
  }

  pub zoned_none : {k from to : ℕ} {xs ys zs : List M} → to ≡ from + length sh.zone → Outside from to xs ys → AllTested sm sh row s l zs false → Zoned sm sh row k s l from xs ys None
  zoned_none {from = from} {xs = xs} {ys = ys} e o t = record { outside = subst (λ v. Outside from v xs ys) e o; margin = λ y lit. absurd (false≢true (t.lit y lit)) }

  pub zoned_some : {k from to : ℕ} {xs ys zs : List M} {r : Option M} → 1 ≤ k → k ≤ length sh.zone → length zs ≡ length sh.zone → to ≡ from + length sh.zone → Outside from to xs ys → AllTested sm sh row s l zs true
      → option_map sm.whole r ≡ highest k (map sm.whole zs) → Zoned sm sh row k s l from xs ys r
  zoned_some {k} {from} {xs = xs} {ys} {zs} lo hi long e o t picks = record {
    outside = subst (λ v. Outside from v xs ys) e o;
    margin = λ y lit.
        let f : ℕ → ℤ = λ h. test sm.mark s l (y h) in
        let all : map sm.whole zs ≡ map f sh.zone
        = ap (map sm.whole) (sym (take_all (length sh.zone) zs (omega arith))) ∙ t.tested refl y lit ∙ ap (map f) (take_all (length sh.zone) sh.zone (omega arith)) in
        picks ∙ ap (highest k) all ∙ highest_is k (map f sh.zone) _ (kth_exists k (map f sh.zone) (omega arith) (omega (arith, length-map sh.zone f)));
  }

-- ---- the margin of entry i
wants : {sh : Shape} {lent i from to : ℕ} {node : NodeModel} → At sh lent i node from to → (mark : ℤ → ℤ) (x : Signal) (want : ℕ → ℕ → ℤ) → Wanted mark sh x want → Wants mark sh.zone x want (want i) node
wants {sh} {i = i} at mark x want wanted = subst (Wants mark sh.zone x want (want i)) (sym at.is) (wanted i at.below)

-- what an operand's read says
abbrev pub Operand : {M : Type 0} → Shape → (M → ℤ) → ℕ → ℕ → List M → ℕ → M → Type 0
Operand sh whole n i xs j m = (want : ℕ → ℕ → ℤ) → RingOf sh whole want (n + 1) j xs → whole m ≡ want j (n - sh.hz i)

module _ {Reading M : Type 0} {sm : ScaleModel Reading M} {sh : Shape} {row : Readings Reading} {n i : ℕ} {xs : List M} where
  same_cells : {r : Option M}
      → ((x : Signal) (want : ℕ → ℕ → ℤ) → Wanted sm.mark sh x want → Lit sm sh row (x n) → ((j : ℕ) → j < i → RingOf sh sm.whole want (n + 1) j xs) → RunOf sm.whole want sh.hz (n + 1) (offset sh i) xs (sh.nodes i) → option_map sm.whole r ≡ Some (want i (n - sh.hz i)))
      → WorkedOut sm sh row n i xs xs r
  same_cells m = record { outside = outside_same (offset sh sh.count) (need sh) xs; margin = m }

  pub work_head : {from to h : ℕ} {s : Sense} {l : ℤ} {r : Option M} → At sh (length xs) i (HeadTest h s l) from to → option_map sm.whole r ≡ row_test sm (row h) s l → WorkedOut sm sh row n i xs xs r
  work_head {h = h} {s} {l} at e = same_cells (λ sig want wanted lit rings run.
      let f = fair at in
      let now : n ≡ n - sh.hz i = omega (arith, f.1) in
      e ∙ ap (option_map (test sm.mark s l)) (lit h f.0.0 f.0.1) ∙ ap (λ p. Some (test sm.mark s l (sig p h))) now ∙ ap Some (sym (wants at sm.mark sig want wanted (n - sh.hz i))))

  pub work_zone : {from to k tests : ℕ} {s : Sense} {l : ℤ} {ys : List M} {r : Option M} → At sh (length xs) i (ZoneTest k s l) from to → tests ≡ offset sh sh.count → Zoned sm sh row k s l tests xs ys r → WorkedOut sm sh row n i xs ys r
  work_zone {k = k} {tests} {s} {l} {ys} at e z =
      let f = fair at in
      record {
        outside = outside_wider tests (tests + length sh.zone) (offset sh sh.count) (need sh) xs ys (omega arith) (omega (arith, f.1)) z.outside;
        margin = λ sig want wanted lit rings run.
            let now : n ≡ n - sh.hz i = omega (arith, f.4) in
            z.margin (sig n) lit ∙ ap Some (sym (wants at sm.mark sig want wanted n) ∙ ap (want i) now);
      }

  pub work_not : {from to j : ℕ} (m : M) {r : M} → At sh (length xs) i (Not j) from to → Operand sh sm.whole n i xs j m → sm.whole r ≡ neg_ℤ (sm.whole m) → WorkedOut sm sh row n i xs xs (Some r)
  work_not {j = j} m at op e = same_cells (λ sig want wanted lit rings run.
      ap Some (e ∙ ap neg_ℤ (op want (rings j (fair at).0)) ∙ sym (wants at sm.mark sig want wanted (n - sh.hz i))))

  pub work_either : {from to j k : ℕ} (m m' : M) {r : M} → At sh (length xs) i (Either j k) from to → Operand sh sm.whole n i xs j m → Operand sh sm.whole n i xs k m' → sm.whole r ≡ int_max (sm.whole m) (sm.whole m') → WorkedOut sm sh row n i xs xs (Some r)
  work_either {j = j} {k} m m' at op op' e = same_cells (λ sig want wanted lit rings run.
      let f = fair at in
      ap Some (e ∙ ap₂ int_max (op want (rings j f.0)) (op' want (rings k f.1)) ∙ sym (wants at sm.mark sig want wanted (n - sh.hz i))))

  pub work_both : {from to j k : ℕ} (m m' : M) {r : M} → At sh (length xs) i (Both j k) from to → Operand sh sm.whole n i xs j m → Operand sh sm.whole n i xs k m' → sm.whole r ≡ int_min (sm.whole m) (sm.whole m') → WorkedOut sm sh row n i xs xs (Some r)
  work_both {j = j} {k} m m' at op op' e = same_cells (λ sig want wanted lit rings run.
      let f = fair at in
      ap Some (e ∙ ap₂ int_min (op want (rings j f.0)) (op' want (rings k f.1)) ∙ sym (wants at sm.mark sig want wanted (n - sh.hz i))))

  -- a run lies highest first, so that its K-th cell has the K-th highest
  pub work_window : {from to j a b k : ℕ} {m : M} → At sh (length xs) i (Window j a b k) from to → sh.hz i ≤ n → m ≡ get_or xs (from + k - 1) m → WorkedOut sm sh row n i xs xs (Some m)
  work_window {from} {j = j} {a} {b} {k} {m} at ripe read = same_cells (λ sig want wanted lit rings run.
      let f = fair at in
      let c : ℕ = (n + 1) - sh.hz j in
      let w : ℕ = width a b in
      let run₀ : RunOf sm.whole want sh.hz (n + 1) (offset sh i) xs (Window j a b k) = subst (RunOf sm.whole want sh.hz (n + 1) (offset sh i) xs) (sym at.is) run in
      let run₁ : Run sm.whole (want j) (offset sh i) w w c xs = run_same sm.whole (want j) (offset sh i) w _ _ _ _ xs (omega (arith, f.1, f.2)) refl run₀ in
      let run₂ : Run sm.whole (want j) from w w c xs = subst (λ v. Run sm.whole (want j) v w w c xs) (sym at.begins) run₁ in
      let start : c - w ≡ (n - sh.hz i) + a = omega (arith, f.1, f.2) in
      let part : List M = between from (from + w) xs in
      let there : k - 1 < w = omega (arith, f.3, f.4) in
      let stands : m ≡ get_or (take w part) (k - 1) m
      = read ∙ ap (λ u. get_or xs u m) (omega (arith, f.3)) ∙ sym (get_or-drop from xs (k - 1) m) ∙ sym (get_or-take (from + w - from) (drop from xs) (k - 1) m (omega arith)) ∙ sym (get_or-take w part (k - 1) m there) in
      run_pick sm.whole (want j) from w c w k xs (Some m) run₂ f.3 f.4
      (λ o.
      let inside : k - 1 < length (take w part) = omega (arith, length-take w part, o.within) in
      let place : Some m ≡ in_place k (take w part) = ap Some stands ∙ sym (slice_get-get_or (take w part) (k - 1) m inside) ∙ in_place_at k (k - 1) (take w part) f.3 refl in
      (picked sm.whole k (take w part) (Some m) place o.falls).is)
      ∙ ap Some (ap (λ u. kth k (map (want j) (polls u w))) start ∙ sym (wants at sm.mark sig want wanted (n - sh.hz i))))

-- ---- the step of one entry
rings_into : {M : Type 0} {sh : Shape} {whole : M → ℤ} {n i : ℕ} {o : Option M} {xs ys : List M} → i < sh.count → TakenIn sh whole n i o xs ys → (want : ℕ → ℕ → ℤ) → ((j : ℕ) → j < i → RingOf sh whole want (n + 1) j xs) → (j : ℕ) → j < i → RingOf sh whole want (n + 1) j ys
rings_into {n = n} below into want rings j h = into.ring want (n + 1) j (omega arith) (rings j h)

module _ {Reading M : Type 0} {sm : ScaleModel Reading M} {sh : Shape} {row : Readings Reading} {n i : ℕ} {o : Option M} {xs ys : List M} (below : i < sh.count) (into : TakenIn sh sm.whole n i o xs ys) where
  pub entered_none : {zs : List M} → WorkedOut sm sh row n i ys zs None → Entered sm sh row n i o xs zs
  entered_none {zs} w = record {
    leaves = leaves_both sh sm.whole i xs ys zs into.leaves (zone_leaves sh sm.whole i ys zs w.outside);
    own = λ sig want wanted lit rings gone s. absurd (none-some _ (w.margin sig want wanted lit (rings_into below into want rings) (into.run want rings gone s.run)));
  }

  pub entered_one : {zs : List M} {m : M} {a : ℕ} → WorkedOut sm sh row n i ys zs (Some m) → sh.hz i ≤ n → a ≡ i * sh.ring + n % sh.ring → 0 < sh.ring → a < length zs → Entered sm sh row n i o xs (set zs a m)
  entered_one {zs} {m} {a} w ripe is some inside =
      let wrote = set_outside zs a m in
      let place : n % sh.ring < sh.ring = mod-lt n {m = sh.ring} some in
      let hi : a < i * sh.ring + sh.ring = omega arith in
      record {
        leaves = leaves_both sh sm.whole i xs ys (set zs a m) into.leaves (leaves_both sh sm.whole i ys zs (set zs a m) (zone_leaves sh sm.whole i ys zs w.outside) (ring_leaves sh sm.whole i a zs (set zs a m) below (omega arith) hi wrote));
        own = λ sig want wanted lit rings gone s.
            let run = into.run want rings gone s.run in
            let value = same_Some (sm.whole m) (want i (n - sh.hz i)) (w.margin sig want wanted lit (rings_into below into want rings) run) in
            record {
              ring = ring_next sm.whole (want i) (sh.hz i) sh.ring (i * sh.ring) n a zs m ripe is inside value (zone_ring sh sm.whole ys zs w.outside want n i below (into.ring want n i below s.ring));
              run = ring_leaves_run sh sm.whole i a zs (set zs a m) below hi wrote want (n + 1) (zone_run sh sm.whole ys zs w.outside want (n + 1) i below run);
            };
      }
