-- From the margins of entries to those of the rule over the rows that were taken. Assumes nothing.
use Rattle.std.proofs.Common.{◌≡◌, ℕ, ◌+◌, ◌-◌, ◌*◌, ◌%◌, ◌<◌, ◌≤◌, min, true, List, [], ◌∷◌, ◌++◌, map, length, get_or, drop, ℤ, pos, Some, sym, refl, ap, ◌∙◌, subst, mod-lt, arith}
use Rattle.std.specs.List.{between, range_with_len}
use Rattle.std.proofs.lemmas.List.{length_push, get_or_push, get_or_append_left, take-append-le}
use Rattle.std.proofs.lemmas.Slice.{between_is}
use Rattle.std.proofs.lemmas.Bool.{le-ltb, le-leb, lt-leb, false≢true}
use Rattle.scales.specs.Model.{ScaleModel}
use Rattle.formulas.specs.Formula.{width, horizon}
use Rattle.formulas.specs.Margin.{polls, margin}
use Rattle.formulas.proofs.Near.{margin_local}
use Rattle.runs.specs.Cells.{wholes, InOrder}
use Rattle.runs.proofs.Kths.{Alike}
use Rattle.rules.specs.Nodes.{NodeModel, HeadTest, ZoneTest, Not, Either, Both, Window}
use Rattle.rules.specs.Rules.{zone, formula, part, listed}
use Rattle.rules.specs.declared.rule.Rule.{Rule}
use Rattle.rules.proofs.Standing.{listed-length, part_is, whole_is}
use Rattle.layout.specs.Cells.{latest}
use Rattle.layout.specs.Shape.{Shape, shape, run_width, offset, need, Fair, Lawful}
use Rattle.layout.specs.Slots.{RunOf, Slots}
use Rattle.layout.specs.Steps.{Readings, Lit, Back, AllEntered}
use Rattle.layout.specs.Rows.{Row, signal, cells_of, margins, Holds, Advanced, Latest}
use Rattle.layout.proofs.Shapes.{formed, need_is, ready, wanted}
use Rattle.layout.proofs.SlotLaws.{slots_start, ring_ends, offset_base, run_ends}

map_polls : (f g : ℕ → ℤ) (s n : ℕ) → ((u : ℕ) → s ≤ u → u < s + n → f u ≡ g u) → map f (polls s n) ≡ map g (polls s n)
unfolding polls
map_polls f g s n h = go s n h
  where
    go : (s n : ℕ) → ((u : ℕ) → s ≤ u → u < s + n → f u ≡ g u) → map f (range_with_len s n) ≡ map g (range_with_len s n)
    go s Prim.Native.Nat.zero h = refl
    go s (Prim.Native.Nat.suc n) h = let one = h s (omega arith) (omega arith) in let more = go (s + 1) n (λ u lo hi. h u (omega arith) (omega arith)) in rw (one, more)

-- ---- the same margins so far
module _ {M : Type 0} (sh : Shape) (whole : M → ℤ) (want want' : ℕ → ℕ → ℤ) (n : ℕ) (lawful : Lawful sh) (same : (i p : ℕ) → i < sh.count → p + sh.hz i < n → want i p ≡ want' i p) where
  same_run : (i : ℕ) (node : NodeModel) (cells : List M) (from : ℕ) → i < sh.count → Fair sh i node → RunOf whole want sh.hz n from cells node → RunOf whole want' sh.hz n from cells node
  same_run i (HeadTest h s l) cells from below f r = tt
  same_run i (ZoneTest k s l) cells from below f r = tt
  same_run i (Not j) cells from below f r = tt
  same_run i (Either j k) cells from below f r = tt
  same_run i (Both j k) cells from below f r = tt
  same_run i (Window j a b k) cells from below f r =
      let c : ℕ = n - sh.hz j in
      let used : ℕ = min (width a b) c in
      let within : j < sh.count = omega (arith, f.0) in
      let lists : latest (want j) c used ≡ latest (want' j) c used = map_polls (want j) (want' j) (c - used) used (λ u lo hi. same j u within (omega arith)) in
      record { order = r.order; alike = subst (Alike (wholes whole used (between from (from + width a b) cells))) lists r.alike }

  pub same_slots : (cells : List M) → Slots sh whole want n cells → Slots sh whole want' n cells
  same_slots cells s i below = record {
    ring = record { held = λ p c before late. (s i below).ring.held p c before late ∙ same i p below before };
    run = same_run i (sh.nodes i) cells (offset sh i) below (lawful.fair i below) (s i below).run;
  }

-- ---- a front of the cells
module _ {M : Type 0} (sh : Shape) (whole : M → ℤ) (xs rest : List M) (enough : need sh ≤ length xs) where
  front_part : (u v : ℕ) → v ≤ length xs → between u v (xs ++ rest) ≡ between u v xs
  front_part u v h = between_is (xs ++ rest) u v ∙ ap (drop u) (take-append-le v xs rest h) ∙ sym (between_is xs u v)

  run_moved : (want : ℕ → ℕ → ℤ) (n from : ℕ) (ys zs : List M) (node : NodeModel) → between from (from + run_width node) ys ≡ between from (from + run_width node) zs → RunOf whole want sh.hz n from ys node → RunOf whole want sh.hz n from zs node
  run_moved want n from ys zs (HeadTest h s l) e r = tt
  run_moved want n from ys zs (ZoneTest k s l) e r = tt
  run_moved want n from ys zs (Not j) e r = tt
  run_moved want n from ys zs (Either j k) e r = tt
  run_moved want n from ys zs (Both j k) e r = tt
  run_moved want n from ys zs (Window j a b k) e r =
      let used : ℕ = min (width a b) (n - sh.hz j) in
      record {
        order = subst (InOrder whole used) e r.order;
        alike = subst (λ l. Alike (wholes whole used l) (latest (want j) (n - sh.hz j) used)) e r.alike;
      }

  front_read : (i p n : ℕ) (c : M) → i < sh.count → p + sh.hz i < n → n ≤ p + sh.hz i + sh.ring → get_or (xs ++ rest) (i * sh.ring + (p + sh.hz i) % sh.ring) c ≡ get_or xs (i * sh.ring + (p + sh.hz i) % sh.ring) c
  front_read i p n c below before late =
      let place : (p + sh.hz i) % sh.ring < sh.ring = mod-lt (p + sh.hz i) {m = sh.ring} (omega arith) in
      get_or_append_left xs rest c (i * sh.ring + (p + sh.hz i) % sh.ring) (omega (arith, ring_ends i sh.count sh.ring below, offset_base sh sh.count))

  run_front : (i : ℕ) → i < sh.count → between (offset sh i) (offset sh i + run_width (sh.nodes i)) (xs ++ rest) ≡ between (offset sh i) (offset sh i + run_width (sh.nodes i)) xs
  run_front i below = front_part (offset sh i) (offset sh i + run_width (sh.nodes i)) (omega (arith, run_ends sh i sh.count below))

  pub to_front : (want : ℕ → ℕ → ℤ) (n : ℕ) → Slots sh whole want n (xs ++ rest) → Slots sh whole want n xs
  to_front want n s i below = record {
    ring = record { held = λ p c before late. ap whole (sym (front_read i p n c below before late)) ∙ (s i below).ring.held p c before late };
    run = run_moved want n (offset sh i) (xs ++ rest) xs (sh.nodes i) (run_front i below) (s i below).run;
  }

  pub from_front : (want : ℕ → ℕ → ℤ) (n : ℕ) → Slots sh whole want n xs → Slots sh whole want n (xs ++ rest)
  from_front want n s i below = record {
    ring = record { held = λ p c before late. ap whole (front_read i p n c below before late) ∙ (s i below).ring.held p c before late };
    run = run_moved want n (offset sh i) xs (xs ++ rest) (sh.nodes i) (sym (run_front i below)) (s i below).run;
  }

-- ---- the rows
module _ {M : Type 0} (mark : ℤ → ℤ) (whole : M → ℤ) (r : Rule) where
  pub holds_none : (cells : List M) → Holds mark whole r 0 cells []
  holds_none cells = record { count = refl; slots = slots_start (shape r) whole (margins mark r []) cells }

  -- a row more leaves the margins of the polls that had all their rows
  old_margins : (y : Row) (rows : List Row) (n : ℕ) → n ≡ length rows → (i p : ℕ) → i < (shape r).count → p + (shape r).hz i < n → margins mark r rows i p ≡ margins mark r (rows ++ (y ∷ [])) i p
  old_margins y rows n size i p below before =
      margin_local mark (zone r) (part r i) (formed (zone r) (part r i) (part_is r i (omega (arith, listed-length r))).ranged) p (signal rows) (signal (rows ++ (y ∷ [])))
      (λ u h lo hi read. ap (λ (z : Row). z h) (sym (get_or_append_left rows (y ∷ []) (λ _. pos 0) u (omega arith))))

module _ {Reading M : Type 0} {sm : ScaleModel Reading M} {r : Rule} {row : Readings Reading} {n : ℕ} {xs : List M} where
  pub advanced : {k : ℕ} {ys : List M} → k ≡ cells_of r → k ≤ length xs → AllEntered sm (shape r) row n xs ys → Advanced sm r row n xs ys true
  advanced {k} {ys} e enough a =
      let rdy = ready r k (length xs) e enough in
      let le : cells_of r ≤ length xs = omega arith in
      let size = need_is r in
      record {
        told = sym (le-leb (cells_of r) (length xs) le);
        refused = λ no. absurd (false≢true (sym no));
        long = a.long;
        behind = subst (λ m. drop m ys ≡ drop m xs) (sym size) a.behind;
        holds = λ _ y lit rest rows h.
            let rows' = rows ++ (y ∷ []) in
            let here : signal rows' n ≡ y = get_or_push rows y (λ _. pos 0) n (sym h.count) in
            record {
              count = ap (λ k. k + 1) h.count ∙ sym (length_push rows y);
              slots = from_front (shape r) sm.whole ys rest (omega (arith, a.long, rdy.enough)) (margins sm.mark r rows') (n + 1)
                  (a.slots (signal rows') (margins sm.mark r rows') (wanted r sm.mark (signal rows')) (subst (Lit sm (shape r) row) (sym here) lit)
                  (to_front (shape r) sm.whole xs rest rdy.enough (margins sm.mark r rows') n
                  (same_slots (shape r) sm.whole (margins sm.mark r rows) (margins sm.mark r rows') n rdy.lawful (old_margins sm.mark sm.whole r y rows n h.count) (xs ++ rest) h.slots)));
            };
      }

-- ---- the latest margin
module _ {M : Type 0} (r : Rule) (n : ℕ) (xs : List M) where
  pub latest_is : (k z t last : ℕ) (m : M) → k ≡ cells_of r → k ≤ length xs → z ≡ horizon (formula r) → z < n → t ≡ n - 1 → last ≡ length (listed r) - 1 → ((whole : M → ℤ) → Back (shape r) whole t last xs m) → Latest r n xs (Some m)
  latest_is k z t last m e enough ez long when is back mark whole rest rows h =
      let rdy = ready r k (length xs) e enough in
      let size = h.count in
      let below : last < length (listed r) = omega (arith, rdy.lawful.some) in
      let slots = to_front (shape r) whole xs rest rdy.enough (margins mark r rows) n h.slots in
      let one : part r last ≡ formula r = ap (part r) (is ∙ ap (λ c. c - 1) (listed-length r)) ∙ (whole_is r).last in
      let far = ap horizon one in
      let p : ℕ = n - 1 - horizon (formula r) in
      let poll : p ≡ length rows - 1 - horizon (formula r) = omega arith in
      rw (le-ltb (length xs) (cells_of r) (omega arith), lt-leb (length rows) (horizon (formula r)) (omega arith))
      (ap Some (back whole (margins mark r rows) n p (slots last below).ring (omega arith) (omega arith) (omega arith)
      ∙ ap (λ φ. margin mark (zone r) φ (signal rows) p) one ∙ ap (margin mark (zone r) (formula r) (signal rows)) poll))
