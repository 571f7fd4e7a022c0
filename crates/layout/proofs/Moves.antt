-- What a window does with a row: a margin more, or one in exchange for another. Assumes nothing.
use Rattle.std.proofs.Common.{◌≡◌, ℕ, suc, ◌+◌, ◌-◌, ◌*◌, ◌%◌, ◌<◌, ◌≤◌, min, Bool, List, length, ℤ, Some, None, Option, MatchOption, sym, refl, ap, ap₂, ◌∙◌, subst, mod-lt, arith}
use borrow.Rule.Slice.PartMut.{put_mid}
use Rattle.std.specs.List.{between}
use Rattle.std.proofs.lemmas.List.Edits.{length-between}
use Rattle.formulas.specs.Formula.{width}
use Rattle.runs.specs.Cells.{PutIn, Replaced}
use Rattle.rules.specs.Nodes.{NodeModel, HeadTest, ZoneTest, Not, Either, Both, Window}
use Rattle.layout.specs.Cells.{Outside, Run}
use Rattle.layout.specs.Shape.{Shape, run_width, offset, Fair, Lawful, Ready}
use Rattle.layout.specs.Slots.{RunOf, RingOf}
use Rattle.layout.specs.Steps.{Back, Oldest, Leaving, TakenIn}
use Rattle.layout.proofs.Frames.{part_long, part_is, part_outside}
use Rattle.layout.proofs.Slides.{run_same, run_exchange, run_take_in}
use Rattle.layout.proofs.SlotLaws.{ring_ends, offset_base, run_ends, run_leaves, run_leaves_ring}

pub ring_place : (sh : Shape) (i s lent : ℕ) → Ready sh lent → i < sh.count → (0 < sh.ring) × (i * sh.ring + s % sh.ring < i * sh.ring + sh.ring) × (i * sh.ring + s % sh.ring < lent)
ring_place sh i s lent r below =
    let some : 0 < sh.ring = omega (arith, r.lawful.near i below) in
    let place : s % sh.ring < sh.ring = mod-lt s {m = sh.ring} some in
    (some, omega arith, omega (arith, ring_ends i sh.count sh.ring below, offset_base sh sh.count, r.enough))

-- an entry with its node and the ends of its run, in so many cells
pub record At (sh : Shape) (lent i : ℕ) (node : NodeModel) (from to : ℕ) : Type 0 where
  pub ready : Ready sh lent
  pub below : i < sh.count
  pub is : node ≡ sh.nodes i
  pub begins : from ≡ offset sh i
  pub ends : to ≡ from + run_width node

module _ {sh : Shape} {lent i : ℕ} {node : NodeModel} {from to : ℕ} (at : At sh lent i node from to) where
  pub fair : Fair sh i node
  fair = subst (Fair sh i) (sym at.is) (at.ready.lawful.fair i at.below)

  pub near : sh.hz i < sh.ring
  near = at.ready.lawful.near i at.below

  pub fits : (from ≤ to) × (to ≤ lent)
  fits = (omega (arith, at.ends), omega (arith, run_ends sh i sh.count at.below, ap run_width at.is, at.ready.enough, at.begins, at.ends))

-- ---- what leaves the window over entry j
-- a window is no wider than the rings
wide_node : (sh : Shape) (i : ℕ) (node : NodeModel) → Fair sh i node → sh.hz i < sh.ring → run_width node ≤ sh.ring
wide_node sh i (HeadTest h s l) f near = omega arith
wide_node sh i (ZoneTest k s l) f near = omega arith
wide_node sh i (Not j) f near = omega arith
wide_node sh i (Either j k) f near = omega arith
wide_node sh i (Both j k) f near = omega arith
wide_node sh i (Window j a b k) f near = omega (arith, f.1, f.2)

pub wide : (sh : Shape) (i : ℕ) → Lawful sh → i < sh.count → run_width (sh.nodes i) ≤ sh.ring
wide sh i lawful below = wide_node sh i (sh.nodes i) (lawful.fair i below) (lawful.near i below)

module _ (sh : Shape) {M : Type 0} (whole : M → ℤ) (n j w t : ℕ) (xs : List M) (old : M) (lawful : Lawful sh) (below : j + 1 < sh.count) (full : sh.hz j + w ≤ n) (when : t ≡ n - w) (back : Back sh whole t j xs old) where
  leaving_node : (want : ℕ → ℕ → ℤ) → RingOf sh whole want n j xs → (node : NodeModel) → Fair sh (j + 1) node → w ≡ run_width node → Oldest whole want sh.hz n node (Some old)
  leaving_node want ring (HeadTest h s l) f e = tt
  leaving_node want ring (ZoneTest k s l) f e = tt
  leaving_node want ring (Not i) f e = tt
  leaving_node want ring (Either i k) f e = tt
  leaving_node want ring (Both i k) f e = tt
  leaving_node want ring (Window i a b k) f e =
      let same : i ≡ j = omega (arith, f.0) in
      let far = ap sh.hz same in
      let near = lawful.near (j + 1) below in
      let read : whole old ≡ want j (n - sh.hz j - w) = back want n (n - sh.hz j - w) ring (omega arith) (omega arith) (omega (arith, f.1, f.2)) in
      (omega arith, read ∙ ap₂ want (sym same) (omega arith))

  pub leaving_one : (node : NodeModel) → node ≡ sh.nodes (j + 1) → w ≡ run_width node → Leaving sh whole n (j + 1) xs (Some old)
  leaving_one node is e want rings =
      let next : suc j ≡ j + 1 = omega arith in
      subst (λ k. Oldest whole want sh.hz n k (Some old)) is (leaving_node want (rings j next) node (subst (Fair sh (j + 1)) (sym is) (lawful.fair (j + 1) below)) e)

module _ {sh : Shape} {M : Type 0} (whole : M → ℤ) (n : ℕ) (xs : List M) {i j a b k from to : ℕ} (at : At sh (length xs) i (Window j a b k) from to) where
  -- ---- the window's own part of the cells
  own_part : (ys : List M) → Outside from to xs ys → Outside (offset sh i) (offset sh i + run_width (sh.nodes i)) xs ys
  own_part ys o =
      let end : to ≡ offset sh i + run_width (sh.nodes i) = omega (arith, at.begins, at.ends, ap run_width at.is) in
      subst (λ f. Outside f (offset sh i + run_width (sh.nodes i)) xs ys) at.begins (subst (λ t. Outside from t xs ys) end o)

  -- the run, at the places that the code has for its ends
  own_run : (want : ℕ → ℕ → ℤ) (u c : ℕ) (ys : List M) → u ≡ min (width a b) (n - sh.hz j) → c ≡ n - sh.hz j → RunOf whole want sh.hz n (offset sh i) ys (sh.nodes i) → Run whole (want j) from (width a b) u c ys
  own_run want u c ys eu ec run =
      let run₀ : RunOf whole want sh.hz n (offset sh i) ys (Window j a b k) = subst (RunOf whole want sh.hz n (offset sh i) ys) (sym at.is) run in
      subst (λ f. Run whole (want j) f (width a b) u c ys) (sym at.begins) (run_same whole (want j) (offset sh i) (width a b) _ _ _ _ ys (sym eu) (sym ec) run₀)

  next_run : (want : ℕ → ℕ → ℤ) (u c : ℕ) (ys : List M) → u ≡ min (width a b) ((n + 1) - sh.hz j) → c ≡ (n + 1) - sh.hz j → Run whole (want j) from (width a b) u c ys → RunOf whole want sh.hz (n + 1) (offset sh i) ys (sh.nodes i)
  next_run want u c ys eu ec run =
      let run₀ : Run whole (want j) (offset sh i) (width a b) u c ys = subst (λ f. Run whole (want j) f (width a b) u c ys) at.begins run in
      subst (RunOf whole want sh.hz (n + 1) (offset sh i) ys) at.is (run_same whole (want j) (offset sh i) (width a b) _ _ _ _ ys eu ec run₀)

  -- ---- the newest comes in, as one more or in place of one that leaves
  module _ (zs : List M) (new : M) (done : Bool) (far s : ℕ) (is : far ≡ sh.hz j) (ripe : far ≤ n) (now : s ≡ n) (back : Back sh whole s j xs new) where
    abbrev u : ℕ
    u = min (n - far) (length (between from to xs))

    unfoldable ys : List M
    ys = put_mid from (to - from) xs zs

    comes : (want : ℕ → ℕ → ℤ) → ((j : ℕ) → j < i → RingOf sh whole want (n + 1) j xs) → whole new ≡ want j (n - sh.hz j)
    comes want rings =
        let f = fair at in
        let nr = near at in
        back want (n + 1) (n - sh.hz j) (rings j (omega (arith, f.0))) (omega arith) (omega arith) (omega (arith, f.1, f.2))

    size : length (between from to xs) ≡ width a b
    size = let ft = fits at in length-between xs from to ft.1 ∙ omega (arith, at.ends)

    part : between from (from + width a b) xs ≡ between from to xs
    part = ap (λ v. between from v xs) (sym at.ends)

    into : length zs ≡ length (between from to xs) → between from (from + width a b) ys ≡ zs
    unfolding ys
    into long = let ft = fits at in ap (λ v. between from v ys) (sym at.ends) ∙ part_is from to xs zs ft.0 ft.1 (part_long from to xs zs ft.1 long)

    outside : length zs ≡ length (between from to xs) → Outside from to xs ys
    unfolding ys
    outside long = let ft = fits at in part_outside from to xs zs ft.0 ft.1 (part_long from to xs zs ft.1 long)

    pub taken_in : (o : Option M) → MatchOption o (PutIn whole u (between from to xs) zs new done) (λ old. Replaced whole u (between from to xs) zs old new done) → TakenIn sh whole n i o xs (put_mid from (to - from) xs zs)
    unfolding ys
    taken_in None puts =
        let o = outside puts.long in
        record {
          leaves = run_leaves sh whole i xs ys at.below (own_part ys o);
          ring = run_leaves_ring sh whole i xs ys (own_part ys o);
          run = λ want rings leaves run.
              let early : n < sh.hz j + width a b = subst (λ node. Oldest whole want sh.hz n node None) (sym at.is) leaves in
              let puts' : PutIn whole u (between from (from + width a b) xs) (between from (from + width a b) ys) new done = rw (part, into puts.long) puts in
              next_run want (u + 1) ((n - sh.hz j) + 1) ys (omega (arith, size)) (omega arith)
              (run_take_in whole (want j) from (width a b) (n - sh.hz j) u xs ys new done (omega (arith, size)) (omega arith) (omega (arith, size, ap length part)) (comes want rings) puts' (own_run want u (n - sh.hz j) xs (omega (arith, size)) refl run));
        }
    taken_in (Some old) turns =
        let o = outside turns.long in
        record {
          leaves = run_leaves sh whole i xs ys at.below (own_part ys o);
          ring = run_leaves_ring sh whole i xs ys (own_part ys o);
          run = λ want rings leaves run.
              let g : (sh.hz j + width a b ≤ n) × (whole old ≡ want j (n - sh.hz j - width a b)) = subst (λ node. Oldest whole want sh.hz n node (Some old)) (sym at.is) leaves in
              let full = g.0 in
              let all : u ≡ width a b = omega (arith, size) in
              let turns' : Replaced whole (width a b) (between from (from + width a b) xs) (between from (from + width a b) ys) old new done = subst (λ v. Replaced whole v (between from (from + width a b) xs) (between from (from + width a b) ys) old new done) all (rw (part, into turns.long) turns) in
              next_run want (width a b) ((n - sh.hz j) + 1) ys (omega arith) (omega arith)
              (run_exchange whole (want j) from (width a b) (n - sh.hz j) xs ys old new done (omega arith) (omega arith) g.1 (comes want rings) turns' (own_run want (width a b) (n - sh.hz j) xs (omega arith) refl run));
        }
