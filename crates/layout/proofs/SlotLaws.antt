-- Where rings, runs and the zone's cells lie, and what a write for one entry leaves of the others. Assumes nothing.
use Rattle.std.proofs.Common.{◌≡◌, ℕ, zero, suc, ◌+◌, ◌-◌, ◌*◌, ◌<◌, ◌≤◌, min, ◌⊎◌, List, ℤ, sym, refl, ap, ◌∙◌, subst, inl, inr, ⊎_elim, mul-le-mul_right, add-mul, one-mul, arith}
use Rattle.std.proofs.lemmas.Bool.{cases_order}
use Rattle.formulas.specs.Formula.{width}
use Rattle.rules.specs.Nodes.{NodeModel, HeadTest, ZoneTest, Not, Either, Both, Window}
use Rattle.layout.specs.Cells.{Outside}
use Rattle.layout.specs.Shape.{Shape, run_width, offset, need}
use Rattle.layout.specs.Slots.{RunOf, RingOf, Slot, Slots, Mixed, Leaves}
use Rattle.layout.proofs.Frames.{outside_behind}
use Rattle.layout.proofs.RingLaws.{ring_frame, ring_none}
use Rattle.layout.proofs.Slides.{run_frame, run_none, run_same}

pub next_times : (i ring : ℕ) → (i + 1) * ring ≡ i * ring + ring
next_times i ring = add-mul i 1 ring ∙ ap (λ x. i * ring + x) (one-mul ring)

-- a ring ends before the next begins
pub ring_ends : (i j ring : ℕ) → i < j → i * ring + ring ≤ j * ring
ring_ends i j ring h =
    let more : (i + 1) * ring ≤ j * ring = mul-le-mul_right ring (omega arith) in
    omega (arith, next_times i ring)

module _ (sh : Shape) where
  pub offset_base : (i : ℕ) → sh.count * sh.ring ≤ offset sh i
  offset_base zero = omega arith
  offset_base (suc i) = omega (arith, offset_base i)

  offset_rises : (i k : ℕ) → offset sh i ≤ offset sh (k + i)
  offset_rises i k = rises k
    where
      rises : (k : ℕ) → offset sh i ≤ offset sh (k + i)
      rises zero = let e : 0 + i ≡ i = omega arith in omega (arith, ap (offset sh) e)
      rises (suc k) = let e : suc k + i ≡ suc (k + i) = omega arith in omega (arith, ap (offset sh) e, rises k)

  -- a run ends before the next begins
  pub run_ends : (i j : ℕ) → i < j → offset sh i + run_width (sh.nodes i) ≤ offset sh j
  run_ends i j h = let e : (j - suc i) + suc i ≡ j = omega arith in omega (arith, ap (offset sh) e, offset_rises (suc i) (j - suc i))

  module _ {M : Type 0} (whole : M → ℤ) where
    runof_frame : (want : ℕ → ℕ → ℤ) (n from : ℕ) (node : NodeModel) (a e : ℕ) (xs ys : List M) → Outside a e xs ys → (from + run_width node ≤ a) ⊎ (e ≤ from) → RunOf whole want sh.hz n from xs node → RunOf whole want sh.hz n from ys node
    runof_frame want n from (HeadTest h s l) a e xs ys o w r = tt
    runof_frame want n from (ZoneTest k s l) a e xs ys o w r = tt
    runof_frame want n from (Not j) a e xs ys o w r = tt
    runof_frame want n from (Either j k) a e xs ys o w r = tt
    runof_frame want n from (Both j k) a e xs ys o w r = tt
    runof_frame want n from (Window j b d k) a e xs ys o w r = run_frame whole (want j) from (width b d) a e (min (width b d) (n - sh.hz j)) (n - sh.hz j) xs ys o w r

    slot_frame : (want : ℕ → ℕ → ℤ) (n j : ℕ) (a e : ℕ) (xs ys : List M) → Outside a e xs ys → (j * sh.ring + sh.ring ≤ a) ⊎ (e ≤ j * sh.ring) → (offset sh j + run_width (sh.nodes j) ≤ a) ⊎ (e ≤ offset sh j) → Slot sh whole want n j xs → Slot sh whole want n j ys
    slot_frame want n j a e xs ys o v w s = record {
      ring = ring_frame whole (want j) (sh.hz j) sh.ring (j * sh.ring) a e n xs ys o v s.ring;
      run = runof_frame want n (offset sh j) (sh.nodes j) a e xs ys o w s.run;
    }

    -- ---- a write into the run of entry i
    pub run_leaves : (i : ℕ) (xs ys : List M) → i < sh.count → Outside (offset sh i) (offset sh i + run_width (sh.nodes i)) xs ys → Leaves sh whole i xs ys
    run_leaves i xs ys below o = record {
      long = o.long;
      behind = outside_behind (offset sh i) (offset sh i + run_width (sh.nodes i)) (need sh) xs ys o (omega (arith, run_ends i sh.count below));
      others = λ want n j within ne s. slot_frame want n j (offset sh i) (offset sh i + run_width (sh.nodes i)) xs ys o
          (inl (omega (arith, ring_ends j sh.count sh.ring within, offset_base i)))
          (⊎_elim (λ (e : j ≡ i). absurd (ne e)) (⊎_elim (λ (h : j < i). inl (run_ends j i h)) (λ (h : i < j). inr (run_ends i j h))) (cases_order j i))
          s;
    }

    pub run_leaves_ring : (i : ℕ) (xs ys : List M) → Outside (offset sh i) (offset sh i + run_width (sh.nodes i)) xs ys → (want : ℕ → ℕ → ℤ) (k j : ℕ) → j < sh.count → RingOf sh whole want k j xs → RingOf sh whole want k j ys
    run_leaves_ring i xs ys o want k j within r = ring_frame whole (want j) (sh.hz j) sh.ring (j * sh.ring) (offset sh i) (offset sh i + run_width (sh.nodes i)) k xs ys o
        (inl (omega (arith, ring_ends j sh.count sh.ring within, offset_base i))) r

    -- ---- a write into the ring of entry i
    pub ring_leaves : (i a : ℕ) (xs ys : List M) → i < sh.count → i * sh.ring ≤ a → a < i * sh.ring + sh.ring → Outside a (a + 1) xs ys → Leaves sh whole i xs ys
    ring_leaves i a xs ys below lo hi o =
        let end = ring_ends i sh.count sh.ring below in
        record {
          long = o.long;
          behind = outside_behind a (a + 1) (need sh) xs ys o (omega (arith, offset_base sh.count));
          others = λ want n j within ne s. slot_frame want n j a (a + 1) xs ys o
              (⊎_elim (λ (e : j ≡ i). absurd (ne e)) (⊎_elim (λ (h : j < i). inl (omega (arith, ring_ends j i sh.ring h))) (λ (h : i < j). inr (omega (arith, ring_ends i j sh.ring h)))) (cases_order j i))
              (inr (omega (arith, offset_base j)))
              s;
        }

    pub ring_leaves_run : (i a : ℕ) (xs ys : List M) → i < sh.count → a < i * sh.ring + sh.ring → Outside a (a + 1) xs ys → (want : ℕ → ℕ → ℤ) (n : ℕ) → RunOf whole want sh.hz n (offset sh i) xs (sh.nodes i) → RunOf whole want sh.hz n (offset sh i) ys (sh.nodes i)
    ring_leaves_run i a xs ys below hi o want n r = runof_frame want n (offset sh i) (sh.nodes i) a (a + 1) xs ys o (inr (omega (arith, ring_ends i sh.count sh.ring below, offset_base i))) r

    -- ---- a write into the cells of the zone
    pub zone_ring : (xs ys : List M) → Outside (offset sh sh.count) (need sh) xs ys → (want : ℕ → ℕ → ℤ) (k j : ℕ) → j < sh.count → RingOf sh whole want k j xs → RingOf sh whole want k j ys
    zone_ring xs ys o want k j within r = ring_frame whole (want j) (sh.hz j) sh.ring (j * sh.ring) (offset sh sh.count) (need sh) k xs ys o
        (inl (omega (arith, ring_ends j sh.count sh.ring within, offset_base sh.count))) r

    pub zone_run : (xs ys : List M) → Outside (offset sh sh.count) (need sh) xs ys → (want : ℕ → ℕ → ℤ) (n j : ℕ) → j < sh.count → RunOf whole want sh.hz n (offset sh j) xs (sh.nodes j) → RunOf whole want sh.hz n (offset sh j) ys (sh.nodes j)
    zone_run xs ys o want n j within r = runof_frame want n (offset sh j) (sh.nodes j) (offset sh sh.count) (need sh) xs ys o (inl (run_ends j sh.count within)) r

    pub zone_leaves : (i : ℕ) (xs ys : List M) → Outside (offset sh sh.count) (need sh) xs ys → Leaves sh whole i xs ys
    zone_leaves i xs ys o = record {
      long = o.long;
      behind = o.behind;
      others = λ want n j within ne s. record { ring = zone_ring xs ys o want n j within s.ring; run = zone_run xs ys o want n j within s.run };
    }

    -- ---- one write after another
    pub leaves_both : (i : ℕ) (xs ys zs : List M) → Leaves sh whole i xs ys → Leaves sh whole i ys zs → Leaves sh whole i xs zs
    leaves_both i xs ys zs a b = record {
      long = b.long ∙ a.long;
      behind = b.behind ∙ a.behind;
      others = λ want n j within ne s. b.others want n j within ne (a.others want n j within ne s);
    }

    -- ---- one entry more has taken the row
    pub mixed_next : (want : ℕ → ℕ → ℤ) (n i : ℕ) (xs ys : List M) → i < sh.count → Leaves sh whole i xs ys → (Slot sh whole want n i xs → Slot sh whole want (n + 1) i ys) → Mixed sh whole want n i xs → Mixed sh whole want n (i + 1) ys
    mixed_next want n i xs ys below leaves own m = record {
      done = λ j before within. ⊎_elim
          (λ (e : j ≡ i). subst (λ k. Slot sh whole want (n + 1) k ys) (sym e) (own (m.todo i (omega arith) below)))
          (⊎_elim (λ (h : j < i). leaves.others want (n + 1) j within (λ e. absurd (omega arith)) (m.done j h within)) (λ (h : i < j). absurd (omega arith)))
          (cases_order j i);
      todo = λ j after within. leaves.others want n j within (λ e. absurd (omega arith)) (m.todo j (omega arith) within);
    }

    pub mixed_start : (want : ℕ → ℕ → ℤ) (n : ℕ) (xs : List M) → Slots sh whole want n xs → Mixed sh whole want n 0 xs
    mixed_start want n xs s = record { done = λ j before within. absurd (omega arith); todo = λ j after within. s j within }

    pub mixed_end : (want : ℕ → ℕ → ℤ) (n i : ℕ) (xs : List M) → sh.count ≤ i → Mixed sh whole want n i xs → Slots sh whole want (n + 1) xs
    mixed_end want n i xs all m = λ j within. m.done j (omega arith) within

    -- ---- before the first row the cells may hold anything
    run_start : (want : ℕ → ℕ → ℤ) (from : ℕ) (xs : List M) (node : NodeModel) → RunOf whole want sh.hz 0 from xs node
    run_start want from xs (HeadTest h s l) = tt
    run_start want from xs (ZoneTest k s l) = tt
    run_start want from xs (Not j) = tt
    run_start want from xs (Either j k) = tt
    run_start want from xs (Both j k) = tt
    run_start want from xs (Window j a b k) = run_same whole (want j) from (width a b) 0 (min (width a b) (0 - sh.hz j)) (0 - sh.hz j) (0 - sh.hz j) xs (omega arith) refl (run_none whole (want j) from (width a b) (0 - sh.hz j) xs)

    pub slots_start : (want : ℕ → ℕ → ℤ) (xs : List M) → Slots sh whole want 0 xs
    slots_start want xs i within = record {
      ring = ring_none whole (want i) (sh.hz i) sh.ring (i * sh.ring) 0 xs (omega arith);
      run = run_start want (offset sh i) xs (sh.nodes i);
    }
