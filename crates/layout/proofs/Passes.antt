-- The pass over the entries: the step of each, with what leaves the window after it read before. Assumes nothing.
use Rattle.std.proofs.Common.{◌≡◌, ℕ, suc, ◌+◌, ◌*◌, ◌<◌, ◌≤◌, List, length, drop, ℤ, Option, refl, ap, ◌∙◌, arith}
use Rattle.scales.specs.Model.{ScaleModel}
use Rattle.formulas.specs.Margin.{Signal}
use Rattle.rules.specs.Nodes.{NodeModel, HeadTest, ZoneTest, Not, Either, Both, Window}
use Rattle.layout.specs.Shape.{Shape, run_width, offset, need, Fair, Lawful, Ready}
use Rattle.layout.specs.Slots.{Wanted, Slots, Mixed}
use Rattle.layout.specs.Steps.{Oldest, Leaving, Readings, Lit, Entered, AllEntered}
use Rattle.layout.proofs.SlotLaws.{run_ends, mixed_start, mixed_next, mixed_end}

pub next_fits : (sh : Shape) (lent i : ℕ) → Ready sh lent → i < sh.count → offset sh i + run_width (sh.nodes i) ≤ lent
next_fits sh lent i r below = omega (arith, run_ends sh i sh.count below, r.enough)

offset_next : (sh : Shape) (i : ℕ) → offset sh (i + 1) ≡ offset sh i + run_width (sh.nodes i)
offset_next sh i = let e : i + 1 ≡ suc i = omega arith in ap (offset sh) e

-- the first entry is no window
first_node : {M : Type 0} (sh : Shape) (whole : M → ℤ) (want : ℕ → ℕ → ℤ) (n : ℕ) (node : NodeModel) (o : Option M) → Fair sh 0 node → Oldest whole want sh.hz n node o
first_node sh whole want n (HeadTest h s l) o f = tt
first_node sh whole want n (ZoneTest k s l) o f = tt
first_node sh whole want n (Not j) o f = tt
first_node sh whole want n (Either j k) o f = tt
first_node sh whole want n (Both j k) o f = tt
first_node sh whole want n (Window j a b k) o f = absurd (omega (arith, f.0))

-- ---- the step as far as entry i, with what leaves the window there
pub record EnteredTo {Reading M : Type 0} (sm : ScaleModel Reading M) (sh : Shape) (row : Readings Reading) (n i from : ℕ) (o : Option M) (cells cells' : List M) : Type 0 where
  pub place : from ≡ offset sh i
  pub long : length cells' ≡ length cells
  pub behind : drop (need sh) cells' ≡ drop (need sh) cells
  pub mixed : (x : Signal) (want : ℕ → ℕ → ℤ) → Wanted sm.mark sh x want → Lit sm sh row (x n) → Slots sh sm.whole want n cells → Mixed sh sm.whole want n i cells'
  pub leaves : (x : Signal) (want : ℕ → ℕ → ℤ) → Wanted sm.mark sh x want → Lit sm sh row (x n) → Slots sh sm.whole want n cells → i < sh.count → Oldest sm.whole want sh.hz n (sh.nodes i) o

module _ {Reading M : Type 0} {sm : ScaleModel Reading M} {sh : Shape} {row : Readings Reading} {n : ℕ} {xs : List M} where
  pub entered_start : {from : ℕ} {o : Option M} → Lawful sh → from ≡ sh.count * sh.ring → EnteredTo sm sh row n 0 from o xs xs
  entered_start {o = o} lawful e = record {
    place = e;
    long = refl;
    behind = refl;
    mixed = λ x want wanted lit s. mixed_start sh sm.whole want n xs s;
    leaves = λ x want wanted lit s below. first_node sh sm.whole want n (sh.nodes 0) o (lawful.fair 0 below);
  }

  pub entered_next : {i from w : ℕ} {o o' : Option M} {ys zs : List M} → i < sh.count → w ≡ run_width (sh.nodes i)
      → ((whole : M → ℤ) → i + 1 < sh.count → Leaving sh whole n (i + 1) ys o') → Entered sm sh row n i o ys zs → EnteredTo sm sh row n i from o xs ys → EnteredTo sm sh row n (i + 1) (from + w) o' xs zs
  entered_next {i} {ys = ys} {zs} below ew leaving l inv = record {
    place = omega (arith, offset_next sh i, inv.place);
    long = l.leaves.long ∙ inv.long;
    behind = l.leaves.behind ∙ inv.behind;
    mixed = λ x want wanted lit s.
        let m = inv.mixed x want wanted lit s in
        mixed_next sh sm.whole want n i ys zs below l.leaves (l.own x want wanted lit (λ j h. (m.done j h (omega arith)).ring) (inv.leaves x want wanted lit s below)) m;
    leaves = λ x want wanted lit s more. leaving sm.whole more want (λ j e. ((inv.mixed x want wanted lit s).todo j (omega arith) (omega arith)).ring);
  }

  pub entered_all : {i from : ℕ} {o : Option M} {ys : List M} → sh.count ≤ i → EnteredTo sm sh row n i from o xs ys → AllEntered sm sh row n xs ys
  entered_all {i} {ys = ys} all inv = record {
    long = inv.long;
    behind = inv.behind;
    slots = λ x want wanted lit s. mixed_end sh sm.whole want n i ys all (inv.mixed x want wanted lit s);
  }
