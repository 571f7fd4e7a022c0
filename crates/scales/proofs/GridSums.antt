-- Differences of whole numbers of 256ths in binary32 are exact. Assumes nothing.
use Rattle.std.proofs.Common.{◌≡◌, ℕ, ◌+◌, ◌-◌, ◌*◌, ◌^◌, ◌<◌, ◌≤◌, Bool, true, false, cond, not, ◌&&◌, T, ltb, ℤ, ◌+ℤ◌, ◌-ℤ◌, sym, refl, ap, ◌∙◌, subst, inl, inr, true≢false, mul-le-mul_right, eq-zero-or-pos, lt_of_mul-lt-mul_right, mul-lt-mul_of_pos_right, mul-pos, arith, lit<, le-ltb, lt-ltb}
use mathlib.Core.Bool.{beq}
use native.Mathlib.Nat.{mul-sub}
use lib.Ieee.{Float, nan, inf, fin, binary32, up, down, round, sum, sub}
use lib.Ieee.Exact.{HasValue}
use lib.Ieee.Scale.{round_same}
use lib.Ieee.Fits.{down_pos}
use borrow.Author.Tests.{true-ltb, false-ltb}
use borrow.Author.Differences.{ints}
use Rattle.scales.specs.Grid.{signed, grid_whole, on_grid}
use Rattle.scales.proofs.GridValues.{Exact, grid_value, round_grid, signed_not, value_on_grid, wider}

-- two fractions over C that are a/256 and b/256
module _ (A B C a b : ℕ) (P : 0 < C) (p : A * 256 ≡ a * C) (q : B * 256 ≡ b * C) where
  under : a < b → A < B
  under h = lt_of_mul-lt-mul_right 256 (subst (λ (k : ℕ). k < B * 256) (sym p) (subst (λ (k : ℕ). a * C < k) (sym q) (mul-lt-mul_of_pos_right h P)))

  not_under : b ≤ a → B ≤ A
  not_under h = omega (arith, mul-le-mul_right C h)

  pub less_as : ltb A B ≡ ltb a b
  less_as =
      elim (eq-zero-or-pos (b - a)) [
        | inl z ↦ le-ltb A B (not_under (omega arith)) ∙ sym (le-ltb a b (omega arith))
        | inr z ↦ lt-ltb A B (under (omega arith)) ∙ sym (lt-ltb a b (omega arith))
      ]

-- sums and differences
landed : (u : Bool) (X C n most : ℕ) (z : ℤ) → 0 < C → X * 256 ≡ n * C → n < 2 ^ 24 → n ≤ most → signed u n ≡ z
    → T (on_grid most (round binary32 u X C)) × (grid_whole (round binary32 u X C) ≡ z)
landed u X C n most z P p h k e =
    let v : HasValue (round binary32 u X C) u n 256 = subst (λ (y : Float). HasValue y u n 256) (sym (round_same binary32 u X C n 256 P (lit< tt) p)) (round_grid u n h) in
    let w = value_on_grid (round binary32 u X C) u n most v k in
    (w.0, w.1 ∙ e)

abbrev pub Sums : Bool → Bool → ℕ → ℕ → ℕ → ℕ → ℕ → Type 0
Sums s t A B C a b = T (on_grid (a + b) (sum binary32 s A t B C)) × (grid_whole (sum binary32 s A t B C) ≡ signed s a +ℤ signed t b)

module _ (A B C a b : ℕ) (P : 0 < C) (p : A * 256 ≡ a * C) (q : B * 256 ≡ b * C) (h : a + b < 2 ^ 24) where
  -- of unlike signs, with the tests as variables
  apart : (s t lt gt : Bool) → beq s t ≡ false → lt ≡ ltb a b → gt ≡ ltb b a
      → T (on_grid (a + b) (cond lt (round binary32 t (B - A) C) (round binary32 (s && gt) (A - B) C)))
      × (grid_whole (cond lt (round binary32 t (B - A) C) (round binary32 (s && gt) (A - B) C)) ≡ signed s a +ℤ signed t b)
  apart s t true gt d e f =
      let l : a < b = true-ltb a b e in
      landed t (B - A) C (b - a) (a + b) _ P (omega (arith, mul-sub C b a)) (omega arith) (omega arith) (over s t d l)
    where
      over : (s t : Bool) → beq s t ≡ false → a < b → signed t (b - a) ≡ signed s a +ℤ signed t b
      over true true d l = absurd (true≢false d)
      over true false d l = omega (arith, ints)
      over false true d l = omega (arith, ints)
      over false false d l = absurd (true≢false d)
  apart s t false gt d e f =
      let l : b ≤ a = false-ltb a b e in
      landed (s && gt) (A - B) C (a - b) (a + b) _ P (omega (arith, mul-sub C a b)) (omega arith) (omega arith) (over s t gt d l f)
    where
      over : (s t gt : Bool) → beq s t ≡ false → b ≤ a → gt ≡ ltb b a → signed (s && gt) (a - b) ≡ signed s a +ℤ signed t b
      over true true gt d l f = absurd (true≢false d)
      over true false true d l f = omega (arith, ints)
      over true false false d l f = let k = false-ltb b a f in omega (arith, ints)
      over false true gt d l f = omega (arith, ints)
      over false false gt d l f = absurd (true≢false d)

  pub sum_exact : (s t : Bool) → Sums s t A B C a b
  unfolding sum
  sum_exact true true = landed true (A + B) C (a + b) (a + b) _ P (omega arith) h (omega arith) (omega (arith, ints))
  sum_exact false false = landed false (A + B) C (a + b) (a + b) _ P (omega arith) h (omega arith) (omega (arith, ints))
  sum_exact true false = apart true false (ltb A B) (ltb B A) refl (less_as A B C a b P p q) (less_as B A C b a P q p)
  sum_exact false true = apart false true (ltb A B) (ltb B A) refl (less_as A B C a b P p q) (less_as B A C b a P q p)

pub sub_exact : (x y : Float) (s t : Bool) (a b : ℕ) → HasValue x s a 256 → HasValue y t b 256 → a + b < 2 ^ 24 → Exact (a + b) (sub binary32 x y) (signed s a -ℤ signed t b)
unfolding sub
sub_exact nan y s t a b v w h = absurd v
sub_exact (inf u) y s t a b v w h = absurd v
sub_exact (fin u m e) nan s t a b v w h = absurd w
sub_exact (fin u m e) (inf i) s t a b v w h = absurd w
sub_exact (fin u m e) (fin i n d) s t a b v w h =
    let z = sum_exact (m * up e * down d) (n * up d * down e) (down e * down d) a b (mul-pos (down_pos e) (down_pos d)) (omega (arith, ap (λ (k : ℕ). k * down d) v.1)) (omega (arith, ap (λ (k : ℕ). k * down e) w.1)) h u (not i) in
    (z.0, z.1 ∙ ap (λ (c : Bool). signed c a +ℤ signed (not i) b) v.0 ∙ ap (λ (k : ℤ). signed s a +ℤ k) (ap (λ (c : Bool). signed (not c) b) w.0 ∙ signed_not t b))

sub_grid : (x y : Float) → T (on_grid 1048576 x) → T (on_grid 1048576 y) → Exact 2097152 (sub binary32 x y) (grid_whole x -ℤ grid_whole y)
sub_grid x y h k =
    let v = grid_value 1048576 x h in
    let w = grid_value 1048576 y k in
    let z = sub_exact x y v.sign w.sign v.size w.size v.has w.has (omega (arith, v.small, w.small)) in (
      wider (v.size + w.size) 2097152 (sub binary32 x y) (omega (arith, v.small, w.small)) z.0,
      z.1 ∙ ap (λ (i : ℤ). i -ℤ signed w.sign w.size) (sym v.is) ∙ ap (λ (i : ℤ). grid_whole x -ℤ i) (sym w.is),
    )

pub difference_on : (x y : Float) → T (on_grid 1048576 x) → T (on_grid 1048576 y) → T (on_grid 2097152 (sub binary32 x y))
difference_on x y h k = (sub_grid x y h k).0

pub difference_is : (x y : Float) → T (on_grid 1048576 x) → T (on_grid 1048576 y) → grid_whole (sub binary32 x y) ≡ grid_whole x -ℤ grid_whole y
difference_is x y h k = (sub_grid x y h k).1
