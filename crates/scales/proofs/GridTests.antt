-- Comparisons of whole numbers of 256ths in binary32. Assumes nothing.
use Rattle.std.proofs.Common.{◌≡◌, ℕ, zero, suc, ◌+◌, ◌*◌, ◌<◌, Bool, true, false, ◌||◌, T, eqb, ltb, ℤ, sym, refl, ap, ◌∙◌, subst, mul-pos, arith, eqb→eq, le-ltb, lt-ltb, eq-eqb}
use mathlib.Core.Bool.{beq, false≢true}
use native.Mathlib.Nat.{eq_of_mul-eq-mul_right}
use lib.Signed.{lt_z}
use lib.Ieee.{Float, nan, inf, fin, up, down, lt, eq, below, level}
use lib.Ieee.Exact.{HasValue}
use lib.Ieee.Fits.{down_pos, and_l, and_r}
use borrow.Author.Differences.{ints}
use Rattle.scales.specs.Grid.{signed, grid_whole, on_grid}
use Rattle.scales.proofs.GridValues.{grid_value}
use Rattle.scales.proofs.GridSums.{less_as}

-- comparisons
below_signed : (s t : Bool) (a b : ℕ) → below s a t b ≡ lt_z (signed s a) (signed t b)
below_signed false false a b = refl
below_signed false true a zero = sym (le-ltb a 0 (omega arith))
below_signed false true a (suc b) = refl
below_signed true false zero b = ap (ltb 0) (omega arith)
below_signed true false (suc a) b = lt-ltb 0 (suc a + b) (omega arith)
below_signed true true zero zero = refl
below_signed true true zero (suc b) = le-ltb (suc b) 0 (omega arith)
below_signed true true (suc a) zero = lt-ltb 0 (suc a) (omega arith)
below_signed true true (suc a) (suc b) = lib.Dec.leb-suc-suc (suc b) a

module _ (A B C a b : ℕ) (P : 0 < C) (p : A * 256 ≡ a * C) (q : B * 256 ≡ b * C) where
  below_as : (s t : Bool) → below s A t B ≡ below s a t b
  below_as false false = less_as A B C a b P p q
  below_as false true = refl
  below_as true false = less_as 0 (A + B) C 0 (a + b) P (omega arith) (omega arith)
  below_as true true = less_as B A C b a P q p

pub lt_exact : (x y : Float) (s t : Bool) (a b : ℕ) → HasValue x s a 256 → HasValue y t b 256 → lt x y ≡ lt_z (signed s a) (signed t b)
unfolding lt
lt_exact nan y s t a b v w = absurd v
lt_exact (inf u) y s t a b v w = absurd v
lt_exact (fin u m e) nan s t a b v w = absurd w
lt_exact (fin u m e) (inf i) s t a b v w = absurd w
lt_exact (fin u m e) (fin i n d) s t a b v w =
    below_as (m * up e * down d) (n * up d * down e) (down e * down d) a b (mul-pos (down_pos e) (down_pos d)) (omega (arith, ap (λ (k : ℕ). k * down d) v.1)) (omega (arith, ap (λ (k : ℕ). k * down e) w.1)) u i
    ∙ below_signed u i a b ∙ ap (λ (c : Bool). lt_z (signed c a) (signed i b)) v.0 ∙ ap (λ (c : Bool). lt_z (signed s a) (signed c b)) w.0

-- two signs that a test of equality takes for one
module _ (A C n : ℕ) (P : 0 < C) (p : A * 256 ≡ n * C) where
  none_left : A ≡ 0 → n ≡ 0
  none_left z = eq_of_mul-eq-mul_right C P n 0 (omega arith)

  same_sign : (u i : Bool) → T (beq u i || eqb A 0) → signed i n ≡ signed u n
  same_sign true true l = refl
  same_sign false false l = refl
  same_sign true false l = let z = none_left (eqb→eq A 0 l) in omega (arith, ints)
  same_sign false true l = let z = none_left (eqb→eq A 0 l) in omega (arith, ints)

  one_sign : (u i : Bool) → signed u n ≡ signed i n → (beq u i || eqb A 0) ≡ true
  one_sign true true e = refl
  one_sign false false e = refl
  one_sign true false e = let z : n ≡ 0 = omega (arith, ints) in eq-eqb A 0 (omega (arith, ap (λ (k : ℕ). k * C) z))
  one_sign false true e = let z : n ≡ 0 = omega (arith, ints) in eq-eqb A 0 (omega (arith, ap (λ (k : ℕ). k * C) z))

-- what equals a value on the grid has that value, with either sign at 0
pub eq_out : (x y : Float) (s : Bool) (n : ℕ) → HasValue x s n 256 → eq x y ≡ true → (t : Bool) × HasValue y t n 256 × (signed t n ≡ signed s n)
unfolding eq
eq_out nan y s n v h = absurd v
eq_out (inf u) y s n v h = absurd v
eq_out (fin u m e) nan s n v h = absurd (false≢true h)
eq_out (fin u m e) (inf i) s n v h = absurd (false≢true h)
eq_out (fin u m e) (fin i k d) s n v h =
    let l : T (level u (m * up e * down d) i (k * up d * down e)) = subst T (sym h) tt in
    let same : m * up e * down d ≡ k * up d * down e = eqb→eq _ _ (and_l (eqb (m * up e * down d) (k * up d * down e)) (beq u i || eqb (m * up e * down d) 0) l) in
    let sign : T (beq u i || eqb (m * up e * down d) 0) = and_r (eqb (m * up e * down d) (k * up d * down e)) (beq u i || eqb (m * up e * down d) 0) l in
    let value : k * up d * 256 ≡ n * down d = eq_of_mul-eq-mul_right (down e) (down_pos e) (k * up d * 256) (n * down d) (omega (arith, ap (λ (j : ℕ). j * 256) same, ap (λ (j : ℕ). j * down d) v.1)) in
    let over : m * up e * down d * 256 ≡ n * (down e * down d) = omega (arith, ap (λ (j : ℕ). j * down d) v.1) in
    (i, (refl, value), same_sign (m * up e * down d) (down e * down d) n (mul-pos (down_pos e) (down_pos d)) over u i sign ∙ ap (λ (c : Bool). signed c n) v.0)

pub eq_in : (x y : Float) (s t : Bool) (n : ℕ) → HasValue x s n 256 → HasValue y t n 256 → signed s n ≡ signed t n → eq x y ≡ true
unfolding eq
eq_in nan y s t n v w h = absurd v
eq_in (inf u) y s t n v w h = absurd v
eq_in (fin u m e) nan s t n v w h = absurd w
eq_in (fin u m e) (inf i) s t n v w h = absurd w
eq_in (fin u m e) (fin i k d) s t n v w h =
    let over : m * up e * down d * 256 ≡ n * (down e * down d) = omega (arith, ap (λ (j : ℕ). j * down d) v.1) in
    let same : m * up e * down d ≡ k * up d * down e = omega (arith, ap (λ (j : ℕ). j * down e) w.1) in
    let signs = one_sign (m * up e * down d) (down e * down d) n (mul-pos (down_pos e) (down_pos d)) over u i (ap (λ (c : Bool). signed c n) v.0 ∙ h ∙ ap (λ (c : Bool). signed c n) (sym w.0)) in
    rw (eq-eqb (m * up e * down d) (k * up d * down e) same) signs

-- by the whole numbers
pub lt_grid : (p q : ℕ) (x y : Float) → T (on_grid p x) → T (on_grid q y) → lt x y ≡ lt_z (grid_whole x) (grid_whole y)
lt_grid p q x y h k =
    let v = grid_value p x h in
    let w = grid_value q y k in
    lt_exact x y v.sign w.sign v.size w.size v.has w.has ∙ ap (λ (z : ℤ). lt_z z (signed w.sign w.size)) (sym v.is) ∙ ap (lt_z (grid_whole x)) (sym w.is)
