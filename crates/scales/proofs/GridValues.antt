-- Floats that are whole numbers of 256ths. `HasValue x s n 256` says that x is n/256 in size, with the sign s. Assumes nothing.
use Rattle.std.proofs.Common.{◌≡◌, ℕ, zero, suc, ◌-◌, ◌*◌, ◌/◌, ◌%◌, ◌^◌, ◌<◌, ◌≤◌, min, Bool, true, false, cond, not, T, eqb, leb, ℤ, pos, negsuc, neg_ℤ, nat_abs, sym, refl, ap, ◌∙◌, subst, mul-pos, div-add-mod', mul-div_cancel, arith, lit<, lit≤, le→leb, eqb→eq, leb→le}
use native.Mathlib.Nat.{mul-mod_left}
use lib.Ieee.{Float, nan, inf, fin, binary32, up, down, round, neg, mul, div, of_int, of_bits, to_signed, unlike}
use lib.Ieee.Exact.{HasValue, round_exact}
use lib.Ieee.Scale.{round_same}
use lib.Ieee.Back.{round_whole}
use lib.Ieee.Fits.{down_pos, and_i, and_l, and_r, eq→eqb}
use Rattle.scales.specs.Grid.{signed, grid_whole, on_grid}

-- a value with a name: n/256 with the sign s
pub value_on_grid : (x : Float) (s : Bool) (n most : ℕ) → HasValue x s n 256 → n ≤ most → T (on_grid most x) × (grid_whole x ≡ signed s n)
unfolding on_grid grid_whole
value_on_grid nan s n most v h = absurd v
value_on_grid (inf t) s n most v h = absurd v
value_on_grid (fin t m e) s n most v h =
    let q : m * up e * 256 / down e ≡ n = ap (λ (k : ℕ). k / down e) v.1 ∙ mul-div_cancel n (down_pos e) in
    let r : m * up e * 256 % down e ≡ 0 = ap (λ (k : ℕ). k % down e) v.1 ∙ mul-mod_left n (down e) in (
      and_i (eqb (m * up e * 256 % down e) 0) (leb (m * up e * 256 / down e) most) (eq→eqb r) (le→leb _ most (subst (λ (k : ℕ). k ≤ most) (sym q) h)),
      ap (signed t) q ∙ ap (λ (b : Bool). signed b n) v.0,
    )

pub record Value (most : ℕ) (x : Float) : Type 0 where
  pub sign : Bool
  pub size : ℕ
  pub has : HasValue x sign size 256
  pub small : size ≤ most
  pub is : grid_whole x ≡ signed sign size

pub grid_value : (most : ℕ) (x : Float) → T (on_grid most x) → Value most x
unfolding on_grid grid_whole
grid_value most nan h = absurd h
grid_value most (inf t) h = absurd h
grid_value most (fin t m e) h =
    let z = eqb→eq (m * up e * 256 % down e) 0 (and_l (eqb (m * up e * 256 % down e) 0) (leb (m * up e * 256 / down e) most) h) in
    record {
      sign = t;
      size = m * up e * 256 / down e;
      has = (refl, sym (div-add-mod' (m * up e * 256) (down e)) ∙ omega (arith, z));
      small = leb→le _ most (and_r (eqb (m * up e * 256 % down e) 0) (leb (m * up e * 256 / down e) most) h);
      is = refl;
    }

-- n/256 rounds to itself
pub round_grid : (s : Bool) (n : ℕ) → n < 2 ^ 24 → HasValue (round binary32 s n 256) s n 256
round_grid s n h =
    round_exact binary32 s n 256 n 141 (lit< tt) h (omega arith) (omega arith)

-- the constant 256, as a quotient and as a product
unlike_plus : (t : Bool) → unlike t false ≡ t
unlike_plus true = refl
unlike_plus false = refl

abbrev pub scale : Float
scale = of_bits binary32 0x4380_0000

pub divided : (x : Float) (s : Bool) (n : ℕ) → n < 2 ^ 24 → HasValue x s n 1 → HasValue (div binary32 x scale) s n 256
unfolding div of_bits
divided nan s n h v = absurd v
divided (inf t) s n h v = absurd v
divided (fin t m e) s n h v =
    let same : round binary32 (unlike t false) (m * up e * 1) (256 * down e) ≡ round binary32 s n 256
    = ap (λ (b : Bool). round binary32 b (m * up e * 1) (256 * down e)) (unlike_plus t ∙ v.0)
    ∙ round_same binary32 s (m * up e * 1) (256 * down e) n 256 (mul-pos {m = 256} (lit< tt) (down_pos e)) (lit< tt) (omega (arith, v.1)) in
    subst (λ (y : Float). HasValue y s n 256) (sym same) (round_grid s n h)

pub multiplied : (x : Float) (s : Bool) (n : ℕ) → n ≤ 2 ^ 24 → HasValue x s n 256 → HasValue (mul binary32 x scale) s n 1
unfolding mul of_bits
multiplied nan s n h v = absurd v
multiplied (inf t) s n h v = absurd v
multiplied (fin t m e) s n h v =
    let same : round binary32 (unlike t false) (m * up e * 256) (down e * 1) ≡ round binary32 s n 1
    = ap (λ (b : Bool). round binary32 b (m * up e * 256) (down e * 1)) (unlike_plus t ∙ v.0)
    ∙ round_same binary32 s (m * up e * 256) (down e * 1) n 1 (omega (arith, down_pos e)) (lit< tt) (omega (arith, v.1)) in
    subst (λ (y : Float). HasValue y s n 1) (sym same) (round_whole binary32 s n h)

-- integers
abbrev pub below_zero : ℤ → Bool
below_zero (pos n) = false
below_zero (negsuc n) = true

pub of_int_lem : (z : ℤ) → nat_abs z ≤ 2 ^ 24 → HasValue (of_int binary32 z) (below_zero z) (nat_abs z) 1
unfolding of_int
of_int_lem (pos n) h = round_whole binary32 false n h
of_int_lem (negsuc n) h = round_whole binary32 true (suc n) h

pub signed_size : (z : ℤ) → signed (below_zero z) (nat_abs z) ≡ z
signed_size (pos n) = refl
signed_size (negsuc n) = refl

pub size_signed : (s : Bool) (n : ℕ) → nat_abs (signed s n) ≡ n
size_signed false n = refl
size_signed true zero = refl
size_signed true (suc n) = refl

pub to_int : (x : Float) (s : Bool) (n : ℕ) → n < 2 ^ 31 → HasValue x s n 1 → to_signed 31 x ≡ signed s n
unfolding to_signed
to_int nan s n h v = absurd v
to_int (inf t) s n h v = absurd v
to_int (fin t m e) s n h v =
    let q : m * up e / down e ≡ n = ap (λ (k : ℕ). k / down e) (omega (arith, v.1)) ∙ mul-div_cancel n (down_pos e) in
    ap (λ (b : Bool). cond b (neg_ℤ (pos (min (m * up e / down e) (2 ^ 31)))) (pos (min (m * up e / down e) (2 ^ 31 - 1)))) v.0
    ∙ ap (λ (k : ℕ). cond s (neg_ℤ (pos (min k (2 ^ 31)))) (pos (min k (2 ^ 31 - 1)))) q
    ∙ go s
  where
    go : (s : Bool) → cond s (neg_ℤ (pos (min n (2 ^ 31)))) (pos (min n (2 ^ 31 - 1))) ≡ signed s n
    go true = ap (λ (k : ℕ). neg_ℤ (pos k)) (omega arith)
    go false = ap pos (omega arith)

-- negation
pub neg_value : (x : Float) (s : Bool) (n c : ℕ) → HasValue x s n c → HasValue (neg x) (not s) n c
unfolding neg
neg_value nan s n c v = v
neg_value (inf t) s n c v = v
neg_value (fin t m e) s n c v = (ap not v.0, v.1)

pub signed_not : (s : Bool) (n : ℕ) → signed (not s) n ≡ neg_ℤ (signed s n)
signed_not false n = refl
signed_not true zero = refl
signed_not true (suc n) = refl

neg_on : (most : ℕ) (x : Float) → on_grid most (neg x) ≡ on_grid most x
unfolding on_grid neg
neg_on most nan = refl
neg_on most (inf t) = refl
neg_on most (fin t m e) = refl

pub neg_grid : (most : ℕ) (x : Float) → T (on_grid most x) → T (on_grid most (neg x))
neg_grid most x h = subst T (sym (neg_on most x)) h

pub neg_whole : (x : Float) → grid_whole (neg x) ≡ neg_ℤ (grid_whole x)
unfolding grid_whole neg
neg_whole nan = refl
neg_whole (inf t) = refl
neg_whole (fin t m e) = signed_not t (m * up e * 256 / down e)

abbrev pub Exact : ℕ → Float → ℤ → Type 0
Exact most x z = T (on_grid most x) × (grid_whole x ≡ z)

pub wider : (p q : ℕ) (x : Float) → p ≤ q → T (on_grid p x) → T (on_grid q x)
wider p q x l h = let v = grid_value p x h in (value_on_grid x v.sign v.size q v.has (omega (arith, v.small))).0

-- 256 times such a float, and z/256, are exact
pub times_256 : (x : Float) → T (on_grid 2097152 x) → to_signed 31 (mul binary32 x scale) ≡ grid_whole x
times_256 x h =
    let v = grid_value 2097152 x h in
    to_int (mul binary32 x scale) v.sign v.size (omega (arith, v.small)) (multiplied x v.sign v.size (omega (arith, v.small)) v.has) ∙ sym v.is

pub over_256 : (most : ℕ) → most ≤ 2097152 → (z : ℤ) → nat_abs z ≤ most → Exact most (div binary32 (of_int binary32 z) scale) z
over_256 most room z h =
    let v = divided (of_int binary32 z) (below_zero z) (nat_abs z) (omega arith) (of_int_lem z (omega arith)) in
    let w = value_on_grid (div binary32 (of_int binary32 z) scale) (below_zero z) (nat_abs z) most v h in
    (w.0, w.1 ∙ signed_size z)

pub limit_on : (z : ℤ) → nat_abs z ≤ 1048576 → T (on_grid 1048576 (div binary32 (of_int binary32 z) scale))
limit_on z h = (over_256 1048576 (lit≤ tt) z h).0

pub limit_is : (z : ℤ) → nat_abs z ≤ 1048576 → grid_whole (div binary32 (of_int binary32 z) scale) ≡ z
limit_is z h = (over_256 1048576 (lit≤ tt) z h).1
