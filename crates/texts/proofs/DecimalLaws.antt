-- What decimals are worth in steps of 1/256. Assumes nothing.
use Rattle.std.proofs.Common.{◌≡◌, ℕ, zero, suc, ◌+◌, ◌-◌, ◌*◌, ◌/◌, ◌%◌, ◌^◌, ◌<◌, ◌⊎◌, inl, inr, true, false, eqb, List, [], ◌∷◌, ◌++◌, length, get_or, take, drop, Some, None, sym, ap, ◌∙◌, add-one, arith, drop-cons, div-add-mod'}
use Rattle.std.specs.Char.{digit_value}
use Rattle.std.specs.Str.Parse.{digits_value, digits_value_after}
use Rattle.std.proofs.Math.Nat.{pow-suc, mul-div_cancel, mul-mod_left}
use Rattle.std.proofs.lemmas.Nat.{pow-add}
use Rattle.std.proofs.lemmas.List.{length-drop, take-append-drop}
use Rattle.std.proofs.lemmas.Bool.{cond-true, cond-false, eq-eqb, eqb-true, cases_Bool}
use Rattle.texts.specs.Decimals.{even}

-- numbers alone

same_factor : (x y p : ℕ) → 0 < p → x * p ≡ y * p → x ≡ y
same_factor x y p some e = sym (mul-div_cancel x some) ∙ ap (λ k. k / p) e ∙ mul-div_cancel y some

pub ten_power : (k : ℕ) → 0 < 10 ^ k
ten_power zero = omega arith
ten_power (suc k) = let e = pow-suc 10 k in let h = ten_power k in omega (arith, e, h)

step_number : (d s t p v w : ℕ) → s * p ≡ 256 * v → 256 * d + s ≡ t * 10 → w ≡ d * p + v → t * (p * 10) ≡ 256 * w
step_number d s t p v w a b e = let h : (256 * d + s) * p ≡ (t * 10) * p = ap (λ k. k * p) b in omega arith

uneven_number : (a u v q r p : ℕ) → 0 < p → 256 * v ≡ u * p → 256 * (a * (p * 10) + v) ≡ q * (r * (p * 10)) → u % 10 ≡ 0
uneven_number a u v q r p some e h =
    let s : 2560 * a + u ≡ 10 * (q * r) = same_factor (2560 * a + u) (10 * (q * r)) p some (omega arith) in
    omega arith

spread_number : (n d p v : ℕ) → (n * 10 + d) * p + v ≡ n * (p * 10) + ((0 * 10 + d) * p + v)
spread_number n d p v = omega arith

-- what digits write, part by part

written_after : (n : ℕ) (ds : List ℕ) → digits_value_after 10 n ds ≡ n * 10 ^ length ds + digits_value 10 ds
written_after n [] = omega arith
written_after n (c ∷ cs) =
    let d = digit_value c in
    written_after (n * 10 + d) cs
    ∙ spread_number n d (10 ^ length cs) (digits_value 10 cs)
    ∙ ap (λ k. n * k + ((0 * 10 + d) * 10 ^ length cs + digits_value 10 cs)) (sym (pow-suc 10 (length cs)))
    ∙ ap (λ k. n * 10 ^ suc (length cs) + k) (sym (written_after (0 * 10 + d) cs))

pub written_append : (xs ys : List ℕ) → digits_value 10 (xs ++ ys) ≡ digits_value 10 xs * 10 ^ length ys + digits_value 10 ys
written_append xs ys = go 0 xs
  where
    go : (n : ℕ) (xs : List ℕ) → digits_value_after 10 n (xs ++ ys) ≡ digits_value_after 10 n xs * 10 ^ length ys + digits_value 10 ys
    go n [] = written_after n ys
    go n (x ∷ xs) = go (n * 10 + digit_value x) xs

-- the digit before what is left
written_before : (ds : List ℕ) (at : ℕ) → at < length ds → digits_value 10 (drop at ds) ≡ digit_value (get_or ds at 0) * 10 ^ (length ds - (at + 1)) + digits_value 10 (drop (at + 1) ds)
written_before ds at lt =
    let d = digit_value (get_or ds at 0) in
    let rest = drop (at + 1) ds in
    let e : drop at ds ≡ get_or ds at 0 ∷ rest = rw add-one (drop-cons ds at 0 lt) in
    let n : length rest ≡ length ds - (at + 1) = length-drop (at + 1) ds in
    let none : (0 * 10 + d) * 10 ^ length rest ≡ d * 10 ^ length rest = omega arith in
    ap (digits_value 10) e
    ∙ written_after (0 * 10 + d) rest
    ∙ ap (λ k. k + digits_value 10 rest) (none ∙ ap (λ k. d * 10 ^ k) n)

before : (ds : List ℕ) (at d : ℕ) → at < length ds → d ≡ digit_value (get_or ds at 0) → digits_value 10 (drop at ds) ≡ d * 10 ^ (length ds - (at + 1)) + digits_value 10 (drop (at + 1) ds)
before ds at d lt is = written_before ds at lt ∙ ap (λ k. k * 10 ^ (length ds - (at + 1)) + digits_value 10 (drop (at + 1) ds)) (sym is)

power_before : (n at : ℕ) → at < n → 10 ^ (n - at) ≡ 10 ^ (n - (at + 1)) * 10
power_before n at lt = let e : n - at ≡ suc (n - (at + 1)) = omega arith in ap (λ k. 10 ^ k) e ∙ pow-suc 10 (n - (at + 1))

-- the steps of one decimal more
pub one_decimal : (ds : List ℕ) (at d steps more : ℕ) → at < length ds → d ≡ digit_value (get_or ds at 0) → steps * 10 ^ (length ds - (at + 1)) ≡ 256 * digits_value 10 (drop (at + 1) ds) → 256 * d + steps ≡ more * 10 → more * 10 ^ (length ds - at) ≡ 256 * digits_value 10 (drop at ds)
one_decimal ds at d steps more lt is so_far e =
    ap (λ k. more * k) (power_before (length ds) at lt)
    ∙ step_number d steps more (10 ^ (length ds - (at + 1))) (digits_value 10 (drop (at + 1) ds)) (digits_value 10 (drop at ds)) so_far e (before ds at d lt is)

-- all decimals
pub come_out : (n unit steps : ℕ) → 0 < unit → steps * unit ≡ n → Some steps ≡ even n unit
come_out n unit steps some e =
    let r : n % unit ≡ 0 = ap (λ k. k % unit) (sym e) ∙ mul-mod_left steps unit in
    sym (cond-true _ _ _ (eq-eqb _ _ r) ∙ ap (λ k. Some (k / unit)) (sym e) ∙ ap Some (mul-div_cancel steps some))

pub all_decimals : (ds : List ℕ) (steps : ℕ) → steps * 10 ^ (length ds - 0) ≡ 256 * digits_value 10 (drop 0 ds) → Some steps ≡ even (256 * digits_value 10 ds) (10 ^ length ds)
all_decimals ds steps e = let h : length ds - 0 ≡ length ds = omega arith in come_out (256 * digits_value 10 ds) (10 ^ length ds) steps (ten_power (length ds)) (ap (λ k. steps * 10 ^ k) (sym h) ∙ e)

-- decimals that come out uneven
uneven_where : (n unit : ℕ) → ((q : ℕ) → n ≡ q * unit → ⊥) → None ≡ even n unit
uneven_where n unit none = by (cases_Bool (eqb (n % unit) 0))
  where
    by : (eqb (n % unit) 0 ≡ true) ⊎ (eqb (n % unit) 0 ≡ false) → None ≡ even n unit
    by (inl yes') = absurd (none (n / unit) (let d = div-add-mod' n unit in let z = eqb-true (n % unit) 0 yes' in omega (arith, d, z)))
    by (inr no') = sym (cond-false _ _ _ no')

joined_number : (d s p v w : ℕ) → s * p ≡ 256 * v → w ≡ d * p + v → 256 * w ≡ (256 * d + s) * p
joined_number d s p v w a e = omega arith

pub uneven_decimals : (ds : List ℕ) (at d steps : ℕ) → at < length ds → d ≡ digit_value (get_or ds at 0) → steps * 10 ^ (length ds - (at + 1)) ≡ 256 * digits_value 10 (drop (at + 1) ds) → ((256 * d + steps) % 10 ≡ 0 → ⊥) → None ≡ even (256 * digits_value 10 ds) (10 ^ length ds)
uneven_decimals ds at d steps lt is so_far odd = uneven_where (256 * digits_value 10 ds) (10 ^ length ds) (λ q e. odd (uneven_number a u v q r p (ten_power (length ds - (at + 1))) last (sym parts ∙ e ∙ ap (λ k. q * k) powers)))
  where
    p : ℕ
    p = 10 ^ (length ds - (at + 1))

    u : ℕ
    u = 256 * d + steps

    v : ℕ
    v = digits_value 10 (drop at ds)

    a : ℕ
    a = digits_value 10 (take at ds)

    r : ℕ
    r = 10 ^ at

    last : 256 * v ≡ u * p
    last = joined_number d steps p (digits_value 10 (drop (at + 1) ds)) v so_far (before ds at d lt is)

    tail : 10 ^ length (drop at ds) ≡ p * 10
    tail = ap (λ k. 10 ^ k) (length-drop at ds) ∙ power_before (length ds) at lt

    parts : 256 * digits_value 10 ds ≡ 256 * (a * (p * 10) + v)
    parts = ap (λ k. 256 * digits_value 10 k) (sym (take-append-drop at ds)) ∙ ap (λ k. 256 * k) (written_append (take at ds) (drop at ds) ∙ ap (λ k. a * k + v) tail)

    powers : 10 ^ length ds ≡ r * (p * 10)
    powers = let e : length ds ≡ at + (length ds - at) = omega arith in ap (λ k. 10 ^ k) e ∙ pow-add 10 at (length ds - at) ∙ ap (λ k. r * k) (power_before (length ds) at lt)
