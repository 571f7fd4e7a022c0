-- Steps of a search by powers of two. Assumes nothing.
use Rattle.std.proofs.Common.{◌≡◌, ℕ, ◌+◌, ◌-◌, ◌*◌, ◌^◌, ◌<◌, ◌≤◌, min, Bool, true, false, cond, refl, ap, ◌∙◌, arith}
use Rattle.std.proofs.lemmas.Nat.{pow-add, pow_pos}

pub pow_half : (n k : ℕ) → n ≡ k + 1 → 2 ^ n ≡ 2 * 2 ^ k
pow_half n k e = ap (λ i. 2 ^ i) e ∙ pow-add 2 k 1 ∙ (let p = 2 ^ k in omega arith)

-- a step of p where hit, in what was 2p wide
pub stays_in : (hit : Bool) (base p q r n : ℕ) → q ≡ 2 * p → base + q ≤ n + 1 → r ≡ cond hit p 0 → base + r + p ≤ n + 1
stays_in true base p q r n e h f = omega arith
stays_in false base p q r n e h f = omega arith

pub narrows : (hit : Bool) (count base p q r : ℕ) → q ≡ 2 * p → 0 < p → r ≡ cond hit p 0 → (hit ≡ true → base + p - 1 < count) → (hit ≡ false → count ≤ base + p - 1) → (base ≤ count) × (count < base + q) → (base + r ≤ count) × (count < base + r + p)
narrows true count base p q r e s f y n h = let a = y refl in (omega arith, omega (arith, h.1))
narrows false count base p q r e s f y n h = let a = n refl in (omega (arith, h.0), omega arith)

-- a step down
pub pow_step : (n : ℕ) → 0 < n → (2 ^ n ≡ 2 * 2 ^ (n - 1)) × (0 < 2 ^ (n - 1))
pow_step n h = (pow_half n (n - 1) (omega arith), pow_pos (n - 1))

-- the lower of a top and a level, a level further down
pub taken : (top level lower : ℕ) → level ≡ lower + 1 → lower < top → (2 ^ min top level ≡ 2 * 2 ^ lower) × (min top lower ≡ lower)
taken top level lower e h = let low : min top level ≡ level = omega arith in (ap (λ i. 2 ^ i) low ∙ pow_half level lower e, omega arith)

pub skipped : (top level lower : ℕ) → level ≡ lower + 1 → top ≤ lower → min top level ≡ min top lower
skipped top level lower e h = omega arith
