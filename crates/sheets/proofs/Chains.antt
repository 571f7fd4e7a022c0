-- A chain of results: it goes on after a good one, and a fault ends it. Assumes nothing.
use Rattle.std.proofs.Common.{◌≡◌, Bool, true, false, cond, Ok, Err, Result, refl, ap, ◌∙◌}
use Rattle.faults.specs.Checks.{on}

pub goes : {X Y F : Type 0} {r : Result X F} {x : X} (k : X → Result Y F) → r ≡ Ok x → on r k ≡ k x
goes k e = ap (λ q. on q k) e

pub stops : {X Y F : Type 0} {r : Result X F} {f : F} (k : X → Result Y F) → r ≡ Err f → on r k ≡ Err f
stops k e = ap (λ q. on q k) e

-- and what it goes on to
pub bind_on : {X Y F : Type 0} (r : Result X F) (k : X → Result Y F) (x : X) (z : Result Y F) → r ≡ Ok x → k x ≡ z → on r k ≡ z
bind_on r k x z e then = goes k e ∙ then

-- what goes on was good so far
pub bind_good : {X Y F : Type 0} (r : Result X F) (k : X → Result Y F) (y : Y) → on r k ≡ Ok y → (x : X) × (r ≡ Ok x) × (k x ≡ Ok y)
bind_good (Ok x) k y e = (x, refl, e)
bind_good (Err f) k y e = absurd (cc)

-- the same for what is shown of the good result
pub good_on : {X Y F P : Type 0} (r : Result X F) (k : X → Result Y F) (y : Y) → on r k ≡ Ok y → ((x : X) → r ≡ Ok x → k x ≡ Ok y → P) → P
good_on (Ok x) k y e then = then x refl e
good_on (Err f) k y e then = absurd (cc)

-- a test that a good result passed
pub test_good : {X F : Type 0} (b : Bool) (x y : X) (f : F) → cond b (Ok x) (Err f) ≡ Ok y → (b ≡ true) × (x ≡ y)
test_good true x y f e = (refl, cc)
test_good false x y f e = absurd (cc)
