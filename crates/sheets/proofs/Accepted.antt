-- What a result that is no fault was made of. Assumes nothing.
use Rattle.std.proofs.Common.{◌≡◌, ℕ, ◌≤◌, leb, Bool, true, false, cond, Ok, Err, Result, refl, ap}
use Rattle.std.proofs.lemmas.Bool.{leb-true, and_parts}
use Rattle.rules.specs.Assemble.{fair}

module _ {X F : Type 0} where
  pub same_ok : (x y : X) → ◌≡◌ {A = Result X F} (Ok x) (Ok y) → x ≡ y
  same_ok x y e = cc

  -- what passes a test
  pub passes : (b : Bool) (r : Result X F) (f : F) (y : X) → cond b r (Err f) ≡ Ok y → (b ≡ true) × (r ≡ Ok y)
  passes true r f y e = (refl, e)
  passes false r f y e = absurd (cc)

  -- what no test refuses
  pub stays : (b : Bool) (f : F) (r : Result X F) (y : X) → cond b (Err f) r ≡ Ok y → (b ≡ false) × (r ≡ Ok y)
  stays true f r y e = absurd (cc)
  stays false f r y e = (refl, e)

-- what stands in a pair
pub same_pair : {X Y F : Type 0} (x z : X) (y w : Y) → ◌≡◌ {A = Result (X × Y) F} (Ok (x, y)) (Ok (z, w)) → (x ≡ z) × (y ≡ w)
same_pair x z y w e = let p = same_ok (x, y) (z, w) e in (ap (λ q. q.0) p, ap (λ q. q.1) p)

-- at least one, and at most so many
pub fair_good : (n most : ℕ) → fair n most ≡ true → (1 ≤ n) × (n ≤ most)
fair_good n most e = let p = and_parts (leb 1 n) (leb n most) e in (leb-true _ _ p.0, leb-true _ _ p.1)
