-- Two lists, place by place. Assumes nothing.
use Rattle.std.proofs.Common.{List, [], ◌∷◌, map}
use Rattle.std.specs.List.{AllZip, AllByRecursion}

pub each_like : {X : Type 0} (R S : X → X → Type 0) (xs ys : List X) → ((x y : X) → R x y → S x y) → AllZip R xs ys → AllZip S xs ys
each_like R S [] [] f e = tt
each_like R S [] (y ∷ ys) f e = e
each_like R S (x ∷ xs) [] f e = e
each_like R S (x ∷ xs) (y ∷ ys) f e = (f x y e.0, each_like R S xs ys f e.1)

pub each_back : {X : Type 0} (R : X → X → Type 0) (xs ys : List X) → AllZip R xs ys → AllZip (λ y x. R x y) ys xs
each_back R [] [] e = tt
each_back R [] (y ∷ ys) e = e
each_back R (x ∷ xs) [] e = e
each_back R (x ∷ xs) (y ∷ ys) e = (e.0, each_back R xs ys e.1)

pub each_map : {I X : Type 0} (R : X → X → Type 0) (f g : I → X) (is : List I) → AllByRecursion (λ i. R (f i) (g i)) is → AllZip R (map f is) (map g is)
each_map R f g [] h = tt
each_map R f g (i ∷ is) h = (h.0, each_map R f g is h.1)
