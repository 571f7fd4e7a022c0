-- An earlier number, sought among what has the numbers. Assumes nothing.
use Rattle.std.proofs.Common.{◌≡◌, ℕ, ◌||◌, List, [], ◌∷◌, map, length, ◌==◌, refl, sym, ap, ◌∙◌}
use Rattle.std.proofs.lemmas.List.{length-map}
use Rattle.std.specs.List.{list_any}

pub has_number : {X : Type 0} (number : X → ℕ) (n : ℕ) (xs : List X) → list_any (λ x. number x == n) xs ≡ list_any (λ m. m == n) (map number xs)
has_number number n [] = refl
has_number number n (x ∷ xs) = ap (λ b. (number x == n) || b) (has_number number n xs)

-- lists of the same numbers have a number alike
pub same_numbers : {X Y : Type 0} (number : X → ℕ) (numbered : Y → ℕ) (n : ℕ) (xs : List X) (ys : List Y) → map number xs ≡ map numbered ys → list_any (λ x. number x == n) xs ≡ list_any (λ y. numbered y == n) ys
same_numbers number numbered n xs ys same = has_number number n xs ∙ ap (list_any (λ m. m == n)) same ∙ sym (has_number numbered n ys)

pub same_count : {X Y : Type 0} (number : X → ℕ) (numbered : Y → ℕ) (xs : List X) (ys : List Y) → map number xs ≡ map numbered ys → length xs ≡ length ys
same_count number numbered xs ys same = sym (length-map xs number) ∙ ap length same ∙ length-map ys numbered
