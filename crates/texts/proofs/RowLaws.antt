-- How the readings of a grid come together. Assumes nothing.
use Rattle.std.proofs.Common.{◌≡◌, ℕ, suc, ◌+◌, ◌-◌, ◌*◌, ◌<◌, ◌≤◌, false, cond, ◌||◌, eqb, ltb, Some, None, List, [], ◌∷◌, ◌++◌, replicate, flat_map, Ok, Result, append_assoc, sym, ap, ◌∙◌, arith}
use Rattle.std.specs.Option.{option_to_list, option_or}
use Rattle.std.specs.Result.{result_ok}
use Rattle.std.proofs.lemmas.Bool.{cond-true, cond-false, eq-eqb, le-ltb}
use Rattle.std.proofs.lemmas.Bool.Decides.{nat_tests}
use Rattle.std.proofs.lemmas.List.Splits.{length-slice_split}
use Rattle.records.specs.Grid.{grid_fault}
use Rattle.records.specs.Model.{most_heads, most_polls}
use Rattle.records.specs.declared.refusals.RecordFault.TheVariants.{ReadingsDoNotFill}
use Rattle.texts.specs.Fields.{given}
use Rattle.texts.specs.Grids.{number_in, fields_beside}
use Rattle.texts.specs.declared.refusals.Defect.{Defect}

-- one of the tests that are still to come
pub one_less : {X : Type 0} (x : X) (n i : ℕ) → i < n → replicate (n - i) x ≡ x ∷ replicate (n - (i + 1)) x
one_less x n i lt = let e : n - i ≡ suc (n - (i + 1)) = omega arith in ap (λ k. replicate k x) e

-- one of the numbers that are still to come
pub one_number : {T : Type 0} (written : List ℕ → Result T Defect) (items : List T) (x : T) (text : List ℕ) (old rest : List (List ℕ)) → old ≡ text ∷ rest → given written text ≡ Ok x → (items ++ (x ∷ [])) ++ flat_map (number_in written) rest ≡ items ++ flat_map (number_in written) old
one_number written items x text old rest e is =
    append_assoc items (x ∷ []) (flat_map (number_in written) rest)
    ∙ ap (λ r. items ++ (option_to_list (result_ok r) ++ flat_map (number_in written) rest)) (sym is)
    ∙ ap (λ fs. items ++ flat_map (number_in written) fs) (sym e)

-- a first line has a head or more, and a grid no more than it may
pub some_head : (line : List ℕ) (heads : ℕ) → heads ≡ fields_beside line → (0 < heads) × (heads ≤ most_heads)
some_head line heads is =
    let n = length-slice_split (λ b. eqb b 44) line in
    (omega (arith, n), omega arith)

-- readings that fill the numbers are a grid
pub lawful_grid : (heads polls n : ℕ) → 0 < heads → heads ≤ most_heads → polls ≤ most_polls → n ≡ heads * polls → grid_fault heads polls n ≡ None
lawful_grid heads polls n some few_heads few_polls fills =
    let low : (eqb heads 0 || ltb most_heads heads) ≡ false = grind (arith, nat_tests) in
    ap (λ o. option_or o (cond (eqb n (heads * polls)) None (Some (ReadingsDoNotFill n heads polls)))) (cond-false _ _ _ low ∙ cond-false _ _ _ (le-ltb _ _ few_polls))
    ∙ cond-true _ _ _ (eq-eqb _ _ fills)
