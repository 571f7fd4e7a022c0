-- How a list of entries spells a formula: each entry after the formulas that it takes. Assumes nothing.
--     entries       of how many entries a formula is spelled
--     spelled       its operations in the order of the entries
--     Spells        a list of entries writes them down
use Rattle.std.specs.Prelude.{ℕ, ◌+◌, List, [], ◌∷◌, ◌++◌}
use Rattle.formulas.specs.Formula.{Formula, head_test, zone_test, complement, either, both, window}
use Rattle.entries.specs.Operations.{OperationModel, HeadTest, ZoneTest, Not, Either, Both, Window}
use Rattle.entries.specs.Writing.{Writes}
use Rattle.entries.specs.declared.entry.Entry.{Entry}

abbrev pub entries : Formula → ℕ
entries (head_test h s l) = 1
entries (zone_test k s l) = 1
entries (complement φ) = entries φ + 1
entries (either φ ψ) = entries φ + entries ψ + 1
entries (both φ ψ) = entries φ + entries ψ + 1
entries (window a b p φ) = entries φ + 1

abbrev pub spelled : Formula → List OperationModel
spelled (head_test h s l) = HeadTest h s l ∷ []
spelled (zone_test k s l) = ZoneTest k s l ∷ []
spelled (complement φ) = spelled φ ++ Not ∷ []
spelled (either φ ψ) = spelled φ ++ (spelled ψ ++ Either ∷ [])
spelled (both φ ψ) = spelled φ ++ (spelled ψ ++ Both ∷ [])
spelled (window a b p φ) = spelled φ ++ Window a b p ∷ []

-- the entries write down the operations, one each
abbrev pub Written : List Entry → List OperationModel → Type 0
Written [] [] = Unit {0}
Written [] (o ∷ os) = ⊥
Written (e ∷ es) [] = ⊥
Written (e ∷ es) (o ∷ os) = Writes e o × Written es os

abbrev pub Spells : List Entry → Formula → Type 0
Spells es φ = Written es (spelled φ)
