-- The bytes that entries build. Assumes nothing.
--     built         the records left after entries, the newest first, each holding those that it takes
--     built_spells  entries that spell a formula build its bytes
use Rattle.std.proofs.Common.{◌≡◌, ℕ, zero, suc, ◌≤◌, cond, eqb, List, [], ◌∷◌, ◌++◌, map, length, sym, refl, ap, ◌∙◌, append-nil, arith}
use Rattle.std.proofs.lemmas.List.{map-append}
use Rattle.std.specs.List.{concat}
use Rattle.formulas.specs.Formula.{Formula, head_test, zone_test, complement, either, both, window}
use Rattle.entries.specs.Operations.{OperationModel, HeadTest, ZoneTest, Not, Either, Both, Window}
use Rattle.entries.specs.Writing.{Writes, entry_of}
use Rattle.entries.specs.declared.entry.Entry.{Entry}
use Rattle.rules.specs.Spelling.{spelled, Written}
use Rattle.sheets.specs.Formulas.{taken}
use Rattle.sheets.specs.Spelling.{word, limit_bytes, record_bytes, formula_bytes}

-- the fields of an entry's record
abbrev pub field_bytes : Entry → List ℕ
field_bytes e =
    cond (eqb e.kind 16) (e.head ∷ e.sense ∷ limit_bytes e.limit)
    (cond (eqb e.kind 17) (e.k ∷ e.sense ∷ limit_bytes e.limit)
    (cond (eqb e.kind 21) (word e.first ++ (word e.last ++ word e.share)) []))

-- a record of the fields and of the newest so many
abbrev closed_over : ℕ → List ℕ → ℕ → List (List ℕ) → List (List ℕ)
closed_over kind fields zero st = record_bytes kind fields ∷ st
closed_over kind fields (suc zero) [] = []
closed_over kind fields (suc zero) (x ∷ st) = record_bytes kind (fields ++ x) ∷ st
closed_over kind fields (suc (suc n)) [] = []
closed_over kind fields (suc (suc n)) (y ∷ []) = []
closed_over kind fields (suc (suc n)) (y ∷ (x ∷ st)) = record_bytes kind (fields ++ (x ++ y)) ∷ st

abbrev adds : Entry → List (List ℕ) → List (List ℕ)
adds e st = closed_over e.kind (field_bytes e) (taken e.kind) st

abbrev pub built : List Entry → List (List ℕ) → List (List ℕ)
built [] st = st
built (e ∷ es) st = built es (adds e st)

pub built_append : (es fs : List Entry) (st : List (List ℕ)) → built (es ++ fs) st ≡ built fs (built es st)
built_append [] fs st = refl
built_append (e ∷ es) fs st = built_append es fs (adds e st)

-- the records xs put on the others, the last on top
abbrev pub put : List (List ℕ) → List (List ℕ) → List (List ℕ)
put [] st = st
put (x ∷ xs) st = put xs (x ∷ st)

pub put_append : (xs ys st : List (List ℕ)) → put (xs ++ ys) st ≡ put ys (put xs st)
put_append [] ys st = refl
put_append (x ∷ xs) ys st = put_append xs ys (x ∷ st)

closes : (n kind : ℕ) (fields : List ℕ) (xs st : List (List ℕ)) → n ≤ 2 → length xs ≡ n → closed_over kind fields n (put xs st) ≡ record_bytes kind (fields ++ concat xs) ∷ st
closes zero kind fields [] st le e = ap (λ x. record_bytes kind x ∷ st) (sym (append-nil fields))
closes zero kind fields (x ∷ xs) st le e = absurd (omega arith)
closes (suc zero) kind fields [] st le e = absurd (omega arith)
closes (suc zero) kind fields (x ∷ []) st le e = ap (λ y. record_bytes kind (fields ++ y) ∷ st) (sym (append-nil x))
closes (suc zero) kind fields (x ∷ (y ∷ xs)) st le e = absurd (omega arith)
closes (suc (suc zero)) kind fields [] st le e = absurd (omega arith)
closes (suc (suc zero)) kind fields (x ∷ []) st le e = absurd (omega arith)
closes (suc (suc zero)) kind fields (x ∷ (y ∷ [])) st le e = ap (λ z. record_bytes kind (fields ++ (x ++ z)) ∷ st) (sym (append-nil y))
closes (suc (suc zero)) kind fields (x ∷ (y ∷ (z ∷ xs))) st le e = absurd (omega arith)
closes (suc (suc (suc n))) kind fields xs st le e = absurd (omega arith)

-- one entry more takes the records before it
pub built_push : (es : List Entry) (e : Entry) (xs st : List (List ℕ)) → built es st ≡ put xs st → taken e.kind ≤ 2 → length xs ≡ taken e.kind → built (es ++ e ∷ []) st ≡ record_bytes e.kind (field_bytes e ++ concat xs) ∷ st
built_push es e xs st b few many =
    built_append es (e ∷ []) st
    ∙ ap (closed_over e.kind (field_bytes e) (taken e.kind)) b
    ∙ closes (taken e.kind) e.kind (field_bytes e) xs st few many

-- the entries that write a formula's operations
abbrev pub formula_entries : Formula → List Entry
formula_entries φ = map entry_of (spelled φ)

writes_same : (e : Entry) (o : OperationModel) (st : List (List ℕ)) → Writes e o → adds e st ≡ adds (entry_of o) st
writes_same e (HeadTest h s l) st w = λ i. adds (record e { kind = w.0 i; head = w.1 i; sense = w.2 i; limit = w.3 i }) st
writes_same e (ZoneTest k s l) st w = λ i. adds (record e { kind = w.0 i; k = w.1 i; sense = w.2 i; limit = w.3 i }) st
writes_same e Not st w = λ i. adds (record e { kind = w i }) st
writes_same e Either st w = λ i. adds (record e { kind = w i }) st
writes_same e Both st w = λ i. adds (record e { kind = w i }) st
writes_same e (Window a b p) st w = λ i. adds (record e { kind = w.0 i; first = w.1 i; last = w.2 i; share = w.3 i }) st

written_same : (es : List Entry) (os : List OperationModel) (st : List (List ℕ)) → Written es os → built es st ≡ built (map entry_of os) st
written_same [] [] st w = refl
written_same [] (o ∷ os) st w = absurd w
written_same (e ∷ es) [] st w = absurd w
written_same (e ∷ es) (o ∷ os) st w = ap (built es) (writes_same e o st w.0) ∙ written_same es os _ w.1

pub two_entries : (φ ψ : Formula) (o : OperationModel) → map entry_of (spelled φ ++ (spelled ψ ++ o ∷ [])) ≡ formula_entries φ ++ (formula_entries ψ ++ entry_of o ∷ [])
two_entries φ ψ o = map-append entry_of (spelled φ) (spelled ψ ++ o ∷ []) ∙ ap (λ es. formula_entries φ ++ es) (map-append entry_of (spelled ψ) (o ∷ []))

formula_built : (φ : Formula) (st : List (List ℕ)) → built (formula_entries φ) st ≡ formula_bytes φ ∷ st
formula_built (head_test h s l) st = refl
formula_built (zone_test k s l) st = refl
formula_built (complement φ) st =
    ap (λ es. built es st) (map-append entry_of (spelled φ) (Not ∷ [])) ∙ built_append (formula_entries φ) _ st ∙ ap (built (entry_of Not ∷ [])) (formula_built φ st)
formula_built (either φ ψ) st =
    ap (λ es. built es st) (two_entries φ ψ Either) ∙ built_append (formula_entries φ) _ st ∙ ap (built (formula_entries ψ ++ entry_of Either ∷ [])) (formula_built φ st)
    ∙ built_append (formula_entries ψ) _ _ ∙ ap (built (entry_of Either ∷ [])) (formula_built ψ (formula_bytes φ ∷ st))
formula_built (both φ ψ) st =
    ap (λ es. built es st) (two_entries φ ψ Both) ∙ built_append (formula_entries φ) _ st ∙ ap (built (formula_entries ψ ++ entry_of Both ∷ [])) (formula_built φ st)
    ∙ built_append (formula_entries ψ) _ _ ∙ ap (built (entry_of Both ∷ [])) (formula_built ψ (formula_bytes φ ∷ st))
formula_built (window a b p φ) st =
    ap (λ es. built es st) (map-append entry_of (spelled φ) (Window a b p ∷ [])) ∙ built_append (formula_entries φ) _ st ∙ ap (built (entry_of (Window a b p) ∷ [])) (formula_built φ st)

pub built_spells : (es : List Entry) (φ : Formula) (st : List (List ℕ)) → Written es (spelled φ) → built es st ≡ formula_bytes φ ∷ st
built_spells es φ st w = written_same es (spelled φ) st w ∙ formula_built φ st
