-- What the entries of a list add up to is what the formula that they spell has. Assumes nothing.
use Rattle.std.proofs.Common.{◌≡◌, ℕ, ◌+◌, Bool, true, false, ◌||◌, eqb, List, [], ◌∷◌, ◌++◌, sym, refl, ap, ◌∙◌, ap₂, arith}
use mathlib.Core.Bool.{or-false}
use Rattle.std.specs.List.{list_any, sum_by}
use Rattle.std.proofs.lemmas.List.Folds.{list_any-append}
use Rattle.std.proofs.lemmas.List.Sums.{sum_by-append, sum_by-cons}
use Rattle.formulas.specs.Formula.{Formula, head_test, zone_test, complement, either, both, window, among, width, reads}
use Rattle.entries.specs.Operations.{OperationModel, HeadTest, ZoneTest, Not, Either, Both, Window}
use Rattle.entries.specs.Writing.{Writes}
use Rattle.entries.specs.declared.entry.Entry.{Entry}
use Rattle.rules.specs.Needs.{widths, zone_tested}
use Rattle.rules.specs.Spelling.{spelled, Written, Spells}
use Rattle.rules.specs.Totals.{entry_reads, tests_zone, entry_width}

-- ---- over the entries and over the operations that they write
any_written : (p : Entry → Bool) (q : OperationModel → Bool) → ((e : Entry) (o : OperationModel) → Writes e o → p e ≡ q o) → (es : List Entry) (os : List OperationModel) → Written es os → list_any p es ≡ list_any q os
any_written p q f [] [] w = refl
any_written p q f [] (o ∷ os) w = absurd w
any_written p q f (e ∷ es) [] w = absurd w
any_written p q f (e ∷ es) (o ∷ os) w = ap₂ ◌||◌ (f e o w.0) (any_written p q f es os w.1)

sum_written : (p : Entry → ℕ) (q : OperationModel → ℕ) → ((e : Entry) (o : OperationModel) → Writes e o → p e ≡ q o) → (es : List Entry) (os : List OperationModel) → Written es os → sum_by p es ≡ sum_by q os
sum_written p q f [] [] w = refl
sum_written p q f [] (o ∷ os) w = absurd w
sum_written p q f (e ∷ es) [] w = absurd w
sum_written p q f (e ∷ es) (o ∷ os) w = sum_by-cons p e es ∙ ap₂ ◌+◌ (f e o w.0) (sum_written p q f es os w.1) ∙ sym (sum_by-cons q o os)

-- ---- the heads read
module _ (z : List ℕ) (j : ℕ) where
  abbrev op_reads : OperationModel → Bool
  op_reads (HeadTest h s l) = eqb h j
  op_reads (ZoneTest k s l) = among j z
  op_reads Not = false
  op_reads Either = false
  op_reads Both = false
  op_reads (Window a b p) = false

  spelled_reads : (φ : Formula) → list_any op_reads (spelled φ) ≡ reads z φ j
  spelled_reads (head_test h s l) = or-false _
  spelled_reads (zone_test k s l) = or-false _
  spelled_reads (complement φ) = list_any-append op_reads (spelled φ) (Not ∷ []) ∙ or-false _ ∙ spelled_reads φ
  spelled_reads (either φ ψ) = list_any-append op_reads (spelled φ) (spelled ψ ++ Either ∷ []) ∙ ap₂ ◌||◌ (spelled_reads φ) (list_any-append op_reads (spelled ψ) (Either ∷ []) ∙ or-false _ ∙ spelled_reads ψ)
  spelled_reads (both φ ψ) = list_any-append op_reads (spelled φ) (spelled ψ ++ Both ∷ []) ∙ ap₂ ◌||◌ (spelled_reads φ) (list_any-append op_reads (spelled ψ) (Both ∷ []) ∙ or-false _ ∙ spelled_reads ψ)
  spelled_reads (window a b p φ) = list_any-append op_reads (spelled φ) (Window a b p ∷ []) ∙ or-false _ ∙ spelled_reads φ

  writes_reads : (e : Entry) (o : OperationModel) → Writes e o → entry_reads z j e ≡ op_reads o
  writes_reads e (HeadTest h s l) w = rw w.0 (ap (λ g. eqb g j) w.1)
  writes_reads e (ZoneTest k s l) w = rw w.0 refl
  writes_reads e Not w = rw w refl
  writes_reads e Either w = rw w refl
  writes_reads e Both w = rw w refl
  writes_reads e (Window a b p) w = rw w.0 refl

  pub reads_is : (es : List Entry) (φ : Formula) → Spells es φ → list_any (entry_reads z j) es ≡ reads z φ j
  reads_is es φ w = any_written (entry_reads z j) op_reads writes_reads es (spelled φ) w ∙ spelled_reads φ

-- ---- the zone tests
abbrev op_zone : OperationModel → Bool
op_zone (HeadTest h s l) = false
op_zone (ZoneTest k s l) = true
op_zone Not = false
op_zone Either = false
op_zone Both = false
op_zone (Window a b p) = false

spelled_zone : (φ : Formula) → list_any op_zone (spelled φ) ≡ zone_tested φ
spelled_zone (head_test h s l) = refl
spelled_zone (zone_test k s l) = refl
spelled_zone (complement φ) = list_any-append op_zone (spelled φ) (Not ∷ []) ∙ or-false _ ∙ spelled_zone φ
spelled_zone (either φ ψ) = list_any-append op_zone (spelled φ) (spelled ψ ++ Either ∷ []) ∙ ap₂ ◌||◌ (spelled_zone φ) (list_any-append op_zone (spelled ψ) (Either ∷ []) ∙ or-false _ ∙ spelled_zone ψ)
spelled_zone (both φ ψ) = list_any-append op_zone (spelled φ) (spelled ψ ++ Both ∷ []) ∙ ap₂ ◌||◌ (spelled_zone φ) (list_any-append op_zone (spelled ψ) (Both ∷ []) ∙ or-false _ ∙ spelled_zone ψ)
spelled_zone (window a b p φ) = list_any-append op_zone (spelled φ) (Window a b p ∷ []) ∙ or-false _ ∙ spelled_zone φ

writes_zone : (e : Entry) (o : OperationModel) → Writes e o → tests_zone e ≡ op_zone o
writes_zone e (HeadTest h s l) w = rw w.0 refl
writes_zone e (ZoneTest k s l) w = rw w.0 refl
writes_zone e Not w = rw w refl
writes_zone e Either w = rw w refl
writes_zone e Both w = rw w refl
writes_zone e (Window a b p) w = rw w.0 refl

pub zone_is : (es : List Entry) (φ : Formula) → Spells es φ → list_any tests_zone es ≡ zone_tested φ
zone_is es φ w = any_written tests_zone op_zone writes_zone es (spelled φ) w ∙ spelled_zone φ

-- ---- the widths of the windows
abbrev op_width : OperationModel → ℕ
op_width (HeadTest h s l) = 0
op_width (ZoneTest k s l) = 0
op_width Not = 0
op_width Either = 0
op_width Both = 0
op_width (Window a b p) = width a b

spelled-widths : (φ : Formula) → sum_by op_width (spelled φ) ≡ widths φ
spelled-widths (head_test h s l) = refl
spelled-widths (zone_test k s l) = refl
spelled-widths (complement φ) = omega (arith, sum_by-append op_width (spelled φ) (Not ∷ []), spelled-widths φ)
spelled-widths (either φ ψ) = omega (arith, sum_by-append op_width (spelled φ) (spelled ψ ++ Either ∷ []), sum_by-append op_width (spelled ψ) (Either ∷ []), spelled-widths φ, spelled-widths ψ)
spelled-widths (both φ ψ) = omega (arith, sum_by-append op_width (spelled φ) (spelled ψ ++ Both ∷ []), sum_by-append op_width (spelled ψ) (Both ∷ []), spelled-widths φ, spelled-widths ψ)
spelled-widths (window a b p φ) = omega (arith, sum_by-append op_width (spelled φ) (Window a b p ∷ []), spelled-widths φ)

writes_width : (e : Entry) (o : OperationModel) → Writes e o → entry_width e ≡ op_width o
writes_width e (HeadTest h s l) w = rw w.0 refl
writes_width e (ZoneTest k s l) w = rw w.0 refl
writes_width e Not w = rw w refl
writes_width e Either w = rw w refl
writes_width e Both w = rw w refl
writes_width e (Window a b p) w = rw w.0 (ap₂ width w.1 w.2)

pub widths_is : (es : List Entry) (φ : Formula) → Spells es φ → sum_by entry_width es ≡ widths φ
widths_is es φ w = sum_written entry_width op_width writes_width es (spelled φ) w ∙ spelled-widths φ
