-- The formula that a list of entries assembles to in a zone of heads, or the first ground against it. Assumes nothing.
--     built         the formulas left after one operation more
--     stack         the formulas left after the first n entries
--     assemble      the one formula left after all, or the fault
use Rattle.std.specs.Prelude.{ℕ, zero, suc, Bool, true, false, cond, not, ◌&&◌, List, [], ◌∷◌, length, pos, Some, None, Ok, Err, Option, Result, ◌==◌, nat_le, slice_index_or}
use Rattle.std.specs.Result.{result_unwrap_or}
use Rattle.scales.specs.declared.limit.Sense.TheVariants.{AtLeast}
pub use Rattle.faults.specs.Checks.{on}
use Rattle.formulas.specs.Formula.{Formula, head_test, zone_test, complement, either, both, window, among, horizon}
use Rattle.entries.specs.Decode.{operation_of}
use Rattle.entries.specs.Operations.{OperationModel, HeadTest, ZoneTest, Not, Either, Both, Window}
use Rattle.entries.specs.declared.entry.Entry.{Entry}
use Rattle.rules.specs.declared.fault.RuleFault.{RuleFault}
use Rattle.rules.specs.declared.sizes.TheConstants.{ENTRIES, HORIZON, ZONE_HEADS}
use Rattle.rules.specs.declared.fault.RuleFault.TheVariants.{EntryCount, ZoneHeadCount, OutOfRange, HeadOutsideZone, TooFewFormulas, TooManyFormulas, HorizonTooFar}

abbrev pub blank : Entry
blank = record { kind = 0; head = 0; k = 0; sense = 0; limit = pos 0; first = 0; last = 0; share = 0 }

-- head 0 at least 0
abbrev pub starting : Formula
starting = head_test 0 AtLeast (pos 0)

-- the formulas left after an operation, the newest first; none where it takes more than are left
abbrev pub built : OperationModel → List Formula → Option (List Formula)
built (HeadTest h s l) st = Some (head_test h s l ∷ st)
built (ZoneTest k s l) st = Some (zone_test k s l ∷ st)
built Not [] = None
built Not (φ ∷ st) = Some (complement φ ∷ st)
built Either [] = None
built Either (ψ ∷ []) = None
built Either (ψ ∷ (φ ∷ st)) = Some (either φ ψ ∷ st)
built Both [] = None
built Both (ψ ∷ []) = None
built Both (ψ ∷ (φ ∷ st)) = Some (both φ ψ ∷ st)
built (Window a b p) [] = None
built (Window a b p) (φ ∷ st) = Some (window a b p φ ∷ st)

-- the head of a head test that is outside the zone
abbrev pub outside : List ℕ → OperationModel → Option ℕ
outside zone (HeadTest h s l) = cond (among h zone) None (Some h)
outside zone (ZoneTest k s l) = None
outside zone Not = None
outside zone Either = None
outside zone Both = None
outside zone (Window a b p) = None

abbrev pub alone : List Formula → Bool
alone [] = false
alone (φ ∷ []) = true
alone (φ ∷ (ψ ∷ st)) = false

abbrev pub newest : List Formula → Formula
newest [] = starting
newest (φ ∷ st) = φ

-- grounds 4 and 5: the operation has the formulas that it takes, the last leaves one, and none looks too far
abbrev pub settled : Bool → ℕ → Option (List Formula) → Result (List Formula) RuleFault
settled last n None = Err (TooFewFormulas n)
settled last n (Some st) =
    cond (last && not (alone st)) (Err (TooManyFormulas n))
    (cond (nat_le (horizon (newest st)) HORIZON) (Ok st) (Err (HorizonTooFar n (horizon (newest st)))))

-- ground 3
abbrev pub inside : {X : Type 0} → ℕ → Option ℕ → Result X RuleFault → Result X RuleFault
inside n None r = r
inside n (Some h) r = Err (HeadOutsideZone n h)

-- grounds 2 to 5 of entry n, the last or not, after the formulas st
abbrev pub judged : List ℕ → Bool → ℕ → List Formula → Option OperationModel → Result (List Formula) RuleFault
judged zone last n st None = Err (OutOfRange n)
judged zone last n st (Some o) = inside n (outside zone o) (settled last n (built o st))

abbrev pub step : List ℕ → List Entry → ℕ → List Formula → Result (List Formula) RuleFault
step zone es n st = judged zone (suc n == length es) n st (operation_of (slice_index_or es n blank) (length zone))

-- the formulas left after the first n entries
unfoldable pub stack : List ℕ → List Entry → ℕ → Result (List Formula) RuleFault
stack zone es zero = Ok []
stack zone es (suc n) = on (stack zone es n) (step zone es n)

-- at least one, and at most so many
abbrev pub fair : ℕ → ℕ → Bool
fair n most = nat_le 1 n && nat_le n most

-- 1 to 24 entries; 1 to 32 heads
abbrev pub fair_count : ℕ → Bool
fair_count n = fair n ENTRIES

abbrev pub fair_heads : ℕ → Bool
fair_heads n = fair n ZONE_HEADS

-- ground 1, then the entries in order
unfoldable pub assemble : List ℕ → List Entry → Result Formula RuleFault
assemble zone es =
    cond (fair_count (length es))
    (cond (fair_heads (length zone)) (on (stack zone es (length es)) (λ st. Ok (newest st))) (Err (ZoneHeadCount (length zone))))
    (Err (EntryCount (length es)))

-- the formula of a list that assembles; `starting` is never meant
unfoldable pub formula_of : List ℕ → List Entry → Formula
formula_of zone es = result_unwrap_or (assemble zone es) starting
