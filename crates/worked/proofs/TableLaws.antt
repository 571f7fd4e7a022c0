-- Every line of the table of settled readings, by one test that antt computes. Assumes nothing.
use Rattle.std.proofs.Common.{◌≡◌, Bool, true, false, ◌&&◌, eqb, List, [], ◌∷◌, ℤ, Some, None, Ok, Err, Option, Result, refl, ap, ◌∙◌, arith}
use lib.Signed.{le_z}
use Rattle.std.specs.List.{AllByRecursion}
use Rattle.std.proofs.lemmas.Int.{ints}
use Rattle.std.proofs.lemmas.Bool.{and_parts, eqb-true, false≢true}
use Rattle.formulas.specs.Margin.{margin, verdict, polls}
use Rattle.rules.specs.Needs.{need}
use Rattle.runs.specs.Highest.{highest, kth}
use Rattle.runs.specs.Rank.{rank}
use Rattle.scales.specs.Counts.{counts}
use Rattle.scales.specs.Grid.{grid_whole, on_grid}
use Rattle.scales.specs.Obscuration.{obscuration}
use Rattle.scales.specs.Panel.{panel}
use Rattle.watches.specs.Readings.{first_fault, steps_at}
use Rattle.watches.specs.declared.answers.Answer.{Answer}
use Rattle.watches.specs.declared.answers.Answer.TheVariants.{Waiting, At}
use Rattle.watches.specs.declared.refusals.WatchFault.{WatchFault}
use Rattle.watches.specs.declared.refusals.WatchFault.TheVariants.{TooFewCells, Full, PastTheEnd, NoReading, Unlawful}
use Rattle.worked.specs.Table.{Line, gives, needs, ranks, answers, surveys, obscures, at_least, Right, table}
use Rattle.watches.specs.Calls.{reply_of}
use Rattle.watches.specs.Surveys.{faults_from, surveyed_of}

abbrev same_number : ℤ → ℤ → Bool
same_number a b = le_z a b && le_z b a

number_is : (a b : ℤ) → same_number a b ≡ true → a ≡ b
number_is a b e = let h = and_parts (le_z a b) (le_z b a) e in let p = h.0 in let q = h.1 in omega (arith, ints)

abbrev same_margin : Option ℤ → Option ℤ → Bool
same_margin (Some a) (Some b) = same_number a b
same_margin (Some a) None = false
same_margin None b = false

margin_is : (a b : Option ℤ) → same_margin a b ≡ true → a ≡ b
margin_is (Some a) (Some b) e = ap Some (number_is a b e)
margin_is (Some a) None e = absurd (cc)
margin_is None b e = absurd (cc)

-- of the faults, those that the table has
abbrev same_fault : WatchFault → WatchFault → Bool
same_fault (PastTheEnd a b c) (PastTheEnd x y z) = eqb a x && eqb b y && eqb c z
same_fault (PastTheEnd a b c) (TooFewCells x y) = false
same_fault (PastTheEnd a b c) Full = false
same_fault (PastTheEnd a b c) (NoReading x y) = false
same_fault (PastTheEnd a b c) (Unlawful x y) = false
same_fault (TooFewCells a b) f = false
same_fault Full f = false
same_fault (NoReading a b) f = false
same_fault (Unlawful a b) f = false

fault_is : (e f : WatchFault) → same_fault e f ≡ true → e ≡ f
fault_is (PastTheEnd a b c) (PastTheEnd x y z) q =
    let h = and_parts (eqb a x && eqb b y) (eqb c z) q in
    let g = and_parts (eqb a x) (eqb b y) h.0 in
    ap (λ i. PastTheEnd i b c) (eqb-true a x g.0) ∙ ap (λ i. PastTheEnd x i c) (eqb-true b y g.1) ∙ ap (PastTheEnd x y) (eqb-true c z h.1)
fault_is (PastTheEnd a b c) (TooFewCells x y) q = absurd (false≢true q)
fault_is (PastTheEnd a b c) Full q = absurd (false≢true q)
fault_is (PastTheEnd a b c) (NoReading x y) q = absurd (false≢true q)
fault_is (PastTheEnd a b c) (Unlawful x y) q = absurd (false≢true q)
fault_is (TooFewCells a b) f q = absurd (false≢true q)
fault_is Full f q = absurd (false≢true q)
fault_is (NoReading a b) f q = absurd (false≢true q)
fault_is (Unlawful a b) f q = absurd (false≢true q)

-- results, where the test of their values is `same`
abbrev same_result : {A : Type 0} → (A → A → Bool) → Result A WatchFault → Result A WatchFault → Bool
same_result same (Ok a) (Ok b) = same a b
same_result same (Err e) (Err f) = same_fault e f
same_result same (Ok a) (Err f) = false
same_result same (Err e) (Ok b) = false

result_is : {A : Type 0} (same : A → A → Bool) → ((a b : A) → same a b ≡ true → a ≡ b) → (r s : Result A WatchFault) → same_result same r s ≡ true → r ≡ s
result_is same is (Ok a) (Ok b) q = ap Ok (is a b q)
result_is same is (Err e) (Err f) q = ap Err (fault_is e f q)
result_is same is (Ok a) (Err f) q = absurd (false≢true q)
result_is same is (Err e) (Ok b) q = absurd (false≢true q)

abbrev same_answer : Answer ℤ → Answer ℤ → Bool
same_answer (Waiting a) (Waiting b) = eqb a b
same_answer (At t m) (At u n) = eqb t u && same_number m n
same_answer (Waiting a) (At u n) = false
same_answer (At t m) (Waiting b) = false

answer_is : (a b : Answer ℤ) → same_answer a b ≡ true → a ≡ b
answer_is (Waiting a) (Waiting b) q = ap Waiting (eqb-true a b q)
answer_is (At t m) (At u n) q = let h = and_parts (eqb t u) (same_number m n) q in ap (λ i. At i m) (eqb-true t u h.0) ∙ ap (At u) (number_is m n h.1)
answer_is (Waiting a) (At u n) q = absurd (false≢true q)
answer_is (At t m) (Waiting b) q = absurd (false≢true q)

-- the test of one line
abbrev right : Line → Bool
right (gives zone φ x t m v) = same_number (margin counts.mark zone φ (steps_at counts x) t) m && same_number (verdict counts.mark zone φ (steps_at counts x) t) v
right (needs zone φ cells) = eqb (need zone φ) cells
right (ranks share width k) = eqb (rank share width) k
right (answers zone φ rows lent a) = same_result same_answer (reply_of counts.mark zone φ rows lent) a
right (surveys zone φ x lent t r) = same_result same_number (surveyed_of counts zone φ x lent t) r
right (obscures reading limit value digit) = same_margin (at_least obscuration reading limit) (Some (grid_whole value)) && same_margin (at_least (panel obscuration) reading limit) (Some digit)

-- a line that passes is right
is_right : (l : Line) → right l ≡ true → Right l
is_right (gives zone φ x t m v) q =
    let h = and_parts (same_number (margin counts.mark zone φ (steps_at counts x) t) m) (same_number (verdict counts.mark zone φ (steps_at counts x) t) v) q in
    (number_is (margin counts.mark zone φ (steps_at counts x) t) m h.0, number_is (verdict counts.mark zone φ (steps_at counts x) t) v h.1)
is_right (needs zone φ cells) q = eqb-true (need zone φ) cells q
is_right (ranks share width k) q = eqb-true (rank share width) k q
is_right (answers zone φ rows lent a) q = result_is same_answer answer_is (reply_of counts.mark zone φ rows lent) a q
is_right (surveys zone φ x lent t r) q = result_is same_number number_is (surveyed_of counts zone φ x lent t) r q
is_right (obscures reading limit value digit) q =
    let h = and_parts (same_margin (at_least obscuration reading limit) (Some (grid_whole value))) (same_margin (at_least (panel obscuration) reading limit) (Some digit)) q in
    (margin_is (at_least obscuration reading limit) (Some (grid_whole value)) h.0, margin_is (at_least (panel obscuration) reading limit) (Some digit) h.1)

abbrev all_right : List Line → Bool
all_right [] = true
all_right (l ∷ ls) = right l && all_right ls

are_right : (ls : List Line) → all_right ls ≡ true → AllByRecursion Right ls
are_right [] q = tt
are_right (l ∷ ls) q = let h = and_parts (right l) (all_right ls) q in (is_right l h.0, are_right ls h.1)

pub table_right : AllByRecursion Right table
unfolding margin polls kth highest faults_from first_fault grid_whole on_grid
table_right = are_right table refl
