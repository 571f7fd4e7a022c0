-- What a rule keeps of the formula that ends at each entry. Assumes nothing.
--     formula_at    the formula that ends at an entry
--     span          how far a formula looks, and of how many entries it is spelled
--     Spanned       a table has the spans of the first entries
--     Stacked       it shows the formulas that are left
use Rattle.std.specs.Prelude.{◌≡◌, ℕ, suc, ◌+◌, ◌-◌, ◌<◌, ◌≤◌, max, Bool, not, ◌&&◌, List, [], ◌∷◌, Some, None, Ok, Err, Option, Result, ◌==◌, slice_index_or}
use Rattle.formulas.specs.Formula.{Formula, horizon}
use Rattle.entries.specs.declared.entry.Entry.{Entry}
use Rattle.rules.specs.Assemble.{blank, newest, stack}
use Rattle.rules.specs.Spelling.{entries}
use Rattle.rules.specs.declared.fault.RuleFault.{RuleFault}
use Rattle.rules.specs.declared.line.Line.{Line}
use Rattle.rules.specs.declared.node.Node.TheVariants as node
use Rattle.rules.specs.declared.sizes.TheConstants.{HORIZON}
use Rattle.rules.specs.declared.span.Span.{Span}

abbrev pub left : Result (List Formula) RuleFault → List Formula
left (Ok st) = st
left (Err f) = []

unfoldable pub formula_at : List ℕ → List Entry → ℕ → Formula
formula_at zone es k = newest (left (stack zone es (suc k)))

abbrev pub no_span : Span
no_span = record { horizon = 0; size = 0 }

abbrev pub no_line : Line
no_line = record { entry = blank; span = no_span; node = node.Not 0 }

abbrev pub span : Formula → Span
span φ = record { horizon = horizon φ; size = entries φ }

-- t has the span of the formula that ends at each of the first n entries
abbrev pub Spanned : List ℕ → List Entry → List Line → ℕ → Type 0
Spanned zone es t n = (k : ℕ) → k < n → (slice_index_or t k no_line).span ≡ span (formula_at zone es k)

-- The first n entries leave the formulas st, the newest first: a formula ends at the entry before the next one's first,
-- and t has the span of each at its last entry.
abbrev pub Stacked : List Line → ℕ → List Formula → Type 0
Stacked t n [] = n ≡ 0
Stacked t n (φ ∷ st) = (entries φ ≤ n) × (horizon φ ≤ HORIZON) × ((slice_index_or t (n - 1) no_line).span ≡ span φ) × Stacked t (n - entries φ) st

abbrev pub newest_span : Option (List Formula) → Option Span
newest_span None = None
newest_span (Some []) = None
newest_span (Some (φ ∷ st)) = Some (span φ)

-- over one formula, d polls further; over two
abbrev pub over_one : ℕ → List Formula → Option Span
over_one d [] = None
over_one d (φ ∷ st) = Some (record { horizon = d + horizon φ; size = entries φ + 1 })

abbrev pub over_two : List Formula → Option Span
over_two [] = None
over_two (ψ ∷ []) = None
over_two (ψ ∷ (φ ∷ st)) = Some (record { horizon = max (horizon φ) (horizon ψ); size = entries φ + entries ψ + 1 })

abbrev pub spanned : Result (List Formula) RuleFault → Result Span RuleFault
spanned (Ok st) = Ok (span (newest st))
spanned (Err f) = Err f

-- entry n is the last of m, and its formula is not spelled by all of them
abbrev pub more_left : ℕ → ℕ → ℕ → Bool
more_left n size m = n + 1 == m && not (size == m)
