-- What the lines of a rule show. Assumes nothing.
--     listed        the entries
--     before        the span of the formula that ends just before a place
--     Shows         an answer is right for the formulas left
--     Told          a table has the spans and the nodes of the first entries
use Rattle.std.specs.Prelude.{◌≡◌, ℕ, ◌-◌, cond, List, map, take, Some, None, Ok, Err, Option, Result, ◌==◌, slice_index_or}
use Rattle.formulas.specs.Formula.{Formula}
use Rattle.entries.specs.declared.entry.Entry.{Entry}
use Rattle.rules.specs.Nodes.{NodeModel, model, Noded}
use Rattle.rules.specs.Spans.{Stacked, Spanned, no_line}
use Rattle.rules.specs.declared.fault.RuleFault.{RuleFault}
use Rattle.rules.specs.declared.line.Line.{Line}
use Rattle.rules.specs.declared.lines.Lines.{Lines}
use Rattle.rules.specs.declared.span.Span.{Span}

abbrev pub listed : Lines → List Entry
listed l = map (λ (x : Line). x.entry) (take l.count l.rows)

-- none at the first place
abbrev pub before : Lines → ℕ → Option Span
before l n = cond (n == 0) None (Some (slice_index_or l.rows (n - 1) no_line).span)

-- r is what f makes of the formulas that the lines show
abbrev pub Shows : {X : Type 0} → Lines → (List Formula → X) → X → Type 0
Shows l f r = (st : List Formula) → Stacked l.rows l.count st → r ≡ f st

abbrev pub line_span : Result Line RuleFault → Result Span RuleFault
line_span (Ok x) = Ok x.span
line_span (Err f) = Err f

abbrev pub line_node : Result Line RuleFault → Result NodeModel RuleFault
line_node (Ok x) = Ok (model x.node)
line_node (Err f) = Err f

abbrev pub Told : List ℕ → List Entry → List Line → ℕ → Type 0
Told zone es t n = Spanned zone es t n × Noded zone es t n
