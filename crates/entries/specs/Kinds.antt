-- The number of each kind of entry. Assumes nothing.
use Rattle.std.specs.Prelude.{◌≡◌, ℕ, ◌<◌, ◌⊎◌, Result, MatchResult}
use Rattle.entries.specs.declared.kind.Kind.{Kind}
use Rattle.entries.specs.declared.kind.Kind.TheVariants.{HeadTest, ZoneTest, Not, Either, Both, Window}
use Rattle.entries.specs.declared.kind.UnknownKind.{UnknownKind}

abbrev pub kind_number : Kind → ℕ
kind_number HeadTest = 16
kind_number ZoneTest = 17
kind_number Not = 18
kind_number Either = 19
kind_number Both = 20
kind_number Window = 21

-- the result is the kind with this number, or the number where no kind has it
abbrev pub Decodes : ℕ → Result Kind UnknownKind → Type 0
Decodes n r = MatchResult r (λ kind. kind_number kind ≡ n) (λ e. (e.0 ≡ n) × ((n < 16) ⊎ (21 < n)))
