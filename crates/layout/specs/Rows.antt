-- What the cells of a watch stand for: the rows that it took. Assumes nothing.
--     Row           the steps of each head at one poll
--     Holds         n rows and the cells stand for a list of rows
--     Advanced      one row more
--     Latest        the rule's margin at the latest poll that has all its rows
use Rattle.std.specs.Prelude.{◌≡◌, ℕ, ◌+◌, ◌-◌, Bool, true, false, cond, ◌&&◌, List, [], ◌∷◌, ◌++◌, length, drop, ℤ, pos, Some, None, Option, nat_le, nat_lt, slice_index_or}
use Rattle.std.specs.Option.{option_map}
use Rattle.scales.specs.Model.{ScaleModel}
use Rattle.formulas.specs.Formula.{horizon}
use Rattle.formulas.specs.Margin.{Signal, margin}
use Rattle.rules.specs.Rules.{zone, formula, part}
use Rattle.rules.specs.Needs.{need}
use Rattle.rules.specs.declared.rule.Rule.{Rule}
use Rattle.layout.specs.Shape.{shape}
use Rattle.layout.specs.Slots.{Slots}
use Rattle.layout.specs.Steps.{Readings, Lit}

-- rows are counted in 32 bits
abbrev pub most_counted : ℕ
most_counted = 4294967295

-- a row: the steps of each head that the rule reads
abbrev pub Row : Type 0
Row = ℕ → ℤ

-- row t is poll t of the record that the rows make
abbrev pub signal : List Row → Signal
signal rows t = slice_index_or rows t (λ _. pos 0)

-- the cells that a watch of the rule needs
abbrev pub cells_of : Rule → ℕ
cells_of rule = need (zone rule) (formula rule)

-- the margin of an entry's formula at a poll of the rows
abbrev pub margins : (ℤ → ℤ) → Rule → List Row → ℕ → ℕ → ℤ
margins mark rule rows i p = margin mark (zone rule) (part rule i) (signal rows) p

-- n and the cells stand for the rows
pub record Holds {M : Type 0} (mark : ℤ → ℤ) (whole : M → ℤ) (rule : Rule) (n : ℕ) (cells : List M) (rows : List Row) : Type 0 where
  pub count : n ≡ length rows
  pub slots : Slots (shape rule) whole (margins mark rule rows) n cells

-- a row more, whatever rows the cells stood for, with any cells behind; a no, and the cells as they were, where they are too few
pub record Advanced {Reading M : Type 0} (sm : ScaleModel Reading M) (rule : Rule) (row : Readings Reading) (n : ℕ) (cells cells' : List M) (r : Bool) : Type 0 where
  pub told : r ≡ nat_le (cells_of rule) (length cells)
  pub refused : r ≡ false → cells' ≡ cells
  pub long : length cells' ≡ length cells
  pub behind : drop (cells_of rule) cells' ≡ drop (cells_of rule) cells
  pub holds : r ≡ true → (y : Row) → Lit sm (shape rule) row y → (rest : List M) (rows : List Row) → Holds sm.mark sm.whole rule n (cells ++ rest) rows → Holds sm.mark sm.whole rule (n + 1) (cells' ++ rest) (rows ++ (y ∷ []))

-- there are cells enough, and rows for a poll
abbrev pub has_latest : Rule → ℕ → ℕ → Bool
has_latest rule lent n = nat_le (cells_of rule) lent && nat_lt (horizon (formula rule)) n

-- the rule's margin at the latest poll that has all its rows; none where no poll has, or the cells are too few
abbrev pub latest_margin : (ℤ → ℤ) → Rule → ℕ → List Row → Option ℤ
latest_margin mark rule lent rows =
    cond (nat_lt lent (cells_of rule)) None
    (cond (nat_le (length rows) (horizon (formula rule))) None
    (Some (margin mark (zone rule) (formula rule) (signal rows) (length rows - 1 - horizon (formula rule)))))

abbrev pub Latest : {M : Type 0} → Rule → ℕ → List M → Option M → Type 0
Latest {M = M} rule n cells r =
    (mark : ℤ → ℤ) (whole : M → ℤ) (rest : List M) (rows : List Row) → Holds mark whole rule n (cells ++ rest) rows → option_map whole r ≡ latest_margin mark rule (length cells) rows
