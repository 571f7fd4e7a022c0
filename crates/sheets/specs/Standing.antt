-- What the reader's parts have to do with what is meant. Assumes nothing.
--     Meets         a result is the one meant
--     Drafted       entries added to a draft are those of the formulas meant
--     Stands        what a reader has met are these zones
use Rattle.std.specs.Prelude.{◌≡◌, ℕ, ◌+◌, ◌≤◌, List, [], ◌∷◌, ◌++◌, map, length, Ok, Err, Result, MatchResult}
use Rattle.formulas.specs.Formula.{among}
use Rattle.entries.specs.Heads.{heads}
use Rattle.entries.specs.declared.heads.HeadSet.{HeadSet}
use Rattle.sheets.specs.Formulas.{Formulas}
use Rattle.sheets.specs.Layout.{StretchModel, PieceModel, stretch}
use Rattle.sheets.specs.Loading.{line, lines}
use Rattle.sheets.specs.Outlines.{in_a_zone, Outline, SheetZone, SheetGroup, zones}
use Rattle.sheets.specs.Parts.{Adder, to_end, zone_heads, opened_zone, opened_group}
use Rattle.sheets.specs.declared.fault.SheetFault.{SheetFault}
use Rattle.sheets.specs.declared.draft.Draft.{Draft}
use Rattle.sheets.specs.declared.reader.Reader.{Reader}
use Rattle.sheets.specs.declared.stretch.Stretch.{Stretch}
use Rattle.sheets.specs.declared.zone.Zone.{Zone}

-- the result is the one meant, its value seen through a view
abbrev pub Meets : {T X : Type 0} → (T → X) → Result X SheetFault → Result T SheetFault → Type 0
Meets view meant result = MatchResult result (λ t. meant ≡ Ok (view t)) (λ f. meant ≡ Err f)

-- the draft has more entries, those of the formulas meant, and their room; what stands behind them is answered
pub record Added (meant : Result Formulas SheetFault) (before after : Draft) (left : Stretch) : Type 0 where
  pub formulas : Formulas
  pub is : meant ≡ Ok formulas
  pub entries : after.entries.items ≡ before.entries.items ++ formulas.entries
  pub room : after.room ≡ formulas.room
  pub behind : stretch left ≡ formulas.behind

abbrev pub Drafted : Result Formulas SheetFault → Draft → Draft → Result Stretch SheetFault → Type 0
Drafted meant before after result = MatchResult result (Added meant before after) (λ f. meant ≡ Err f)

-- each entry added is one formula less that may begin, and no more may begin than before
abbrev pub Level : Draft → Draft → Type 0
Level before after =
    (length after.entries.items + after.room ≡ length before.entries.items + before.room) × (after.room ≤ before.room)

-- the heads are those of the zones
abbrev pub HeadsMet : List SheetZone → HeadSet → Type 0
HeadsMet zs met = (h : ℕ) → among h (heads met.bits) ≡ in_a_zone h zs

-- the reader has met so many groups, and these zones with their rules, on a card of so many heads
pub record Stands (total groups : ℕ) (zs : List SheetZone) (r : Reader) : Type 0 where
  pub card : r.total ≡ total
  pub counted : r.groups ≡ groups
  pub numbers : r.zones.items ≡ map (λ z. z.number) zs
  pub heads_met : HeadsMet zs r.heads
  pub rules : map line r.rules.items ≡ lines zs

-- from what is met before to what is met after, one record that says as much as the adder means
abbrev pub Adds : {X : Type 0} → (X → Reader → Type 0) → Adder X → StretchModel → Reader → Reader → Result Stretch SheetFault → Type 0
Adds {X} Holds add s before after result = (x : X) → Holds x before → MatchResult result
    (λ left. (y : X) × (add x s ≡ Ok (y, stretch left)) × Holds y after) (λ f. add x s ≡ Err f)

-- the same of all records to the end of a stretch
abbrev pub Fills : {X : Type 0} → (X → Reader → Type 0) → Adder X → StretchModel → Reader → Reader → Result (Unit {0}) SheetFault → Type 0
Fills {X} Holds add s before after result = (x : X) → Holds x before → MatchResult result
    (λ _. (y : X) × (to_end add x s ≡ Ok y) × Holds y after) (λ f. to_end add x s ≡ Err f)

-- the reader has met these zones and then this one, which the code knows by number and heads
abbrev pub InZone : ℕ → ℕ → List SheetZone → Zone → SheetZone → Reader → Type 0
InZone total groups before zone z r = (z.number ≡ zone.number) × (z.heads ≡ heads zone.heads.bits) × Stands total groups (before ++ z ∷ []) r

-- the reader has met these zones of earlier groups and then those of this group
abbrev pub InGroup : ℕ → ℕ → List SheetZone → SheetGroup → Reader → Type 0
InGroup total groups before g r = Stands total groups (before ++ g.zones) r

-- the reader has met all of the outline
abbrev pub InSheet : Outline → Reader → Type 0
InSheet o r = Stands o.total (length o.groups) (zones o) r

-- the set has the heads listed, which may be a zone's behind the zones met
abbrev pub GivesHeads : ℕ → ℕ → HeadSet → List ℕ → Result HeadSet SheetFault → Type 0
GivesHeads at total met listed result = (zs : List SheetZone) → HeadsMet zs met → MatchResult result
    (λ set. (zone_heads at total zs 0 listed ≡ Ok tt) × (heads set.bits ≡ listed)) (λ f. zone_heads at total zs 0 listed ≡ Err f)

-- the zone of a record is met, behind those before it, and the stretch of its rules is answered
abbrev pub OpensZone : PieceModel → Reader → Reader → Result (Zone × Stretch) SheetFault → Type 0
OpensZone p before after result = (total groups : ℕ) (zs : List SheetZone) → Stands total groups zs before → MatchResult result
    (λ x. (z : SheetZone) × (opened_zone total zs p ≡ Ok (z, stretch x.1)) × InZone total groups zs x.0 z after) (λ f. opened_zone total zs p ≡ Err f)

-- the group of a record is met, and the stretch of its zones is answered
abbrev pub OpensGroup : PieceModel → Reader → Reader → Result Stretch SheetFault → Type 0
OpensGroup p before after result = (total : ℕ) (gs : List SheetGroup) (zs : List SheetZone) → Stands total (length gs) zs before → MatchResult result
    (λ left. (g : SheetGroup) × (opened_group gs p ≡ Ok (g, stretch left)) × (g.zones ≡ []) × Stands total (length gs + 1) zs after) (λ f. opened_group gs p ≡ Err f)
