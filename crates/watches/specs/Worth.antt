-- What an answered margin is worth for readings that are not quite true, after every run of calls. Assumes nothing.
--     TrueRecord    what the heads would have read, had they read truly
--     Within        a true record lies at most d steps from the accepted rows at the rule's own heads
--     DefinedNearSafeTight   the answer is the defined one, its margin near the true one, its sign safe, and it is tight
--     AfterEveryRun          so it is after every run of calls
use Rattle.std.specs.Prelude.{◌≡◌, ℕ, ◌+◌, ◌<◌, ◌≤◌, true, List, ◌++◌, length, ℤ, pos, negsuc, neg_ℤ, ◌<ℤ◌, Ok, Result, unsigned_abs}
use Rattle.formulas.specs.Formula.{OneWay}
use Rattle.formulas.specs.Margin.{margin, verdict}
use Rattle.rules.specs.Rules.{zone, formula}
use Rattle.rules.specs.declared.rule.Rule.{Rule}
use Rattle.scales.specs.Model.{ScaleModel, Measures, distance}
use Rattle.layout.specs.Rows.{Row, signal}
use Rattle.watches.specs.Calls.{reply, meant}
use Rattle.watches.specs.Readings.{reads_head}
use Rattle.watches.specs.Runs.{Call, accepted, Run}
use Rattle.watches.specs.declared.answers.Answer.{Answer}
use Rattle.watches.specs.declared.answers.Answer.TheVariants.{At}
use Rattle.watches.specs.declared.refusals.WatchFault.{WatchFault}
use Rattle.watches.specs.declared.watch.Watch.{Watch}

-- for each row and head any whole number of steps, however large
abbrev pub TrueRecord : Type 0
TrueRecord = ℕ → ℕ → ℤ

-- at each of the rule's own heads, in each accepted row, at most d steps apart; other heads may read as they like
abbrev pub Within : ℕ → Rule → List Row → TrueRecord → Type 0
Within d rule rows truth = (i h : ℕ) → i < length rows → reads_head rule h ≡ true → distance (signal rows i h) (truth i h) ≤ d

-- the rule's margin at a poll of a record
abbrev pub margin_at : {Reading Margin : Type 0} → ScaleModel Reading Margin → Rule → TrueRecord → ℕ → ℤ
margin_at sm rule x t = margin sm.mark (zone rule) (formula rule) x t

-- the rule's verdict there, its margin under the verdict mark: 1 is yes, and -1 is no
abbrev pub verdict_at : {Reading Margin : Type 0} → ScaleModel Reading Margin → Rule → TrueRecord → ℕ → ℤ
verdict_at sm rule x t = verdict sm.mark (zone rule) (formula rule) x t

-- all tests of the rule that read a head look alike
abbrev pub LooksOneWay : Rule → Type 0
LooksOneWay rule = OneWay (zone rule) (formula rule)

-- the accepted and the true record both have the verdict v
abbrev pub BothSay : {Reading Margin : Type 0} → ScaleModel Reading Margin → Rule → List Row → TrueRecord → ℕ → ℤ → Type 0
BothSay sm rule rows truth t v = (verdict_at sm rule (signal rows) t ≡ v) × (verdict_at sm rule truth t ≡ v)

-- of the answer r for the accepted rows, where so many cells are lent
pub record DefinedNearSafeTight {Reading Margin : Type 0} (sm : ScaleModel Reading Margin) (rule : Rule) (rows : List Row) (lent : ℕ) (r : Result (Answer Margin) WatchFault) : Type 0 where
  -- waiting with the rows to come, or the poll and its margin, as defined for the accepted rows; a refusal where the cells are too few
  pub defined : meant sm.whole r ≡ reply sm rule rows lent
  -- the margin lies within the scale's reach of d of that of any true record at most d away
  pub near : (t : ℕ) (m : Margin) → r ≡ Ok (At t m) → (truth : TrueRecord) (d : ℕ) → Within d rule rows truth → distance (sm.whole m) (margin_at sm rule truth t) ≤ sm.reach d
  -- on a scale that measures, a margin of more than d settles the verdict of both records by its sign
  pub safe : Measures sm → (t : ℕ) (m : Margin) → r ≡ Ok (At t m) → (truth : TrueRecord) (d : ℕ) → Within d rule rows truth → d < unsigned_abs (sm.whole m)
      → (pos 0 <ℤ sm.whole m → BothSay sm rule rows truth t (pos 1)) × (sm.whole m <ℤ pos 0 → BothSay sm rule rows truth t (negsuc 0))
  -- and it says no more: if the rule looks at each head one way, a true record one step farther away has the opposite verdict
  pub tight : Measures sm → LooksOneWay rule → (t : ℕ) (m : Margin) → r ≡ Ok (At t m)
      → (truth : TrueRecord) × Within (unsigned_abs (sm.whole m) + 1) rule rows truth × (verdict_at sm rule truth t ≡ neg_ℤ (verdict_at sm rule (signal rows) t))

-- whatever calls took the watch and a stretch of cells, of which a front is lent now, to where they are
abbrev pub AfterEveryRun : {S Reading Margin : Type 0} → (S → ScaleModel Reading Margin) → Watch S → List Margin → Result (Answer Margin) WatchFault → Type 0
AfterEveryRun {S = S} {Reading = Reading} {Margin = Margin} model w front r =
    (rule : Rule) (scale : S) (calls : List (Call Reading)) (rest : List Margin) → Run model rule scale calls w (front ++ rest)
    → DefinedNearSafeTight (model scale) rule (accepted (model scale) rule calls) (length front) r
