-- Worked examples speak of a zone and a formula alone, so that they compute; of a rule's own, that is what the calls answer. Assumes nothing.
use Rattle.std.specs.Prelude.{◌≡◌, ℕ, List, ℤ}
use Rattle.layout.specs.Rows.{Row}
use Rattle.records.specs.Model.{RecordModel}
use Rattle.rules.specs.Rules.{zone, formula}
use Rattle.rules.specs.declared.rule.Rule.{Rule}
use Rattle.scales.specs.Counts.{counts}
use Rattle.watches.specs.Calls.{reply, reply_of}
use Rattle.watches.specs.Surveys.{surveyed, surveyed_of}

-- in counts both are, of a rule's own zone and formula, what ask and a survey answer
pub record OfEveryRule : Type 0 where
  pub replies : (rule : Rule) (rows : List Row) (lent : ℕ) → reply counts rule rows lent ≡ reply_of counts.mark (zone rule) (formula rule) rows lent
  pub surveys : (rule : Rule) (rm : RecordModel ℤ) (lent t : ℕ) → surveyed counts rule rm lent t ≡ surveyed_of counts (zone rule) (formula rule) rm lent t
