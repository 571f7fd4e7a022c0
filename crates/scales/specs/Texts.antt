-- How margins read. Assumes nothing.
use Rattle.std.specs.Prelude.{ℕ, List, codes}
use Rattle.scales.specs.declared.verdict.VerdictMargin.{VerdictMargin}
use Rattle.scales.specs.declared.verdict.VerdictMargin.TheVariants.{Yes, No}

abbrev pub verdict_text : VerdictMargin → List ℕ
verdict_text Yes = codes "yes"
verdict_text No = codes "no"
