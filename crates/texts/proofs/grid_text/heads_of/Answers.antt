-- A line has one field more than commas. Assumes nothing.
use Rattle.std.proofs.Common.{eqb, arith}
use Rattle.std.proofs.lemmas.List.Splits.{length-slice_split}
use Rattle.texts.proofs.grid_text.heads_of.Goals as goal

pub returns : goal.returns
returns c = omega (arith, length-slice_split (λ b. eqb b 44) c.args.line.now)
