use Rattle.formulas.proofs.Meanings.{meaning}
use Rattle.formulas.proofs.formulas_mean_what_the_logic_says.Goals as goal

pub returns : goal.returns
returns c = meaning
