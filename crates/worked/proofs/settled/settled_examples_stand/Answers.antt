use Rattle.std.proofs.Common.{refl}
use Rattle.worked.proofs.TableLaws.{table_right}
use Rattle.worked.proofs.settled.settled_examples_stand.Goals as goal

pub returns : goal.returns
returns c = record {
  right = table_right;
  of_every_rule = record { replies = λ rule rows lent. refl; surveys = λ rule rm lent t. refl };
}
