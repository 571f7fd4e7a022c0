use Rattle.std.proofs.Common.{arith}
use Rattle.desk.proofs.ColumnLaws.{no_columns}
use Rattle.desk.proofs.columns.Columns.over.Goals as goal

pub returns-clause-columns : goal.returns-clause-columns
returns-clause-columns c answers = no_columns c.max-each.result _ answers (omega arith) c.new.ensures.items
