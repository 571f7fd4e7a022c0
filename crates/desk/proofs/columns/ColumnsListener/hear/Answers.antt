use Rattle.std.proofs.Common.{rules, ◌≡◌, ◌++◌, ◌∷◌, [], w32, to_z, of_z, ap, ◌∙◌, arith}
use Rattle.desk.specs.Columns.{one_margin, with_last}
use Rattle.desk.proofs.ColumnLaws.{widened_columns, column_more}
use Rattle.desk.proofs.columns.ColumnsListener.hear.Goals as goal

pub returns-then-self-clause-heard : goal.returns-then-self-clause-heard
returns-then-self-clause-heard c first answers n few e h =
    let own : to_z w32 (of_z w32 c.args.answered.margin) ≡ c.args.answered.margin = search rules in
    widened_columns c.args.self.now.each c.args.self.now.filled c.args.self.now.columns.items first.each n answers c.args.answered e h c.widen_last.new.columns.items c.if-self.true
    (c.widen_last.ensures ∙ ap (with_last c.args.self.now.columns.items) own)

pub returns-clause-heard : goal.returns-clause-heard
returns-clause-heard c first answers n few e h =
    let own : to_z w32 (of_z w32 c.args.answered.margin) ≡ c.args.answered.margin = search rules in
    let column : c.of-column.result ≡ one_margin c.args.answered.margin = c.of-column.ensures ∙ ap one_margin own in
    let pushed : c.push.new.self.items ≡ c.args.self.now.columns.items ++ c.of-column.result ∷ [] = search rules in
    column_more c.args.self.now.each c.args.self.now.filled c.args.self.now.columns.items first.each n answers c.args.answered e h c.push.new.self.items (λ few. let no = c.if-self.false in omega arith)
    (pushed ∙ ap (λ x. c.args.self.now.columns.items ++ x ∷ []) column)
