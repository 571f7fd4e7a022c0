use Rattle.std.proofs.Common.{rules, ◌≡◌, ◌-◌, length, slice_set, w32, to_z, of_z, ap, ◌∙◌}
use Rattle.std.specs.Prelude.{vec_len}
use Rattle.desk.specs.Columns.{widened}
use Rattle.desk.proofs.ColumnLaws.{last_set}
use Rattle.desk.proofs.columns.widen_last.Goals as goal

pub returns-in-Some : goal.returns-in-Some
returns-in-Some c =
    let cs = c.args.columns.now.items in
    let own : to_z w32 (of_z w32 c.args.margin) ≡ c.args.margin = search rules in
    let len : vec_len c.args.columns.now ≡ length cs = search rules in
    ap (λ k. slice_set cs (k - 1) c.with.result) len ∙ ap (slice_set cs (length cs - 1)) (c.with.ensures ∙ ap (widened c.in-Some.last.now) own) ∙ last_set cs c.args.margin c.in-Some.last.now (search rules) (search rules)
