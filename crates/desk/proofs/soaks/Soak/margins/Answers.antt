use Rattle.std.proofs.Common.{rules, codes, refl, ◌∙◌}
use Rattle.std.specs.Prelude.{Some}
use Rattle.std.proofs.Output.{LentTook, writes_in_calls_append, writes_in_calls_nil, WritesText-from_lent}
use Rattle.rules.specs.Places.{place_means}
use Rattle.desk.proofs.TableLaws.{lines_are}
use Rattle.desk.proofs.soaks.Soak.margins.Goals as goal

pub returns-clause-table : goal.returns-clause-table
returns-clause-table g c =
    let took = g.W.Write.write_str_gives in
    let lines = c.in_ok-follow-2.ensures.heard c.over-lines.result (writes_in_calls_nil _ _, refl) in
    let means = place_means c.args.place.now in
    let tail = lines_are (LentTook took) (g.S.Scale.model c.args.self.now.scale) (g.R.Record.model c.args.self.now.«record».now) c.rule-rule.result means.1 means.0 c.follow-2.new.listener.unit g.S.Measured.told_in c.over-lines.result.out c.follow-2.new.listener.out
    (search rules) (search rules) (lines.1 ∙ search rules) lines.0 in
    writes_in_calls_append took _ (codes "poll,margin,verdict\n") c.over-lines.result.out.now _ _ (search rules) (WritesText-from_lent took c.over-lines.result.out c.follow-2.new.listener.out _ (Some _) (λ same. search rules) tail)
