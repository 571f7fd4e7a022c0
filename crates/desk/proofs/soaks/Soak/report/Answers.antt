use Rattle.std.proofs.Common.{◌≡◌, Err, codes, refl, sym, subst, rules}
use Rattle.std.specs.Fmt.{WritesInCalls}
use Rattle.std.proofs.Output.{writes_in_calls_append}
use Rattle.desk.specs.Reports.{title_text, head_text}
use Rattle.desk.specs.Told.{TellsFirst, IsOutput}
use Rattle.desk.specs.declared.report.RuleRow.{RuleRow}
use Rattle.desk.proofs.HearLaws.{outside_tells}
use Rattle.desk.proofs.ReportLaws.{none_reported, row_reported, all_reported}
use Rattle.desk.proofs.RowLaws.{next_place, place_stops}
use Rattle.desk.proofs.soaks.Soak.report.Goals as goal

pub returns-in_err-row-clause-told : goal.returns-in_err-row-clause-told
returns-in_err-row-clause-told g c =
    let sm = g.S.Scale.model c.args.self.now.scale in
    let rm = g.R.Record.model c.args.self.now.«record».now in
    let told : c.from_residual-in_err-row.result ≡ Err c.in_err-row.field-0.0 = search rules in
    subst (TellsFirst IsOutput _) (sym told)
    (place_stops sm rm c.args.places.now c.loop-place.place-index c.place-item.result c.loop-place-test.true c.place-item.is c.loop-place.invariant.0 RuleRow (Unit {0}) c.in_err-row.field-0.0 c.in_err-row.ensures.told)

pub returns-in_err-write_row-clause-told : goal.returns-in_err-write_row-clause-told
returns-in_err-write_row-clause-told g c =
    let told : c.from_residual-in_err-write_row.result ≡ Err c.in_err-write_row.field-0.0 = search rules in
    subst (TellsFirst IsOutput _) (sym told) (outside_tells (Unit {0}) IsOutput _ c.in_err-write_row.field-0.0 c.in_err-write_row.ensures.outside (λ e. tt))

pub loop-place-preserved : goal.loop-place-preserved
loop-place-preserved g c = (
  next_place (g.S.Scale.model c.args.self.now.scale) (g.R.Record.model c.args.self.now.«record».now) c.args.places.now c.loop-place.place-index c.place-item.result c.loop-place-test.true c.place-item.is c.loop-place.invariant.0 c.in_ok-row.ensures.told,
  row_reported g.W.Write.write_str_gives (g.S.Scale.model c.args.self.now.scale) g.S.Measured.told_in c.args.places.now (g.R.Record.model c.args.self.now.«record».now) c.writeln-3.new.self c.loop-place.place-index c.loop-place.smallest c.loop-place.out c.loop-place.invariant.1
      c.place-item.result _ _ _ c.loop-place-test.true c.place-item.is c.in_ok-row.ensures.row c.smaller-smallest.ensures c.in_ok-write_row.ensures.text,
)

pub loop-place-init : goal.loop-place-init
loop-place-init g c = (refl, none_reported g.W.Write.write_str_gives (g.S.Scale.model c.args.self.now.scale) g.S.Measured.told_in c.args.places.now (g.R.Record.model c.args.self.now.«record».now) c.writeln-3.new.self)

pub returns-clause-report : goal.returns-clause-report
returns-clause-report g c =
    let took = g.W.Write.write_str_gives in
    let rm = g.R.Record.model c.args.self.now.«record».now in
    let head : WritesInCalls took c.args.out.now (head_text g.S.Measured.told_in rm.polls) c.writeln-3.new.self =
    writes_in_calls_append took c.args.out.now (title_text g.S.Measured.told_in rm.polls) c.writeln.new.self _ c.writeln-3.new.self (search rules)
    (writes_in_calls_append took c.writeln.new.self (codes "\n") c.writeln-2.new.self _ c.writeln-3.new.self c.in_ok-writeln-2.ensures.writes c.in_ok-writeln-3.ensures.writes) in
    all_reported took (g.S.Scale.model c.args.self.now.scale) g.S.Measured.told_in c.args.places.now rm c.writeln-3.new.self c.loop-place.place-index c.loop-place.smallest c.loop-place.out c.loop-place.invariant.1
    c.args.out.now c.write_smallest.new.out (search rules) head c.in_ok-write_smallest.ensures
