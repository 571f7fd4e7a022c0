use Rattle.std.proofs.Common.{rules, ◌≡◌, ◌++◌, Err}
use Rattle.sheets.specs.Layout.{stretch}
use Rattle.sheets.specs.Parts.{with_zone}
use Rattle.sheets.proofs.Filling.{zone_runs_past, zone_stays_shut, zone_stops, zone_fills, in_group}
use Rattle.sheets.proofs.reader.Reader.zone.Goals as goal

pub returns-in_err-piece-clause-value : goal.returns-in_err-piece-clause-value
returns-in_err-piece-clause-value c total groups before x h =
    let is : c.from_residual.result ≡ Err c.in_err-piece.field-0.0 = search rules in
    rw is (zone_runs_past total before x (stretch c.args.holder) _ c.in_err-piece.ensures.value)

pub returns-in_err-zone-clause-value : goal.returns-in_err-zone-clause-value
returns-in_err-zone-clause-value c total groups before x h =
    let is : c.from_residual-in_err-zone.result ≡ Err c.in_err-zone.field-0.0 = search rules in
    rw is (zone_stays_shut total before x (stretch c.args.holder) _ _ c.in_ok-piece.ensures.value _ (c.in_err-zone.ensures.value total groups (before ++ x.zones) h))

pub returns-in_err-rules-clause-value : goal.returns-in_err-rules-clause-value
returns-in_err-rules-clause-value c total groups before x h =
    let is : c.from_residual-in_err-rules.result ≡ Err c.in_err-rules.field-0.0 = search rules in
    let opened = c.in_ok-zone.ensures.value total groups (before ++ x.zones) h in
    rw is (zone_stops total before x (stretch c.args.holder) _ _ c.in_ok-piece.ensures.value opened.0 _ opened.1 _ (c.in_err-rules.ensures total groups (before ++ x.zones) opened.0 opened.2))

pub returns-clause-value : goal.returns-clause-value
returns-clause-value c total groups before x h =
    let opened = c.in_ok-zone.ensures.value total groups (before ++ x.zones) h in
    let full = c.in_ok-rules.ensures total groups (before ++ x.zones) opened.0 opened.2 in (
      with_zone x full.0,
      zone_fills total before x (stretch c.args.holder) _ _ c.in_ok-piece.ensures.value opened.0 _ opened.1 full.0 full.1,
      in_group total groups before x full.0 _ full.2.2,
    )
