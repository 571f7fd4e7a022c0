use Rattle.std.proofs.Common.{rules, ◌≡◌, ◌+◌, length, Err}
use Rattle.sheets.specs.Layout.{stretch}
use Rattle.sheets.specs.Outlines.{zones}
use Rattle.sheets.specs.Parts.{with_group}
use Rattle.sheets.proofs.Filling.{group_runs_past, group_stays_shut, group_stops, group_fills, in_new_group, in_sheet}
use Rattle.sheets.proofs.reader.Reader.group.Goals as goal

pub returns-in_err-piece-clause-value : goal.returns-in_err-piece-clause-value
returns-in_err-piece-clause-value c o h =
    let is : c.from_residual.result ≡ Err c.in_err-piece.field-0.0 = search rules in
    rw is (group_runs_past o (stretch c.args.holder) _ c.in_err-piece.ensures.value)

pub returns-in_err-zones-clause-value : goal.returns-in_err-zones-clause-value
returns-in_err-zones-clause-value c o h =
    let is : c.from_residual-in_err-zones.result ≡ Err c.in_err-zones.field-0.0 = search rules in
    rw is (group_stays_shut o (stretch c.args.holder) _ _ c.in_ok-piece.ensures.value _ (c.in_err-zones.ensures o.total o.groups (zones o) h))

pub returns-in_err-zones-2-clause-value : goal.returns-in_err-zones-2-clause-value
returns-in_err-zones-2-clause-value c o h =
    let is : c.from_residual-in_err-zones-2.result ≡ Err c.in_err-zones-2.field-0.0 = search rules in
    let opened = c.in_ok-zones.ensures o.total o.groups (zones o) h in
    let begun = in_new_group o.total (length o.groups + 1) (zones o) opened.0 c.open_group.new.self opened.2 opened.3 in
    rw is (group_stops o (stretch c.args.holder) _ _ c.in_ok-piece.ensures.value opened.0 _ opened.1 _ (c.in_err-zones-2.ensures o.total (length o.groups + 1) (zones o) opened.0 begun))

pub returns-clause-value : goal.returns-clause-value
returns-clause-value c o h =
    let opened = c.in_ok-zones.ensures o.total o.groups (zones o) h in
    let begun = in_new_group o.total (length o.groups + 1) (zones o) opened.0 c.open_group.new.self opened.2 opened.3 in
    let full = c.in_ok-zones-2.ensures o.total (length o.groups + 1) (zones o) opened.0 begun in
    (with_group o full.0, group_fills o (stretch c.args.holder) _ _ c.in_ok-piece.ensures.value opened.0 _ opened.1 full.0 full.1, in_sheet o full.0 _ full.2)
