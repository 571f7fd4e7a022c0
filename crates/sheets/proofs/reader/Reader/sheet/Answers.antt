use Rattle.std.proofs.Common.{rules, ◌≡◌, Err, sym}
use Rattle.sheets.specs.Layout.{byte_at}
use Rattle.sheets.specs.Outlines.{zones}
use Rattle.sheets.proofs.WholeSheet.{bare, not_whole, no_total, wrong_total, groups_stop, head_left_out, all_read, same_total}
use Rattle.sheets.proofs.reader.Reader.sheet.Goals as goal

pub returns-in_err-piece : goal.returns-in_err-piece
returns-in_err-piece c =
    let is : c.from_residual.result ≡ Err c.in_err-piece.field-0.0 = search rules in
    rw is (not_whole c.args.sheet.now _ c.in_err-piece.ensures)

pub returns-in_err-total : goal.returns-in_err-total
returns-in_err-total c =
    let is : c.from_residual-in_err-total.result ≡ Err c.in_err-total.field-0.0 = search rules in
    rw is (no_total c.args.sheet.now _ c.in_ok-piece.ensures _ c.in_err-total.ensures.value)

pub returns-in_err-check_total : goal.returns-in_err-check_total
returns-in_err-check_total c =
    let is : c.from_residual-in_err-check_total.result ≡ Err c.in_err-check_total.field-0.0 = search rules in
    rw is (wrong_total c.args.sheet.now _ c.in_ok-piece.ensures _ c.in_ok-total.ensures.value _ (sym c.in_err-check_total.ensures.value))

pub returns-in_err-groups : goal.returns-in_err-groups
returns-in_err-groups c =
    let is : c.from_residual-in_err-groups.result ≡ Err c.in_err-groups.field-0.0 = search rules in
    rw is (groups_stop c.args.sheet.now _ c.in_ok-piece.ensures _ c.in_ok-total.ensures.value (sym c.in_ok-check_total.ensures.value) _ (c.in_err-groups.ensures (bare (byte_at 0 c.in_ok-total.field-0-0)) c.new-reader.ensures))

pub returns-in_err-all_zoned : goal.returns-in_err-all_zoned
returns-in_err-all_zoned c =
    let is : c.from_residual-in_err-all_zoned.result ≡ Err c.in_err-all_zoned.field-0.0 = search rules in
    let o = c.in_ok-groups.ensures (bare (byte_at 0 c.in_ok-total.field-0-0)) c.new-reader.ensures in
    rw is (head_left_out c.args.sheet.now _ c.in_ok-piece.ensures _ c.in_ok-total.ensures.value (sym c.in_ok-check_total.ensures.value) o.0 o.1 _
    (same_total (zones o.0) _ _ _ o.2.card (c.in_err-all_zoned.ensures (zones o.0) o.2.heads_met)))

pub returns : goal.returns
returns c =
    let o = c.in_ok-groups.ensures (bare (byte_at 0 c.in_ok-total.field-0-0)) c.new-reader.ensures in (
      o.0,
      all_read c.args.sheet.now _ c.in_ok-piece.ensures _ c.in_ok-total.ensures.value (sym c.in_ok-check_total.ensures.value) o.0 o.1
          (same_total (zones o.0) _ _ _ o.2.card (c.in_ok-all_zoned.ensures (zones o.0) o.2.heads_met)),
      o.2,
    )
