use Rattle.std.proofs.Common.{refl, arith}
use Rattle.sheets.proofs.Placing.{counted, too_few, enough, filled}
use Rattle.sheets.proofs.loading.load.Goals as goal

pub returns-then-places-count-clause-value : goal.returns-then-places-count-clause-value
returns-then-places-count-clause-value c =
    let o = c.in_ok-reader.ensures in
    (too_few o.0 c.in_ok-reader.reader o.2 c.as_slice-rules.result.now c.as_slice-rules.ensures.value c.args.sheet.now _ o.1 (omega arith), refl)

pub returns-clause-value : goal.returns-clause-value
returns-clause-value c =
    let o = c.in_ok-reader.ensures in (
      o.0,
      enough o.0 c.in_ok-reader.reader o.2 c.as_slice-rules.result.now c.as_slice-rules.ensures.value c.args.sheet.now _ o.1 (omega arith),
      counted o.0 c.in_ok-reader.reader o.2 c.as_slice-rules.result.now c.as_slice-rules.ensures.value _ c.len.ensures.value,
      rw c.copy_from_slice.ensures.after (filled o.0 c.in_ok-reader.reader o.2 c.as_slice-rules.result.now c.as_slice-rules.ensures.value c.args.places.now (omega arith)),
    )
