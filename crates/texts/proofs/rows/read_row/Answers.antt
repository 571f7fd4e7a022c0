-- A field more is a reading more. Assumes nothing.
use Rattle.std.proofs.Common.{◌+◌, ◌-◌, ◌++◌, length, replicate, flat_map, sym, ap, ◌∙◌, arith}
use Rattle.std.proofs.lemmas.List.{length-append}
use Rattle.texts.specs.Fields.{ahead, left, defect_of}
use Rattle.texts.specs.Grids.{number_in}
use Rattle.texts.proofs.RowLaws.{one_less, one_number}
use Rattle.texts.proofs.rows.read_row.Goals as goal

pub loop-head-preserved : goal.loop-head-preserved
loop-head-preserved g c =
    let w = g.T.Written.written in
    let n = c.args.heads in
    let i = c.loop-head._head in
    let test = defect_of w in
    let taken = c.in_ok-take.ensures in
    let before = c.loop-head.fields in
    let after = c.take.new.self in
    record {
      fault = sym (taken.fault (replicate (n - (i + 1)) test)) ∙ ap (ahead before) (sym (one_less test n i (omega arith))) ∙ c.loop-head.invariant.fault;
      readings = ap (λ items. items ++ flat_map (number_in w) (left after)) c.in_ok-push.ensures.items
          ∙ one_number w c.loop-head.readings.items c.in_ok-take.field-0 taken.number.0 (left before) (left after) taken.number.1 taken.number.2
          ∙ c.loop-head.invariant.readings;
      filled = omega (arith, simp length-append at (ap length c.in_ok-push.ensures.items), c.loop-head.invariant.filled);
    }
