use Rattle.std.proofs.Common.{rules, ◌≡◌, Err}
use Rattle.sheets.specs.Layout.{stretch}
use Rattle.sheets.specs.Parts.{group as group_of}
use Rattle.sheets.specs.Standing.{InSheet}
use Rattle.sheets.proofs.ToEndLoop.{goes_on, is_filled, is_stopped}
use Rattle.sheets.proofs.reader.Reader.groups.Goals as goal

pub returns-in_err-left : goal.returns-in_err-left
returns-in_err-left c x h =
    let is : c.from_residual.result ≡ Err c.in_err-left.field-0.0 = search rules in
    rw is (is_stopped InSheet group_of (stretch c.args.holder) c.args.self.now (stretch c.loop-left.left) c.loop-left.self c.group.new.self _ c.loop-left.invariant (search rules) c.in_err-left.ensures.value x h)

pub loop-left-preserved : goal.loop-left-preserved
loop-left-preserved c = goes_on InSheet group_of (stretch c.args.holder) c.args.self.now (stretch c.loop-left.left) c.loop-left.self c.group.new.self c.in_ok-left.left c.loop-left.invariant (search rules) c.in_ok-left.ensures.value c.in_ok-left.ensures.shorter

pub returns : goal.returns
returns c = is_filled InSheet group_of (stretch c.args.holder) c.args.self.now (stretch c.loop-left.left) c.loop-left.self c.loop-left.invariant (search rules)
