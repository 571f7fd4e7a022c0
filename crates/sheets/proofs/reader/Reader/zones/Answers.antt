use Rattle.std.proofs.Common.{rules, ◌≡◌, Err}
use Rattle.sheets.specs.Layout.{stretch}
use Rattle.sheets.specs.Parts.{zone as zone_of}
use Rattle.sheets.specs.Standing.{InGroup}
use Rattle.sheets.proofs.ToEndLoop.{goes_on, is_filled, is_stopped}
use Rattle.sheets.proofs.reader.Reader.zones.Goals as goal

pub returns-in_err-left : goal.returns-in_err-left
returns-in_err-left c total groups before x h =
    let is : c.from_residual.result ≡ Err c.in_err-left.field-0.0 = search rules in
    rw is (is_stopped (InGroup total groups before) (zone_of total before) (stretch c.args.holder) c.args.self.now (stretch c.loop-left.left) c.loop-left.self c.zone.new.self _ (c.loop-left.invariant total groups before) (search rules) (c.in_err-left.ensures.value total groups before) x h)

pub loop-left-preserved : goal.loop-left-preserved
loop-left-preserved c total groups before = goes_on (InGroup total groups before) (zone_of total before) (stretch c.args.holder) c.args.self.now (stretch c.loop-left.left) c.loop-left.self c.zone.new.self c.in_ok-left.left (c.loop-left.invariant total groups before) (search rules) (c.in_ok-left.ensures.value total groups before) c.in_ok-left.ensures.shorter

pub returns : goal.returns
returns c total groups before = is_filled (InGroup total groups before) (zone_of total before) (stretch c.args.holder) c.args.self.now (stretch c.loop-left.left) c.loop-left.self (c.loop-left.invariant total groups before) (search rules)
