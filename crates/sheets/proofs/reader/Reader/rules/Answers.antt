use Rattle.std.proofs.Common.{rules, ◌≡◌, Err, sym, subst}
use Rattle.sheets.specs.Layout.{stretch}
use Rattle.sheets.specs.Parts.{rule as rule_of}
use Rattle.sheets.specs.Standing.{Fills, InZone}
use Rattle.sheets.proofs.ToEndLoop.{goes_on, is_filled, is_stopped}
use Rattle.sheets.proofs.reader.Reader.rules.Goals as goal

pub returns-in_err-left : goal.returns-in_err-left
returns-in_err-left c total groups before =
    let adds = c.in_err-left.ensures.value total groups before in
    let stopped = is_stopped (InZone total groups before c.args.zone) (rule_of before) (stretch c.args.holder) c.args.self.now (stretch c.loop-left.left) c.loop-left.self c.rule.new.self _ (c.loop-left.invariant total groups before) (search rules) adds in
    let is : c.from_residual.result ≡ Err c.in_err-left.field-0.0 = search rules in
    subst (λ r. Fills (InZone total groups before c.args.zone) (rule_of before) (stretch c.args.holder) c.args.self.now c.rule.new.self r) (sym is) stopped

pub loop-left-preserved : goal.loop-left-preserved
loop-left-preserved c total groups before = goes_on (InZone total groups before c.args.zone) (rule_of before) (stretch c.args.holder) c.args.self.now (stretch c.loop-left.left) c.loop-left.self c.rule.new.self c.in_ok-left.left (c.loop-left.invariant total groups before) (search rules) (c.in_ok-left.ensures.value total groups before) c.in_ok-left.ensures.shorter

pub returns : goal.returns
returns c total groups before = is_filled (InZone total groups before c.args.zone) (rule_of before) (stretch c.args.holder) c.args.self.now (stretch c.loop-left.left) c.loop-left.self (c.loop-left.invariant total groups before) (search rules)
