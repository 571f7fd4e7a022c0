-- The walk ends at the head's latest entry, or at the mark that names it. Assumes nothing.
use Rattle.std.proofs.Common.{sym, ◌∙◌, arith}
use Rattle.logs.proofs.LookupLaws.{found_near, not_near}
use Rattle.logs.proofs.LookupLaws.{latest_walk}
use Rattle.logs.proofs.MarkLaws.{mark_below, latest_or}
use Rattle.logs.proofs.timeline.Timeline.latest.Goals as goal

pub returns-in_default : goal.returns-in_default
returns-in_default c = c.last_of.ensures ∙ sym (latest_walk c.args.head c.args.poll c.count_upto-end.result c.args.self.now.entries.now c.count_upto-end.ensures)

pub marked-requires : goal.marked-requires
marked-requires c =
    let t = c.args.self.now in
    let u = c.count_upto-end.ensures in
    omega (arith, mark_below t.size.heads t.entries.now _ (t.indexed c.in-Some.marks c.in-Some.is) c.args.head c.args.poll c.count_upto-end.result u c.requires, u.within)

pub returns-then-is_some : goal.returns-then-is_some
returns-then-is_some c =
    let t = c.args.self.now in
    found_near _ _ (sym c.if-is_some.true ∙ c.is_some.ensures)
    ∙ latest_or t.size.heads t.entries.now _ (t.indexed c.in-Some.marks c.in-Some.is) c.args.head c.args.poll c.count_upto-end.result c.count_upto-end.ensures c.requires _ c.last_of-near.ensures

pub returns : goal.returns
returns c =
    let t = c.args.self.now in
    c.marked.ensures
    ∙ not_near _ _ (sym c.if-is_some.false ∙ c.is_some.ensures)
    ∙ latest_or t.size.heads t.entries.now _ (t.indexed c.in-Some.marks c.in-Some.is) c.args.head c.args.poll c.count_upto-end.result c.count_upto-end.ensures c.requires c.last_of-near.result c.last_of-near.ensures
