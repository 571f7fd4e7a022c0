use Rattle.std.proofs.Common.{rules, ◌≡◌, w32, to_z, of_z, ap, ◌∙◌, subst}
use Rattle.std.specs.Fmt.{WritesInCalls}
use Rattle.std.proofs.Output.{writes_in_calls_append}
use Rattle.desk.specs.Frames.{down_at, right_at}
use Rattle.desk.specs.Pictures.{nearest_text, plumb_text, ring_text, ringed_at, tag_text}
use Rattle.desk.proofs.soaks.Soak.write_nearest.Goals as goal

pub returns : goal.returns
returns g c =
    let took = g.W.Write.write_str_gives in
    let unit = g.S.Measured.told_in in
    let first = c.args.out.now in
    let last = c.writeln-3.new.self in
    let a = c.args.nearest in
    let frame = c.args.frame.now in
    let ring : WritesInCalls took first (ring_text c.x-x.result c.y-y.result) c.writeln.new.self = c.in_ok-writeln.ensures.writes in
    let plumb : WritesInCalls took c.writeln.new.self (plumb_text c.x-x.result) c.writeln-2.new.self = c.in_ok-writeln-2.ensures.writes in
    let tag : WritesInCalls took c.writeln-2.new.self tag_text c.write.new.self = c.in_ok-write.ensures.writes in
    let words : WritesInCalls took c.write.new.self (nearest_text unit a) last = search rules in
    let all : WritesInCalls took first (ringed_at unit c.x-x.result c.y-y.result a) last =
    writes_in_calls_append took first (ring_text c.x-x.result c.y-y.result) c.writeln.new.self _ last ring
    (writes_in_calls_append took c.writeln.new.self (plumb_text c.x-x.result) c.writeln-2.new.self _ last plumb (writes_in_calls_append took c.writeln-2.new.self tag_text c.write.new.self (nearest_text unit a) last tag words)) in
    let along : c.x-x.result ≡ right_at frame.polls a.poll = c.x-x.ensures in
    let down : c.y-y.result ≡ down_at frame a.margin = let own : to_z w32 (of_z w32 a.margin) ≡ a.margin = search rules in c.y-y.ensures ∙ ap (down_at frame) own in
    subst (λ y. WritesInCalls took first (ringed_at unit (right_at frame.polls a.poll) y a) last) down (subst (λ x. WritesInCalls took first (ringed_at unit x c.y-y.result a) last) along all)
