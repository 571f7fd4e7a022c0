use Rattle.std.proofs.Common.{rules, ◌≡◌, w32, to_z, of_z, ap, ◌∙◌, subst}
use Rattle.std.specs.Fmt.{WritesInCalls}
use Rattle.desk.specs.Bands.{place_text}
use Rattle.desk.specs.Frames.{down_at, right_at}
use Rattle.desk.proofs.plot.write_point.Goals as goal

pub returns : goal.returns
returns g c =
    let took = g.W.Write.write_str_gives in
    let first = c.args.out.now in
    let last = c.write.new.self in
    let frame = c.args.frame.now in
    let pen = c.args.pen.now in
    let all : WritesInCalls took first (place_text pen c.x-x.result c.y-y.result) last = c.in_ok-write.ensures.writes in
    let down : c.y-y.result ≡ down_at frame c.args.margin = let own : to_z w32 (of_z w32 c.args.margin) ≡ c.args.margin = search rules in c.y-y.ensures ∙ ap (down_at frame) own in
    subst (λ y. WritesInCalls took first (place_text pen (right_at frame.polls c.args.poll) y) last) down (subst (λ x. WritesInCalls took first (place_text pen x c.y-y.result) last) c.x-x.ensures all)
