-- One entry more changes its own head's mark. Assumes nothing.
use Rattle.std.proofs.Common.{◌≡◌, ◌+◌, ◌-◌, ◌<◌, get_or, take, drop, ap, ◌∙◌, arith}
use Rattle.std.proofs.lemmas.List.{length-set, length-take, length-drop, get_or-take, get_or-drop}
use Rattle.logs.specs.declared.entries.LogEntry.{LogEntry}
use Rattle.logs.specs.Lookup.{blank}
use Rattle.records.specs.Model.{most_heads}
use Rattle.logs.proofs.MarkLaws.{absorbed}
use Rattle.logs.proofs.timeline.Timeline.absorb.Goals as goal

pub loop-i-preserved : goal.loop-i-preserved
loop-i-preserved c =
    let t = c.args.self.now in
    let es = t.entries.now in
    let from = c.args.from in
    let n = c.args.to - from in
    let i = c.loop-i.i in
    let lt : i < n = omega (arith, simp (length-take, length-drop) at c.loop-i-test.true) in
    let is : get_or (take n (drop from es)) i blank ≡ get_or es (from + i) blank = get_or-take n (drop from es) i blank lt ∙ get_or-drop from es i blank in
    let few : (get_or (take n (drop from es)) i blank).head < most_heads = omega (arith, ap (λ (x : LogEntry). x.head) is, t.below (from + i) (omega (arith, c.requires.within)), t.size.few_heads) in
    (absorbed c.loop-i.row es (from + i) (from + (i + 1)) (get_or (take n (drop from es)) i blank) is (omega arith) c.loop-i.invariant.1 few c.loop-i.invariant.0, length-set _ _ _ ∙ c.loop-i.invariant.1)
