-- Row by row the marks become the index. Assumes nothing.
use Rattle.std.proofs.Common.{◌≡◌, ◌+◌, ◌*◌, ◌/◌, ◌≤◌, min, length, get_or, refl, ap, ◌∙◌, arith}
use Rattle.std.proofs.lemmas.List.{get_or-replicate, get_or-take, length-take-le}
use Rattle.records.specs.Model.{most_heads}
use Rattle.logs.specs.Marks.{mark}
use Rattle.logs.proofs.MarkLaws.{row_end, rows_more}
use Rattle.logs.proofs.timeline.Timeline.fill.Goals as goal

pub loop-b-init : goal.loop-b-init
loop-b-init c =
    let z : 0 ≡ min 0 (length c.args.self.now.entries.now) = omega arith in
    ((λ b h lt o. absurd (omega arith)), (λ h o. get_or-replicate most_heads h 0 0 o ∙ ap (mark h c.args.self.now.entries.now) z), refl)

pub loop-b-preserved : goal.loop-b-preserved
loop-b-preserved c =
    let t = c.args.self.now in
    let es = t.entries.now in
    let n = c.loop-b.b in
    let heads = t.size.heads in
    let inv = c.loop-b.invariant in
    let e : n * heads + heads ≤ length c.args.marks.now = row_end heads (length es / 256 + 1) n _ c.requires (omega arith) in
    let within : n * heads + heads ≤ length c.loop-b.marks = omega (arith, c.loop-b.auto.marks) in
    let at : min (n * 256) (length es) ≡ n * 256 = omega arith in
    let to : c.min-to.result ≡ min ((n + 1) * 256) (length es) = omega (arith, c.min-to.ensures, c.saturating_add.ensures) in
    let copied = c.copy_from_slice.ensures.after in (
      rows_more heads n _ c.loop-b.marks c.copy_from_slice.new.self es (omega arith)
          (ap length copied ∙ length-take-le heads c.loop-b.row (omega (arith, inv.2, t.size.few_heads)))
          inv.0
          (λ h o. ap (λ ms. get_or ms h 0) copied ∙ get_or-take heads c.loop-b.row h 0 o ∙ inv.1 h (omega (arith, t.size.few_heads)) ∙ ap (mark h es) at),
      (λ h o. c.absorb.ensures h o ∙ ap (mark h es) to),
      c.absorb.array_long,
    )
