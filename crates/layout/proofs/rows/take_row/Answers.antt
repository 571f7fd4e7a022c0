use Rattle.std.proofs.Common.{◌+◌, ◌*◌, true, length, subst, sym, refl, ap₂, arith}
use Rattle.layout.specs.Shape.{shape}
use Rattle.layout.specs.Rows.{Advanced}
use Rattle.layout.specs.Steps.{row_at}
use Rattle.layout.proofs.Shapes.{lawful, ready}
use Rattle.layout.proofs.Passes.{EnteredTo, entered_start, entered_next, entered_all}
use Rattle.layout.proofs.Holdings.{advanced}
use Rattle.layout.proofs.rows.take_row.Goals as goal

pub loop-at-init : goal.loop-at-init
loop-at-init g c = entered_start (lawful c.args.rule.now) (ap₂ ◌*◌ c.len.ensures.value c.ring_size.ensures)

pub pass-to-requires : goal.pass-to-requires
pass-to-requires g c = record { below = omega arith; begins = c.loop-at.invariant.place; enough = omega (arith, (ready c.args.rule.now _ (length c.args.cells.now) c.need.ensures (omega arith)).enough, c.loop-at.invariant.long) }

pub loop-at-preserved : goal.loop-at-preserved
loop-at-preserved g c =
    let r = c.args.rule.now in
    subst (λ from. EnteredTo (g.S.Scale.model c.args.scale.now) (shape r) (row_at (g.R.Record.model c.args.«record».now) c.args.poll) c.within-rows.result.count (c.loop-at.at + 1) from c.pass-to.result.1 c.args.cells.now c.pass-to.new.cells) (sym c.pass-to.ensures.end)
    (entered_next (omega arith) refl c.pass-to.ensures.leaves c.pass-to.ensures.entered c.loop-at.invariant)

pub returns : goal.returns
returns g c =
    subst (λ n. Advanced (g.S.Scale.model c.args.scale.now) c.args.rule.now (row_at (g.R.Record.model c.args.«record».now) c.args.poll) n c.args.cells.now c.loop-at.cells true) c.within-rows.ensures.count
    (advanced c.need.ensures (omega arith) (entered_all (omega arith) c.loop-at.invariant))
