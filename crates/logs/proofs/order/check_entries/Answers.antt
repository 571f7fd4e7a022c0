-- The stamps tell which head comes twice, so the first fault is found. Assumes nothing.
use Rattle.std.proofs.Common.{◌+◌, ◌<◌, eqb, reverse, get_or, take, sym, refl, ap, ◌∙◌, subst, arith}
use Rattle.std.proofs.lemmas.List.{get_or-replicate, length-set}
use Rattle.std.proofs.lemmas.Result.{err_from_is_err_and}
use Rattle.faults.specs.Checks.{checked}
use Rattle.logs.specs.Log.{floor}
use Rattle.logs.specs.Lookup.{blank}
use Rattle.records.specs.Model.{most_heads}
use Rattle.records.proofs.ModelLaws.{this_fault, no_fault}
use Rattle.logs.proofs.OrderLaws.{by_order, in_place, fault_on, fault_here, stamped, before_more, holds_up, Falling, stamp}
use Rattle.logs.proofs.order.check_entries.Goals as goal

pub loop-entry-init : goal.loop-entry-init
loop-entry-init c = (refl, refl, tt, (λ h o. get_or-replicate most_heads h 0 0 o), refl)

pub returns-in_err-check_order : goal.returns-in_err-check_order
returns-in_err-check_order c =
    let p = err_from_is_err_and c.from_residual-in_err-check_order.result c.from_residual-in_err-check_order.ensures.1 in
    let es = c.args.entries.now in
    let i = c.loop-entry.entry in
    let inv = c.loop-entry.invariant in
    let bs = reverse (take i es) in
    let e = get_or es i blank in
    let low : e.head < most_heads = omega (arith, (in_place c.args.size.heads c.args.size.polls i e (no_fault _ c.in_ok-check_place.ensures)).1, c.args.size.few_heads) in
    let twice = ap (λ n. eqb n (e.poll + 1)) (inv.3 e.head low) in
    let is = by_order c.args.size.heads c.args.size.polls i bs e _ c.loop-entry.before inv.1 inv.2 twice c.in_ok-check_place.ensures in
    rw (p.1, p.2) (ap checked (sym (inv.0 ∙ fault_here c.args.size.heads c.args.size.polls es i c.loop-entry-test.true _ (is ∙ this_fault _ _ c.in_err-check_order.ensures))))

pub loop-entry-preserved : goal.loop-entry-preserved
loop-entry-preserved c =
    let es = c.args.entries.now in
    let i = c.loop-entry.entry in
    let inv = c.loop-entry.invariant in
    let bs = reverse (take i es) in
    let e = get_or es i blank in
    let low : e.head < most_heads = omega (arith, (in_place c.args.size.heads c.args.size.polls i e (no_fault _ c.in_ok-check_place.ensures)).1, c.args.size.few_heads) in
    let twice = ap (λ n. eqb n (e.poll + 1)) (inv.3 e.head low) in
    let is = by_order c.args.size.heads c.args.size.polls i bs e _ c.loop-entry.before inv.1 inv.2 twice c.in_ok-check_place.ensures in
    let ok = is ∙ no_fault _ c.in_ok-check_order.ensures in
    let more = before_more es i c.loop-entry-test.true in (
      inv.0 ∙ fault_on c.args.size.heads c.args.size.polls es i c.loop-entry-test.true ok,
      sym (ap floor more),
      subst Falling (sym more) (holds_up c.args.size.heads c.args.size.polls i bs e ok, inv.2),
      (λ h o. stamped c.loop-entry.stamps bs e inv.4 low inv.3 h o ∙ sym (ap (stamp h) more)),
      length-set _ _ _ ∙ inv.4,
    )
