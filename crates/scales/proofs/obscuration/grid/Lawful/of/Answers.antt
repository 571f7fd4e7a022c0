use Rattle.std.proofs.Common.{◌≡◌, ℤ, nat_abs, leb, false, subst, to_z-of_z, w32, to_z, of_z, rules}
use Rattle.scales.proofs.GridReadings.{no_steps}
use Rattle.scales.proofs.obscuration.grid.Lawful.of.Goals as goal

pub returns-then-not-in_range-clause-steps : goal.returns-then-not-in_range-clause-steps
returns-then-not-in_range-clause-steps c =
    let z = c.to_steps-steps.result in
    let read : to_z w32 (of_z w32 z) ≡ z = to_z-of_z {w = w32} (search rules) in
    no_steps c.args.reading z c.to_steps-steps.ensures (subst (λ (i : ℤ). false ≡ leb (nat_abs i) 1048576) read c.if-not-in_range.ensures)
