use Rattle.std.proofs.Common.{◌≡◌, ℕ, suc, ◌-◌, Bool, true, false, cond, List, Err, sym, ap, ◌∙◌, add-one, arith}
use Rattle.std.specs.List.{list_any}
use Rattle.formulas.specs.Formula.{among}
use Rattle.sheets.specs.Outlines.{SheetZone}
use Rattle.sheets.specs.Reading.{all_zoned}
use Rattle.sheets.specs.declared.fault.SheetFault.TheVariants.{HeadInNoZone}
use Rattle.sheets.proofs.reader.Reader.all_zoned.Goals as goal

next : (b : Bool) (zs : List SheetZone) (h left : ℕ) → list_any (λ z. among h z.heads) zs ≡ b → all_zoned zs h (suc left) ≡ cond b (all_zoned zs (suc h) left) (Err (HeadInNoZone h))
next b zs h left e = ap (λ t. cond t (all_zoned zs (suc h) left) (Err (HeadInNoZone h))) e

pub returns-then-not-contains : goal.returns-then-not-contains
returns-then-not-contains c zs met =
    let h = c.loop-head.head in
    let left : ℕ = c.args.self.now.total - h - 1 in
    let none : list_any (λ z. among h z.heads) zs ≡ false = sym (met h) ∙ sym c.contains.ensures ∙ c.if-not-contains.true in
    sym (c.loop-head.invariant zs met (suc left) (omega arith) ∙ next false zs h left none)

pub loop-head-preserved : goal.loop-head-preserved
loop-head-preserved c zs met left all =
    let h = c.loop-head.head in
    let some : list_any (λ z. among h z.heads) zs ≡ true = sym (met h) ∙ sym c.contains.ensures ∙ c.if-not-contains.false in
    rw (add-one h) (c.loop-head.invariant zs met (suc left) (omega arith) ∙ next true zs h left some)

pub returns : goal.returns
returns c zs met = sym (c.loop-head.invariant zs met 0 (omega arith))
