use Rattle.std.proofs.Common.{Err, sym, ap, ◌∙◌, ap₂}
use Rattle.std.proofs.lemmas.Result.{err_from_is_err_and}
use Rattle.entries.specs.Heads.{heads}
use Rattle.rules.specs.Assemble.{assemble}
use Rattle.rules.proofs.Assembling.{assembled}
use Rattle.rules.proofs.Grounds.{fair_true, refused}
use Rattle.rules.proofs.Standing.{passes}
use Rattle.rules.proofs.rule.Rule.new.Goals as goal

pub returns-in_err-draft : goal.returns-in_err-draft
returns-in_err-draft c =
    let p = err_from_is_err_and c.from_residual.result c.from_residual.ensures.1 in
    rw p.1 record { value = ap Err p.2 ∙ sym c.in_err-draft.ensures; kept = tt; exactly = assembled (heads c.args.zone.bits) c.args.entries.now }

pub returns-in_err-walk : goal.returns-in_err-walk
returns-in_err-walk c =
    let p = err_from_is_err_and c.from_residual-in_err-walk.result c.from_residual-in_err-walk.ensures.1 in
    let draft = c.in_ok-draft.draft in
    let of = c.in_ok-draft.ensures in
    let is = sym (ap₂ assemble (ap (λ s. heads s.bits) of.1) of.0) ∙ refused _ _ _ (fair_true draft.some draft.few) (fair_true draft.some_heads draft.few_heads) c.in_err-walk.ensures in
    rw p.1 record { value = ap Err p.2 ∙ sym is; kept = tt; exactly = assembled (heads c.args.zone.bits) c.args.entries.now }

pub returns : goal.returns
returns c =
    let r = c.rule.result in
    let entries = c.rule.ensures.entries ∙ c.in_ok-draft.ensures.0 in
    let zone = c.rule.ensures.zone ∙ c.in_ok-draft.ensures.1 in
    record {
      value = sym (passes r).is ∙ ap₂ assemble (ap (λ s. heads s.bits) zone) entries;
      kept = (entries, zone);
      exactly = assembled (heads c.args.zone.bits) c.args.entries.now;
    }
