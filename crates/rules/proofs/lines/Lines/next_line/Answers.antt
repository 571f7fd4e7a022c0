use Rattle.std.proofs.Common.{List, Err, sym, ap, ◌∙◌}
use Rattle.std.proofs.lemmas.Result.{err_from_is_err_and}
use Rattle.formulas.specs.Formula.{Formula}
use Rattle.entries.specs.Decode.{operation_of}
use Rattle.entries.specs.Heads.{heads}
use Rattle.entries.specs.Operations.{model}
use Rattle.std.specs.Option.{option_map}
use Rattle.rules.specs.Spans.{Stacked}
use Rattle.rules.proofs.Reading.{step_noded, bad_noded}
use Rattle.rules.proofs.Steps.{Read, passes, looks_far, leaves_more, decoded}
use Rattle.rules.proofs.lines.Lines.next_line.Goals as goal
use Rattle.rules.proofs.lines.Lines.next_line.Goals.{In_ok-span}

read : (c : In_ok-span) (st : List Formula) → Stacked c.args.self.now.rows c.args.self.now.count st → Read (heads c.args.draft.now.zone.bits) c.args.draft.now.entries.now c.args.self.now.count c.args.self.now.rows st c.size.result (model c.in_ok-op.op) c.in_ok-span.span
read c st h =
    record {
      stacked = h;
      many = c.size.ensures;
      is = sym (ap (option_map model) c.in_ok-op.ensures.ok_part) ∙ c.operation.ensures.value ∙ ap (λ e. operation_of e c.size.result) c.requires.same;
      within = c.in_ok-check_head.ensures;
      made = sym c.in_ok-span.ensures.ok_part ∙ c.span_of.ensures st h;
    }

pub returns-in_err-check_alone : goal.returns-in_err-check_alone
returns-in_err-check_alone c =
    let p = err_from_is_err_and c.from_residual-in_err-check_alone.result c.from_residual-in_err-check_alone.ensures.1 in
    rw p.1 record {
      span = λ st h. ap Err p.2 ∙ leaves_more (read (goal.at.returns-in_err-check_alone c).In_ok-span st h) _ c.in_err-check_alone.ensures;
      node = λ st h. bad_noded _ _ _ (ap Err p.2 ∙ leaves_more (read (goal.at.returns-in_err-check_alone c).In_ok-span st h) _ c.in_err-check_alone.ensures);
      entry = tt;
    }

pub returns-in_err-check_near : goal.returns-in_err-check_near
returns-in_err-check_near c =
    let p = err_from_is_err_and c.from_residual-in_err-check_near.result c.from_residual-in_err-check_near.ensures.1 in
    rw p.1 record {
      span = λ st h. ap Err p.2 ∙ looks_far (read (goal.at.returns-in_err-check_near c).In_ok-span st h) _ c.in_ok-check_alone.ensures c.in_err-check_near.ensures;
      node = λ st h. bad_noded _ _ _ (ap Err p.2 ∙ looks_far (read (goal.at.returns-in_err-check_near c).In_ok-span st h) _ c.in_ok-check_alone.ensures c.in_err-check_near.ensures);
      entry = tt;
    }

pub returns-clause-span : goal.returns-clause-span
returns-clause-span c st h = passes (read (goal.at.returns-clause-span c).In_ok-span st h) c.in_ok-check_alone.ensures c.in_ok-check_near.ensures

pub returns-clause-node : goal.returns-clause-node
returns-clause-node c st h =
    let r = read (goal.at.returns-clause-node c).In_ok-span st h in
    step_noded (heads c.args.draft.now.zone.bits) c.args.draft.now.entries.now c.args.self.now.count st (model c.in_ok-op.op) c.in_ok-span.span _ (decoded r) (c.next_node.ensures st h) (passes r c.in_ok-check_alone.ensures c.in_ok-check_near.ensures)
