use Rattle.std.proofs.Common.{length, is_ok, sym, ap, ◌∙◌, subst, arith}
use Rattle.entries.specs.Heads.{heads}
use Rattle.rules.specs.Assemble.{assemble}
use Rattle.rules.specs.Nodes.{Noded}
use Rattle.rules.specs.Spans.{Spanned}
use Rattle.rules.specs.Standing.{Read, Tested, Needed}
use Rattle.rules.proofs.Grounds.{fair_true}
use Rattle.rules.proofs.Making.{WalkedAll, is_some, few_entries, horizon_near, read_is, tested_is, need_is, tests_few, widths_few}
use Rattle.rules.proofs.Stacks.{listed-length}
use Rattle.rules.proofs.draft.Draft.rule.Goals as goal

pub cells-requires : goal.cells-requires
cells-requires c =
    let draft = c.args.self.now in
    let w : WalkedAll draft.zone.bits draft.entries.now c.args.lines.rows = record { count = fair_true draft.some draft.few; many = fair_true draft.some_heads draft.few_heads; left = c.requires.left; spanned = c.requires.told.0; room = omega (arith, ap length c.requires.same, listed-length c.args.lines, c.args.lines.room, c.args.lines.few) } in
    record {
      entries = few_entries w;
      horizon = horizon_near w c.index-lines-count.result;
      windows = omega (arith, widths_few w, c.widths.ensures);
      tests = tests_few w c.test_cells-tests.result c.any_zone_test-tests_zone.result c.test_cells-tests.ensures;
    }

pub invariant_of-result : goal.invariant_of-result
invariant_of-result c =
    let draft = c.args.self.now in
    let w : WalkedAll draft.zone.bits draft.entries.now c.args.lines.rows = record { count = fair_true draft.some draft.few; many = fair_true draft.some_heads draft.few_heads; left = c.requires.left; spanned = c.requires.told.0; room = omega (arith, ap length c.requires.same, listed-length c.args.lines, c.args.lines.room, c.args.lines.few) } in
    let z = heads draft.zone.bits in
    let same = sym c.requires.same in
    let n = ap length same ∙ listed-length c.args.lines in
    let found = c.any_zone_test-tests_zone.result in
    record {
      lawful = ap (λ es. is_ok (assemble z es)) (sym same) ∙ ap is_ok (is_some w);
      known = subst (λ es. Spanned z es c.args.lines.rows c.args.lines.count) same (subst (Spanned z draft.entries.now c.args.lines.rows) n c.requires.told.0);
      noded = subst (λ es. Noded z es c.args.lines.rows c.args.lines.count) same (subst (Noded z draft.entries.now c.args.lines.rows) n c.requires.told.1);
      read = subst (λ es. Read z es (heads c.heads_read.result.bits)) same (read_is w c.heads_read.result.bits draft.zone.few c.heads_read.result.few c.heads_read.ensures);
      tested = subst (λ es. Tested z es found) same (tested_is w found c.any_zone_test-tests_zone.ensures);
      needed = subst (λ es. Needed z es c.cells.result) same (need_is w c.cells.result c.widths.result c.test_cells-tests.result found c.index-lines-count.result c.any_zone_test-tests_zone.ensures c.widths.ensures c.test_cells-tests.ensures c.cells.ensures);
    }
