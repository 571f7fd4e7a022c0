use Rattle.std.proofs.Common.{rules, ◌≡◌, ◌<◌, ◌≤◌, Err, sym, refl, arith}
use Rattle.sheets.specs.Formulas.{formula_by}
use Rattle.sheets.specs.Layout.{stretch}
use Rattle.sheets.proofs.Drafting.{no_piece, no_kind, no_entry, no_room, taken_fails, bytes_left, is_closed, none_more, first_fails, more}
use Rattle.sheets.proofs.draft.Draft.+formulas.Goals as goal

pub formula-returns-in_err-piece-clause-value : goal.formula-returns-in_err-piece-clause-value
formula-returns-in_err-piece-clause-value t c depth enough =
    let is : c.from_residual.result ≡ Err c.in_err-piece.field-0.0 = search rules in
    rw is (no_piece depth c.args.self.now.room (stretch c.args.holder) c.in_err-piece.ensures.value)

pub formula-returns-in_err-kind-clause-value : goal.formula-returns-in_err-kind-clause-value
formula-returns-in_err-kind-clause-value t c depth enough =
    let is : c.from_residual-in_err-kind.result ≡ Err c.in_err-kind.field-0.0 = search rules in
    rw is (no_kind depth c.args.self.now.room (stretch c.args.holder) c.in_ok-piece.ensures.value c.in_err-kind.ensures)

pub formula-returns-in_err-entry-clause-value : goal.formula-returns-in_err-entry-clause-value
formula-returns-in_err-entry-clause-value t c depth enough =
    let is : c.from_residual-in_err-entry.result ≡ Err c.in_err-entry.field-0.0 = search rules in
    rw is (no_entry depth c.args.self.now.room (stretch c.args.holder) c.in_ok-piece.ensures.value c.in_ok-kind.ensures c.in_err-entry.ensures.value)

pub formula-returns-in_err-begin-clause-value : goal.formula-returns-in_err-begin-clause-value
formula-returns-in_err-begin-clause-value t c depth enough =
    let is : c.from_residual-in_err-begin.result ≡ Err c.in_err-begin.field-0.0 = search rules in
    rw is (no_room depth c.args.self.now.room (stretch c.args.holder) c.in_ok-piece.ensures.value c.in_ok-kind.ensures c.in_ok-entry.ensures.value enough (sym c.in_err-begin.ensures.value))

pub formula-operands-requires-2 : goal.formula-operands-requires-2
formula-operands-requires-2 t c = (omega (arith, c.in_ok-entry.ensures.shorter, c.in_ok-piece.ensures.inside, c.decreases), tt)

pub formula-returns-in_err-left-clause-value : goal.formula-returns-in_err-left-clause-value
formula-returns-in_err-left-clause-value t c depth enough =
    let is : c.from_residual-in_err-left.result ≡ Err c.in_err-left.field-0.0 = search rules in
    rw is (taken_fails depth (stretch c.args.holder) c.in_ok-piece.behind c.in_ok-entry.entry c.in_ok-entry.inside c.operands.result c.args.self.now c.begin.new.self c.operands-2.new.self c.in_ok-piece.ensures.value c.in_ok-kind.ensures c.in_ok-entry.ensures.value enough (sym c.in_ok-begin.ensures.value) c.in_ok-begin.ensures.room c.operands.ensures c.in_err-left.ensures.value)

pub formula-returns-in_err-end-clause-value : goal.formula-returns-in_err-end-clause-value
formula-returns-in_err-end-clause-value t c depth enough =
    let is : c.from_residual-in_err-end.result ≡ Err c.in_err-end.field-0.0 = search rules in
    rw is (bytes_left depth (stretch c.args.holder) c.in_ok-piece.behind c.in_ok-entry.entry c.in_ok-entry.inside c.operands.result c.args.self.now c.begin.new.self c.operands-2.new.self c.in_ok-piece.ensures.value c.in_ok-kind.ensures c.in_ok-entry.ensures.value enough (sym c.in_ok-begin.ensures.value) c.in_ok-begin.ensures.room c.operands.ensures c.in_ok-left.left c.in_ok-left.ensures.value (sym c.in_err-end.ensures))

pub formula-returns-clause-value : goal.formula-returns-clause-value
formula-returns-clause-value t c depth enough = is_closed depth (stretch c.args.holder) c.in_ok-piece.behind c.in_ok-entry.entry c.in_ok-entry.inside c.operands.result c.args.self.now c.begin.new.self c.operands-2.new.self c.in_ok-piece.ensures.value c.in_ok-kind.ensures c.in_ok-entry.ensures.value enough (sym c.in_ok-begin.ensures.value) c.in_ok-begin.ensures.room c.operands.ensures c.in_ok-left.left c.in_ok-left.ensures.value _ (sym c.in_ok-end.ensures) c.in_ok-begin.ensures.entries c.push.ensures.items refl

pub operands-returns-then-count-eq0-clause-value : goal.operands-returns-then-count-eq0-clause-value
operands-returns-then-count-eq0-clause-value t c depth enough = rw c.if-count-eq0.true (none_more (formula_by depth) c.args.self.now c.args.holder)

pub operands-formula-requires : goal.operands-formula-requires
operands-formula-requires t c = (omega (arith, c.decreases), tt)

pub operands-returns-in_err-behind-clause-value : goal.operands-returns-in_err-behind-clause-value
operands-returns-in_err-behind-clause-value t c depth enough =
    let is : c.from_residual.result ≡ Err c.in_err-behind.field-0.0 = search rules in
    let some : 0 < c.args.count = omega arith in
    rw is (first_fails (formula_by depth) c.args.count (stretch c.args.holder) some (c.in_err-behind.ensures.value depth enough))

pub operands-operands-requires : goal.operands-operands-requires
operands-operands-requires t c = (omega (arith, c.in_ok-behind.ensures.shorter, c.decreases), tt)

pub operands-returns-clause-value : goal.operands-returns-clause-value
operands-returns-clause-value t c depth enough =
    let some : 0 < c.args.count = omega arith in
    let less : c.formula.new.self.room ≤ depth = omega (arith, c.in_ok-behind.ensures.level, enough) in
    more (formula_by depth) c.args.count (stretch c.args.holder) some c.args.self.now c.formula.new.self c.operands.new.self c.in_ok-behind.behind c.operands.result (c.in_ok-behind.ensures.value depth enough) (c.operands.ensures.value depth less)
