use Rattle.std.proofs.Common.{rules, ◌≡◌, ◌++◌, Err, refl, sym, ◌∙◌}
use Rattle.entries.specs.Heads.{heads}
use Rattle.rules.specs.Rules.{formula, zone as zone_heads}
use Rattle.sheets.specs.Layout.{stretch, piece, word_at}
use Rattle.sheets.specs.Loading.{line, line_of}
use Rattle.sheets.specs.Outlines.{SheetRule, rules_of}
use Rattle.sheets.specs.Parts.{with_rule}
use Rattle.sheets.proofs.RuleReading.{no_piece, no_kind, no_fields, bad_number, bad_formula, is_read, line_is, numbers_met, one_rule, word_is}
use Rattle.sheets.proofs.reader.Reader.rule.Goals as goal

pub returns-in_err-piece-clause-value : goal.returns-in_err-piece-clause-value
returns-in_err-piece-clause-value c total groups before x stands =
    let is : c.from_residual.result ≡ Err c.in_err-piece.field-0.0 = search rules in
    rw is (no_piece before x (stretch c.args.holder) c.in_err-piece.ensures.value)

pub returns-in_err-of_kind-clause-value : goal.returns-in_err-of_kind-clause-value
returns-in_err-of_kind-clause-value c total groups before x stands =
    let is : c.from_residual-in_err-of_kind.result ≡ Err c.in_err-of_kind.field-0.0 = search rules in
    rw is (no_kind before x (stretch c.args.holder) c.in_ok-piece.ensures.value c.in_err-of_kind.ensures)

pub returns-in_err-number-clause-value : goal.returns-in_err-number-clause-value
returns-in_err-number-clause-value c total groups before x stands =
    let is : c.from_residual-in_err-number.result ≡ Err c.in_err-number.field-0.0 = search rules in
    rw is (no_fields before x (stretch c.args.holder) c.in_ok-piece.ensures.value c.in_ok-of_kind.ensures c.in_err-number.ensures.value)

pub returns-in_err-check_rule-clause-value : goal.returns-in_err-check_rule-clause-value
returns-in_err-check_rule-clause-value c total groups before x stands =
    let word : c.from_le_bytes-number.result ≡ word_at 0 c.in_ok-number.number = c.from_le_bytes-number.ensures ∙ word_is (piece c.in_ok-of_kind.field-0) c.in_ok-number.number (stretch c.in_ok-number.inside) c.in_ok-number.ensures.value in
    let is : c.from_residual-in_err-check_rule.result ≡ Err c.in_err-check_rule.field-0.0 = search rules in
    rw is (bad_number before x (stretch c.args.holder) c.in_ok-piece.ensures.value c.in_ok-of_kind.ensures c.from_le_bytes-number.result c.in_ok-number.ensures.value word (sym (c.in_err-check_rule.ensures.value (rules_of before ++ x.rules) (numbers_met before x stands.2))))

pub returns-in_err-rule-clause-value : goal.returns-in_err-rule-clause-value
returns-in_err-rule-clause-value c total groups before x stands =
    let word : c.from_le_bytes-number.result ≡ word_at 0 c.in_ok-number.number = c.from_le_bytes-number.ensures ∙ word_is (piece c.in_ok-of_kind.field-0) c.in_ok-number.number (stretch c.in_ok-number.inside) c.in_ok-number.ensures.value in
    let is : c.from_residual-in_err-rule.result ≡ Err c.in_err-rule.field-0.0 = search rules in
    rw is (bad_formula before x (stretch c.args.holder) c.in_ok-piece.ensures.value c.in_ok-of_kind.ensures c.from_le_bytes-number.result c.in_ok-number.ensures.value word _ (sym (c.in_ok-check_rule.ensures.value (rules_of before ++ x.rules) (numbers_met before x stands.2))) stands.1 c.in_err-rule.ensures.value)

pub returns-clause-value : goal.returns-clause-value
returns-clause-value c total groups before x stands =
    let word : c.from_le_bytes-number.result ≡ word_at 0 c.in_ok-number.number = c.from_le_bytes-number.ensures ∙ word_is (piece c.in_ok-of_kind.field-0) c.in_ok-number.number (stretch c.in_ok-number.inside) c.in_ok-number.ensures.value in
    let read : SheetRule = record { number = c.from_le_bytes-number.result; formula = formula c.in_ok-rule.rule } in
    let is : line c.new.result ≡ line_of x read = line_is c.new.result x read c.args.zone.number (heads c.args.zone.heads.bits) (zone_heads c.in_ok-rule.rule) c.new.ensures.rule c.new.ensures.numbers stands.0 stands.1 c.in_ok-rule.ensures.zone in (
      with_rule x read,
      is_read before x (stretch c.args.holder) c.in_ok-piece.ensures.value c.in_ok-of_kind.ensures c.from_le_bytes-number.result c.in_ok-number.ensures.value word _ (sym (c.in_ok-check_rule.ensures.value (rules_of before ++ x.rules) (numbers_met before x stands.2))) stands.1 c.in_ok-rule.ensures.value,
      (
        stands.0,
        stands.1,
        one_rule before x stands.2 c.new.result read _ is c.push.ensures.items refl refl refl refl,
      ),
    )
