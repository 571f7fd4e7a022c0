use Rattle.std.proofs.Common.{rules, tests, ◌≡◌, ◌==◌, true, false, nat_lt, sym, ◌∙◌, length}
use Rattle.std.specs.List.{list_any}
use Rattle.std.proofs.lemmas.Iterator.{YieldsList-from_slice}
use Rattle.std.proofs.lemmas.Iterator.Search.{any_from_yields_List}
use Rattle.rules.specs.declared.place.RulePlace.{RulePlace}
use Rattle.sheets.specs.Outlines.{SheetRule}
use Rattle.sheets.proofs.Numbers.{same_numbers, same_count}
use Rattle.sheets.proofs.reader.Reader.check_rule.Goals as goal

pub returns-then-any-clause-value : goal.returns-then-any-clause-value
returns-then-any-clause-value c rs same =
    let any : c.any.result ≡ list_any (λ p. p.rule_number == c.args.number) c.args.self.now.rules.items = any_from_yields_List (λ p. p.rule_number == c.args.number) _ _ _ c.any.ensures.ran (YieldsList-from_slice c.args.self.now.rules.items cc) (λ x b q k. search (rules, tests)) in
    let found : list_any (λ r. r.number == c.args.number) rs ≡ true = sym (same_numbers (λ p. p.rule_number) (λ r. r.number) c.args.number c.args.self.now.rules.items rs same) ∙ sym any ∙ c.if-any.true in
    rw found

pub returns-then-is_full-clause-value : goal.returns-then-is_full-clause-value
returns-then-is_full-clause-value c rs same =
    let any : c.any.result ≡ list_any (λ p. p.rule_number == c.args.number) c.args.self.now.rules.items = any_from_yields_List (λ p. p.rule_number == c.args.number) _ _ _ c.any.ensures.ran (YieldsList-from_slice c.args.self.now.rules.items cc) (λ x b q k. search (rules, tests)) in
    let none : list_any (λ r. r.number == c.args.number) rs ≡ false = sym (same_numbers (λ p. p.rule_number) (λ r. r.number) c.args.number c.args.self.now.rules.items rs same) ∙ sym any ∙ c.if-any.false in
    let count = same_count (λ (p : RulePlace). p.rule_number) (λ (r : SheetRule). r.number) c.args.self.now.rules.items rs same in
    let full : nat_lt (length rs) 64 ≡ false = search (rules, count) in
    rw (none, full)

pub returns-clause-value : goal.returns-clause-value
returns-clause-value c rs same =
    let any : c.any.result ≡ list_any (λ p. p.rule_number == c.args.number) c.args.self.now.rules.items = any_from_yields_List (λ p. p.rule_number == c.args.number) _ _ _ c.any.ensures.ran (YieldsList-from_slice c.args.self.now.rules.items cc) (λ x b q k. search (rules, tests)) in
    let none : list_any (λ r. r.number == c.args.number) rs ≡ false = sym (same_numbers (λ p. p.rule_number) (λ r. r.number) c.args.number c.args.self.now.rules.items rs same) ∙ sym any ∙ c.if-any.false in
    let count = same_count (λ (p : RulePlace). p.rule_number) (λ (r : SheetRule). r.number) c.args.self.now.rules.items rs same in
    let free : nat_lt (length rs) 64 ≡ true = search (rules, count) in
    rw (none, free)
