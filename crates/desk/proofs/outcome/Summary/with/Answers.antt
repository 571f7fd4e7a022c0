use Rattle.std.proofs.Common.{◌≡◌, ◌+◌, true, false, cond, refl, sym, ◌∙◌, arith}
use Rattle.desk.proofs.SummaryLaws.{byte_is, one_at_most, room, more_summary, nearest_more}
use Rattle.desk.proofs.outcome.Summary.with.Goals as goal

pub returns-then-is_nearer : goal.returns-then-is_nearer
returns-then-is_nearer c answers n few e old =
    let small = room answers n few c.args.self c.args.next e old in
    let more : c.saturating_add.result ≡ c.args.self.polls + 1 = omega arith in
    let one : c.from.result ≡ cond c.args.next.yes 1 0 = c.from.ensures ∙ byte_is c.args.next.yes in
    let most = one_at_most c.args.next.yes in
    let yes : c.saturating_add-2.result ≡ c.args.self.yes + cond c.args.next.yes 1 0 = omega arith in
    more_summary answers n few c.args.self c.args.next e old _ more yes refl
    (nearest_more answers n few c.args.self c.args.next e old true _ (sym c.if-is_nearer.true ∙ c.is_nearer.ensures) refl)

pub returns-else-is_nearer : goal.returns-else-is_nearer
returns-else-is_nearer c answers n few e old =
    let small = room answers n few c.args.self c.args.next e old in
    let more : c.saturating_add.result ≡ c.args.self.polls + 1 = omega arith in
    let one : c.from.result ≡ cond c.args.next.yes 1 0 = c.from.ensures ∙ byte_is c.args.next.yes in
    let most = one_at_most c.args.next.yes in
    let yes : c.saturating_add-2.result ≡ c.args.self.yes + cond c.args.next.yes 1 0 = omega arith in
    more_summary answers n few c.args.self c.args.next e old _ more yes refl
    (nearest_more answers n few c.args.self c.args.next e old false _ (sym c.if-is_nearer.false ∙ c.is_nearer.ensures) refl)
