use Rattle.std.proofs.Common.{◌≡◌, ℕ, ◌<◌, get_or, length, map, take, rules, ap, sym, ◌∙◌, arith}
use Rattle.std.proofs.Math.ListN.{get_or-map}
use Rattle.std.proofs.lemmas.List.{length-map, take-map, same_lists, get_or_default}
use Rattle.rules.specs.Assemble.{blank}
use Rattle.rules.specs.Spans.{no_line}
use Rattle.rules.specs.declared.line.Line.{Line}
use Rattle.rules.proofs.lines.Lines.entries.Goals as goal

pub returns : goal.returns
returns c =
    let l = c.args.self.now in
    let each : (i : ℕ) → i < 24 → get_or c.map.result i blank ≡ (get_or l.rows i no_line).entry = λ i h. let k = (c.map.ensures.items.at i no_line blank h).2 in search rules in
    let long : length c.map.result ≡ 24 = c.map.ensures.items.long in
    let all : c.map.result ≡ map (λ (x : Line). x.entry) l.rows =
    same_lists _ _ (long ∙ sym (length-map l.rows (λ (x : Line). x.entry) ∙ l.room))
    (λ k d h. get_or_default c.map.result k d blank h ∙ each k (omega arith) ∙ sym (get_or-map (λ (x : Line). x.entry) l.rows k no_line) ∙ get_or_default (map (λ (x : Line). x.entry) l.rows) k blank d (omega (arith, length-map l.rows (λ (x : Line). x.entry), l.room)))
    in
    ap (take l.count) all ∙ take-map (λ (x : Line). x.entry) l.count l.rows
