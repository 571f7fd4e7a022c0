use Rattle.std.proofs.Common.{rules, ◌≡◌, ◌++◌, Ok, refl, sym, ◌∙◌, subst}
use Rattle.entries.specs.Heads.{heads, SameHeads}
use Rattle.sheets.specs.Layout.{stretch, piece as piece_of, word_at}
use Rattle.sheets.specs.Parts.{zone_heads, zone_number, opened_zone}
use Rattle.sheets.proofs.Opening.{new_zone, zone_opens, zone_met, first_word}
use Rattle.sheets.proofs.reader.Reader.open_zone.Goals as goal

pub returns : goal.returns
returns c = record {
  value = λ total groups before s.
      let number : word_at 0 c.in_ok-low.field-0-0 ≡ c.from_le_bytes-number.result = first_word c.in_ok-low.field-0-0 ∙ sym c.from_le_bytes-number.ensures in
      let same : heads c.in_ok-heads.heads.bits ≡ c.in_ok-listed.listed.now = (c.in_ok-heads.ensures before s.heads_met).1 in (
        new_zone c.from_le_bytes-number.result c.in_ok-listed.listed.now,
        subst (λ n. opened_zone total before (piece_of c.args.piece) ≡ Ok (new_zone n c.in_ok-listed.listed.now, stretch c.in_ok-listed.rules)) number
            (zone_opens total before (piece_of c.args.piece) (piece_of c.in_ok-of_kind.field-0) (c.in_ok-low.field-0-0, stretch c.in_ok-low.inside) (c.in_ok-listed.listed.now, stretch c.in_ok-listed.rules) (search rules) (search rules) (search rules) (search rules)
            (subst (λ n. zone_heads c.args.piece.at n before 0 c.in_ok-listed.listed.now ≡ Ok tt) s.card (c.in_ok-heads.ensures before s.heads_met).0)
            (subst (λ n. zone_number c.args.piece.at n before ≡ Ok tt) (sym number) (sym (c.in_ok-check_zone.ensures.value before s.numbers)))),
        (
          refl,
          sym same,
          zone_met total groups before c.args.self.now _ _ _ s refl refl c.push.ensures.items
              (subst (λ hs. SameHeads (heads c.union-self.result.bits) (heads c.args.self.now.heads.bits ++ hs)) same c.union-self.ensures) refl,
        ),
      );
}
