use Rattle.std.proofs.Common.{rules, length, refl, arith}
use Rattle.std.proofs.lemmas.Bool.{cond-true, lt-ltb}
use Rattle.sheets.specs.declared.sizes.TheConstants.{GROUPS}
use Rattle.sheets.specs.Layout.{stretch, piece as piece_of}
use Rattle.sheets.proofs.Opening.{new_group, group_opens, group_met}
use Rattle.sheets.proofs.reader.Reader.open_group.Goals as goal

pub returns : goal.returns
returns c total gs zs s = (
  new_group c.in_ok-name.name.now,
  group_opens gs (piece_of c.args.piece) (piece_of c.in_ok-of_kind.field-0) (c.in_ok-length.field-0-0, stretch c.in_ok-length.inside) (c.in_ok-name.name.now, stretch c.in_ok-name.zones) (search rules) (search rules) (search rules) (search rules) (cond-true _ _ _ (lt-ltb (length gs) GROUPS (omega (arith, s.counted)))),
  refl,
  group_met total (length gs) zs c.args.self.now _ s refl refl refl refl refl,
)
