-- A whole sheet, read part by part, or not. Assumes nothing.
use Rattle.std.proofs.Common.{◌≡◌, ℕ, List, [], Ok, Err, Result, refl, sym, ap, ◌∙◌}
use Rattle.sheets.specs.Layout.{StretchModel, PieceModel, fields, byte_at}
use Rattle.sheets.specs.Outlines.{Outline, SheetZone, zones}
use Rattle.sheets.specs.Parts.{to_end, group}
use Rattle.sheets.specs.Reading.{whole, head_total, all_zoned, read}
use Rattle.sheets.specs.declared.fault.SheetFault.{SheetFault}

-- a card of so many heads, with no group yet
abbrev pub bare : ℕ → Outline
bare total = record { total = total; groups = [] }

module _ (xs : List ℕ) where
  pub not_whole : (f : SheetFault) → whole xs ≡ Err f → read xs ≡ Err f
  unfolding read
  not_whole f e = rw e refl

  module _ (p : PieceModel) (is_whole : whole xs ≡ Ok p) where
    pub no_total : (f : SheetFault) → fields 1 p ≡ Err f → read xs ≡ Err f
    unfolding read
    no_total f e = rw (is_whole, e) refl

    module _ (x : List ℕ × StretchModel) (first : fields 1 p ≡ Ok x) where
      pub wrong_total : (f : SheetFault) → head_total (byte_at 0 x.0) ≡ Err f → read xs ≡ Err f
      unfolding read
      wrong_total f e = rw (is_whole, first, e) refl

      module _ (fair : head_total (byte_at 0 x.0) ≡ Ok tt) where
        pub groups_stop : (f : SheetFault) → to_end group (bare (byte_at 0 x.0)) x.1 ≡ Err f → read xs ≡ Err f
        unfolding read
        groups_stop f e = rw (is_whole, first, fair, e) refl

        module _ (o : Outline) (filled : to_end group (bare (byte_at 0 x.0)) x.1 ≡ Ok o) where
          pub head_left_out : (f : SheetFault) → all_zoned (zones o) 0 o.total ≡ Err f → read xs ≡ Err f
          unfolding read
          head_left_out f e = rw (is_whole, first, fair, filled, e) refl

          pub all_read : all_zoned (zones o) 0 o.total ≡ Ok tt → read xs ≡ Ok o
          unfolding read
          all_read e = rw (is_whole, first, fair, filled, e) refl

-- the heads in zones, of as many as the outline says
pub same_total : (zs : List SheetZone) (n total : ℕ) (r : Result (Unit {0}) SheetFault) → n ≡ total → r ≡ all_zoned zs 0 n → all_zoned zs 0 total ≡ r
same_total zs n total r same e = ap (all_zoned zs 0) (sym same) ∙ sym e
