-- A zone filled with its rules, and a group with its zones. Assumes nothing.
use Rattle.std.proofs.Common.{◌≡◌, ℕ, List, [], ◌∷◌, ◌++◌, length, Ok, Err, refl, sym, ap, ◌∙◌, subst, append-nil, append_assoc, ◌+◌}
use Rattle.std.proofs.lemmas.Grind.{flat_map-append}
use Rattle.std.proofs.lemmas.List.{length-append}
use Rattle.sheets.specs.Layout.{StretchModel, PieceModel, split}
use Rattle.sheets.specs.Outlines.{Outline, SheetGroup, SheetZone, zones}
use Rattle.sheets.specs.Parts.{to_end, rule, opened_zone, with_zone, zone, opened_group, with_group, group}
use Rattle.sheets.specs.Standing.{Stands, InGroup, InSheet}
use Rattle.sheets.specs.declared.fault.SheetFault.{SheetFault}
use Rattle.sheets.specs.declared.reader.Reader.{Reader}

-- ---- a zone of the group
module _ (total : ℕ) (before : List SheetZone) (g : SheetGroup) (s : StretchModel) where
  pub zone_runs_past : (f : SheetFault) → split s ≡ Err f → zone total before g s ≡ Err f
  unfolding zone
  zone_runs_past f e = rw e refl

  module _ (p : PieceModel) (behind : StretchModel) (parts : split s ≡ Ok (p, behind)) where
    pub zone_stays_shut : (f : SheetFault) → opened_zone total (before ++ g.zones) p ≡ Err f → zone total before g s ≡ Err f
    unfolding zone
    zone_stays_shut f e = rw (parts, e) refl

    module _ (z : SheetZone) (inside : StretchModel) (opens : opened_zone total (before ++ g.zones) p ≡ Ok (z, inside)) where
      pub zone_stops : (f : SheetFault) → to_end (rule (before ++ g.zones)) z inside ≡ Err f → zone total before g s ≡ Err f
      unfolding zone
      zone_stops f e = rw (parts, opens, e) refl

      pub zone_fills : (full : SheetZone) → to_end (rule (before ++ g.zones)) z inside ≡ Ok full → zone total before g s ≡ Ok (with_zone g full, behind)
      unfolding zone
      zone_fills full e = rw (parts, opens, e) refl

pub in_group : (total groups : ℕ) (before : List SheetZone) (g : SheetGroup) (z : SheetZone) (r : Reader) → Stands total groups ((before ++ g.zones) ++ z ∷ []) r → InGroup total groups before (with_zone g z) r
in_group total groups before g z r stands = subst (λ zs. Stands total groups zs r) (append_assoc before g.zones (z ∷ [])) stands

-- ---- a group of the sheet
module _ (o : Outline) (s : StretchModel) where
  pub group_runs_past : (f : SheetFault) → split s ≡ Err f → group o s ≡ Err f
  unfolding group
  group_runs_past f e = rw e refl

  module _ (p : PieceModel) (behind : StretchModel) (parts : split s ≡ Ok (p, behind)) where
    pub group_stays_shut : (f : SheetFault) → opened_group o.groups p ≡ Err f → group o s ≡ Err f
    unfolding group
    group_stays_shut f e = rw (parts, e) refl

    module _ (g : SheetGroup) (inside : StretchModel) (opens : opened_group o.groups p ≡ Ok (g, inside)) where
      pub group_stops : (f : SheetFault) → to_end (zone o.total (zones o)) g inside ≡ Err f → group o s ≡ Err f
      unfolding group
      group_stops f e = rw (parts, opens, e) refl

      pub group_fills : (full : SheetGroup) → to_end (zone o.total (zones o)) g inside ≡ Ok full → group o s ≡ Ok (with_group o full, behind)
      unfolding group
      group_fills full e = rw (parts, opens, e) refl

-- a group of no zones yet
pub in_new_group : (total groups : ℕ) (before : List SheetZone) (g : SheetGroup) (r : Reader) → g.zones ≡ [] → Stands total groups before r → InGroup total groups before g r
in_new_group total groups before g r none stands = subst (λ zs. Stands total groups zs r) (sym (ap (λ zs. before ++ zs) none ∙ append-nil before)) stands

pub in_sheet : (o : Outline) (g : SheetGroup) (r : Reader) → InGroup o.total (length o.groups + 1) (zones o) g r → InSheet (with_group o g) r
in_sheet o g r stands =
    subst (λ n. Stands o.total n (zones (with_group o g)) r) (sym (length-append o.groups (g ∷ [])))
    (subst (λ zs. Stands o.total (length o.groups + 1) zs r) (sym (flat_map-append (λ x. x.zones) o.groups (g ∷ []) ∙ ap (λ zs. zones o ++ zs) (append-nil g.zones))) stands)
