-- Floats that are whole numbers of 256ths. Assumes nothing.
use Rattle.std.specs.Prelude.{ℕ, ◌*◌, ◌/◌, ◌%◌, Bool, true, false, cond, ◌&&◌, ℤ, pos, neg_ℤ, Some, None, Option, ◌==◌, nat_le, Float}
use Rattle.std.specs.Float.{nan, inf, fin}
use Rattle.std.specs.Float.Ieee.{up, down}

-- n or -n; either zero is nought
abbrev pub signed : Bool → ℕ → ℤ
signed false n = pos n
signed true n = neg_ℤ (pos n)

-- 256 times the float, without its fraction; nought for what is no number
unfoldable pub grid_whole : Float → ℤ
grid_whole nan = pos 0
grid_whole (inf s) = pos 0
grid_whole (fin s m e) = signed s (m * up e * 256 / down e)

-- 256 times the float is a whole number of size at most `most`
unfoldable pub on_grid : ℕ → Float → Bool
on_grid most nan = false
on_grid most (inf s) = false
on_grid most (fin s m e) = m * up e * 256 % down e == 0 && nat_le (m * up e * 256 / down e) most

-- that whole number, and none where 256 times the float is not one
abbrev pub grid_steps : ℕ → Float → Option ℤ
grid_steps most x = cond (on_grid most x) (Some (grid_whole x)) None
