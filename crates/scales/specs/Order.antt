-- Whole numbers in order, and clipped to a range. Assumes nothing.
use Rattle.std.specs.Prelude.{ℕ, cond, ℤ, pos, neg_ℤ, int_lt}
use Rattle.std.specs.declared.cmp.Ordering.TheVariants.{Less, Equal, Greater}
use Rattle.std.specs.declared.cmp.Ordering.{Ordering}
use Rattle.std.specs.Int.{int_min, int_max}

-- how x compares with y
abbrev pub ordered : ℤ → ℤ → Ordering
ordered x y = cond (int_lt x y) Less (cond (int_lt y x) Greater Equal)

-- z brought into -most to most
abbrev pub clipped : ℕ → ℤ → ℤ
clipped most z = int_max (neg_ℤ (pos most)) (int_min (pos most) z)
