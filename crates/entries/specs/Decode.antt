-- The operation that an entry's fields stand for, where they are in range. Assumes nothing.
use Rattle.std.specs.Prelude.{ℕ, Bool, cond, ◌&&◌, ℤ, Some, None, Option, ◌==◌, nat_le}
use Rattle.std.specs.Option.{option_map}
use Rattle.scales.specs.Limits.{bounded}
use Rattle.scales.specs.declared.limit.Sense.{Sense}
use Rattle.scales.specs.declared.limit.Sense.TheVariants.{AtLeast, AtMost}
use Rattle.scales.specs.declared.limit.Test.{Test}
use Rattle.entries.specs.Operations.{OperationModel, HeadTest, ZoneTest, Not, Either, Both, Window}
use Rattle.entries.specs.declared.entry.Entry.{Entry}

abbrev pub sense_of : ℕ → Sense
sense_of n = cond (n == 0) AtLeast AtMost

-- sense and limit of a test; none where one is out of range
abbrev pub test_of : Entry → Option (Sense × ℤ)
test_of e = cond (nat_le e.sense 1) (option_map (λ l. (sense_of e.sense, l)) (bounded 1048576 e.limit)) None

abbrev pub test_model : Test → Sense × ℤ
test_model t = (t.sense, t.limit.value)

abbrev pub head_test_of : ℕ → Option (Sense × ℤ) → Option OperationModel
head_test_of h t = option_map (λ x. HeadTest h x.0 x.1) t

abbrev pub zone_test_of : ℕ → Option (Sense × ℤ) → Option OperationModel
zone_test_of k t = option_map (λ x. ZoneTest k x.0 x.1) t

-- K from 1 to the number of the zone's heads
abbrev pub fair_rank : ℕ → ℕ → Bool
fair_rank k heads = nat_le 1 k && nat_le k heads

-- 0 ≤ first ≤ last ≤ 1,439, and a share from 1 to 1,000
abbrev pub fair_window : Entry → Bool
fair_window e = nat_le e.first e.last && nat_le e.last 1439 && nat_le 1 e.share && nat_le e.share 1000

abbrev pub fair_zone_test : Entry → ℕ → Option OperationModel
fair_zone_test e heads = cond (fair_rank e.k heads) (zone_test_of e.k (test_of e)) None

abbrev pub window_of : Entry → Option OperationModel
window_of e = cond (fair_window e) (Some (Window e.first e.last e.share)) None

-- the entry's operation in a zone of so many heads; none where its kind or a field, head apart, is out of range
abbrev pub operation_of : Entry → ℕ → Option OperationModel
operation_of e heads =
    cond (e.kind == 16) (head_test_of e.head (test_of e))
    (cond (e.kind == 17) (fair_zone_test e heads)
    (cond (e.kind == 18) (Some Not)
    (cond (e.kind == 19) (Some Either)
    (cond (e.kind == 20) (Some Both)
    (cond (e.kind == 21) (window_of e) None)))))
