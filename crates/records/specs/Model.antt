-- What a record means: its heads and polls, and for each head and poll a reading or none. Assumes nothing.
use Rattle.std.specs.Prelude.{◌≡◌, ℕ, ◌≤◌, Bool, true, false, cond, ◌&&◌, Some, None, Option, nat_le, nat_lt, refl}
use Rattle.std.proofs.Common.{lit≤}
use Rattle.std.proofs.lemmas.Bool.{leb-true, le-ltb, and_parts, and_left, and_right, cond-false}

-- the most heads of a record
abbrev pub most_heads : ℕ
most_heads = 64

-- the most polls of a record
abbrev pub most_polls : ℕ
most_polls = 16777216

pub record RecordModel (Reading : Type 0) : Type 0 where
  pub heads : ℕ
  pub polls : ℕ
  -- the reading of a head at a poll, or none
  pub at : ℕ → ℕ → Option Reading
  pub few_heads : heads ≤ most_heads
  pub few_polls : polls ≤ most_polls
  pub no_such_head : (h t : ℕ) → heads ≤ h → at h t ≡ None
  pub no_such_poll : (h t : ℕ) → polls ≤ t → at h t ≡ None

-- the empty record: 0 heads, 0 polls
abbrev pub empty_record : {Reading : Type 0} → RecordModel Reading
empty_record = record {
  heads = 0;
  polls = 0;
  at = λ h t. None;
  few_heads = lit≤ tt;
  few_polls = lit≤ tt;
  no_such_head = λ h t o. refl;
  no_such_poll = λ h t o. refl;
}

-- the record unless a fault refuses it; then the empty record
abbrev pub unless : {Fault Reading : Type 0} → Option Fault → RecordModel Reading → RecordModel Reading
unless None m = m
unless (Some fault) m = empty_record

-- whether the numbers keep the limits
abbrev pub sized : ℕ → ℕ → Bool
sized heads polls = nat_le heads most_heads && nat_le polls most_polls

abbrev pub table_if : {Reading : Type 0} (heads polls : ℕ) (fits : Bool) → sized heads polls ≡ fits → (ℕ → ℕ → Option Reading) → RecordModel Reading
table_if heads polls true s f =
    let few = and_parts (nat_le heads most_heads) (nat_le polls most_polls) s in
    record {
      heads = heads;
      polls = polls;
      at = λ h t. cond (nat_lt h heads && nat_lt t polls) (f h t) None;
      few_heads = leb-true heads most_heads few.0;
      few_polls = leb-true polls most_polls few.1;
      no_such_head = λ h t o. cond-false _ _ _ (and_left _ _ (le-ltb h heads o));
      no_such_poll = λ h t o. cond-false _ _ _ (and_right _ _ (le-ltb t polls o));
    }
table_if heads polls false s f = empty_record

-- so many heads and polls, where they keep the limits, with what `f` gives within them
abbrev pub table : {Reading : Type 0} → ℕ → ℕ → (ℕ → ℕ → Option Reading) → RecordModel Reading
table heads polls f = table_if heads polls (sized heads polls) refl f
