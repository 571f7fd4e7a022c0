-- The polls of a record from one on, at most so many. Assumes nothing.
use Rattle.std.specs.Prelude.{◌≡◌, ℕ, ◌+◌, ◌-◌, min, cond, None, nat_lt, refl}
use Rattle.std.proofs.Common.{arith}
use Rattle.std.proofs.lemmas.Bool.{le-ltb, cond-false, cond_both}
use Rattle.records.specs.Model.{RecordModel}

-- `count` polls, or the fewer left from a poll on
abbrev pub left_from : ℕ → ℕ → ℕ → ℕ
left_from polls from count = min (polls - from) count

-- poll t is the lower poll from + t; the heads are the lower ones
unfoldable pub excerpt_record : {T : Type 0} → RecordModel T → ℕ → ℕ → RecordModel T
excerpt_record m from count = record {
  heads = m.heads;
  polls = left_from m.polls from count;
  at = λ h t. cond (nat_lt t (left_from m.polls from count)) (m.at h (from + t)) None;
  few_heads = m.few_heads;
  few_polls = omega (arith, m.few_polls);
  no_such_head = λ h t o. cond_both _ _ _ (λ x. x ≡ None) (λ e. m.no_such_head h (from + t) o) (λ e. refl);
  no_such_poll = λ h t o. cond-false _ _ _ (le-ltb t _ o);
}
