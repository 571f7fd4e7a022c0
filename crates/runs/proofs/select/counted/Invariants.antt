use Rattle.std.proofs.Common.{◌≡◌, ◌+◌, ◌≤◌, Bool, length, take, count_by}
use Rattle.runs.proofs.select.counted.Given as goal

abbrev pub invariant-loop-x : goal.invariant-loop-x
invariant-loop-x g l = record {
  within : (l.few ≤ l.x-index) × (l.x-index ≤ length l.x-items);
  counts : (p : _ → Bool) → ((x : _) (b : Bool) → goal.F-post g l.passes x b → b ≡ p x) → l.few ≡ count_by p (take l.x-index l.x-items);
}

abbrev pub invariant-loop-x-2 : goal.invariant-loop-x-2
invariant-loop-x-2 g l = record {
  within : (l.n ≤ l.few + l.x-index) × (l.x-index ≤ length l.x-items);
  counts : (p : _ → Bool) → ((x : _) (b : Bool) → goal.F-post g l.passes x b → b ≡ p x) → l.n ≡ l.few + count_by p (take l.x-index l.x-items);
}
