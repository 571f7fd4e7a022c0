-- What an answer must be to be the K-th highest, in general terms. Assumes nothing.
use Rattle.std.specs.Prelude.{◌≡◌, ℕ, ◌<◌, ◌≤◌, ◌⊎◌, List, length, ℤ, ◌≤ℤ◌, Some, Option, MatchOption}
use Rattle.runs.specs.Highest.{highest, at_least, Kth}
use Rattle.runs.specs.Order.{copies}

pub record KthHighest (k : ℕ) (ws : List ℤ) (answer : Option ℤ) : Type 0 where
  pub is : answer ≡ highest k ws
  -- none exactly if K is 0 or above their number; else at least K of them reach it and fewer than K exceed it
  pub kth : MatchOption answer ((k ≡ 0) ⊎ (length ws < k)) (Kth k ws)
  -- no other whole number is a K-th highest
  pub only : (m : ℤ) → Kth k ws m → answer ≡ Some m
  -- it is the greatest whole number that at least K of them reach
  pub greatest : (m : ℤ) → answer ≡ Some m → (k ≤ at_least m ws) × ((r : ℤ) → k ≤ at_least r ws → r ≤ℤ m)
  -- their order is nothing to it: any stretch in which each whole number stands as often has the same
  pub counts : (vs : List ℤ) → ((z : ℤ) → copies z vs ≡ copies z ws) → highest k vs ≡ answer
