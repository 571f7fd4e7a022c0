-- What the answers of a rule come to. Assumes nothing.
--     yes_of        at how many polls the verdict is yes
--     IsNearest     the first answer whose margin is smallest in size
--     Summarizes    a summary of the first answers
--     IsOutcome     what a rule comes to over so many polls
use Rattle.std.specs.Prelude.{◌≡◌, ℕ, zero, suc, ◌+◌, ◌-◌, ◌<◌, ◌≤◌, cond, Some, None, Option, unsigned_abs}
use Rattle.desk.specs.declared.answered.Answered.{Answered}
use Rattle.desk.specs.declared.outcome.Outcome.{Outcome}
use Rattle.desk.specs.declared.outcome.Outcome.TheVariants as outcome
use Rattle.desk.specs.declared.outcome.Summary.{Summary}

-- at how many of the first n polls the verdict is yes
abbrev pub yes_of : (ℕ → Answered) → ℕ → ℕ
yes_of answers zero = 0
yes_of answers (suc n) = yes_of answers n + cond (answers n).yes 1 0

-- the size of the margin at a poll
abbrev pub size_at : (ℕ → Answered) → ℕ → ℕ
size_at answers t = unsigned_abs (answers t).margin

-- of the first n answers the one of smallest size, the first among equals
pub record IsNearest (answers : ℕ → Answered) (n : ℕ) (a : Answered) : Type 0 where
  pub poll : ℕ
  pub within : poll < n
  pub is : a ≡ answers poll
  pub least : (t : ℕ) → t < n → size_at answers poll ≤ size_at answers t
  pub first : (t : ℕ) → t < poll → size_at answers poll < size_at answers t

pub record Summarizes (answers : ℕ → Answered) (n : ℕ) (s : Summary) : Type 0 where
  pub polls : s.polls ≡ n
  pub yes : s.yes ≡ yes_of answers n
  pub latest : s.latest ≡ answers (n - 1)
  pub nearest : IsNearest answers n s.nearest

-- no summary before the first answer
abbrev pub Tallied : (ℕ → Answered) → ℕ → Option Summary → Type 0
Tallied answers n None = n ≡ 0
Tallied answers n (Some s) = Summarizes answers n s

-- with a horizon of h, over so many polls: waiting for the rows to come while the polls are not above the horizon, else a summary
abbrev pub IsOutcome : (ℕ → Answered) → ℕ → ℕ → Outcome → Type 0
IsOutcome answers h polls (outcome.Waiting rows) = (polls ≤ h) × (rows ≡ h + 1 - polls)
IsOutcome answers h polls (outcome.Answered s) = Summarizes answers (polls - h) s
