-- A tick more, and a line more. Assumes nothing.
use Rattle.std.proofs.Common.{◌≡◌, ℕ, suc, ◌+◌, ◌-◌, ◌*◌, ◌^◌, ◌<◌, ◌≤◌, max, Bool, List, [], ◌∷◌, ◌++◌, length, drop, get_or, refl, sym, ap, ◌∙◌, subst, drop-cons, arith}
use Rattle.std.proofs.Math.ListN.{drop_of_length-le}
use Rattle.std.specs.Prelude.{cond, codes, min, nat_lt}
use Rattle.std.specs.Fmt.{WritesInCalls}
use Rattle.std.proofs.Output.{writes_in_calls_append, writes_in_calls_nil}
use Rattle.desk.specs.Frames.{right_at}
use Rattle.desk.specs.Ticks.{level_steps, levels_text, margin_text, mark_text, number_text, step_in, tick_at, tick_text, ticks_from}
use Rattle.desk.specs.declared.amount.Unit.{Unit}
use Rattle.desk.specs.declared.picture.Frame.{Frame}

step_more : (s span : ℕ) (steps : List ℕ) → step_in (s ∷ steps) span ≡ cond (nat_lt (s * 7) span) (step_in steps span) (max s 1)
unfolding step_in
step_more s span steps = refl

step_last : (span : ℕ) → step_in [] span ≡ 2 ^ 32 - 1
unfolding step_in
step_last span = refl

passed : (s span a b : ℕ) → s * 7 < span → cond (nat_lt (s * 7) span) a b ≡ a
passed s span a b more = grind (arith, more)

reached : (s span a b : ℕ) → span ≤ s * 7 → cond (nat_lt (s * 7) span) a b ≡ b
reached s span a b few = grind (arith, few)

module _ (steps : List ℕ) (i s span r : ℕ) where
  here : i < length steps → s ≡ get_or steps i s → drop i steps ≡ s ∷ drop (i + 1) steps
  here lt is = let more : suc i ≡ i + 1 = omega arith in drop-cons steps i s lt ∙ ap (λ d. d ∷ drop (suc i) steps) (sym is) ∙ ap (λ k. s ∷ drop k steps) more

  pub next_step : i < length steps → s ≡ get_or steps i s → s * 7 < span → step_in (drop i steps) span ≡ r → step_in (drop (i + 1) steps) span ≡ r
  next_step lt is more so_far =
      sym (ap (λ l. step_in l span) (here lt is) ∙ step_more s span (drop (i + 1) steps) ∙ passed s span (step_in (drop (i + 1) steps) span) (max s 1) more) ∙ so_far

  pub this_step : i < length steps → s ≡ get_or steps i s → span ≤ s * 7 → step_in (drop i steps) span ≡ r → max s 1 ≡ r
  this_step lt is few so_far =
      sym (ap (λ l. step_in l span) (here lt is) ∙ step_more s span (drop (i + 1) steps) ∙ reached s span (step_in (drop (i + 1) steps) span) (max s 1) few) ∙ so_far

  pub no_step : length steps ≤ i → step_in (drop i steps) span ≡ r → 2 ^ 32 - 1 ≡ r
  no_step past so_far = sym (ap (λ l. step_in l span) (drop_of_length-le steps past) ∙ step_last span) ∙ so_far

module _ {W : Type 0} (took : W → List ℕ → W → Type 0) where
  pub no_ticks : (polls step : ℕ) (w : W) → WritesInCalls took w (ticks_from polls step 0) w
  unfolding ticks_from
  no_ticks polls step w = writes_in_calls_nil took w

  ticks_more : (polls step n : ℕ) → ticks_from polls step (suc n) ≡ ticks_from polls step n ++ tick_text polls (min (n * step) (2 ^ 32 - 1))
  unfolding ticks_from
  ticks_more polls step n = refl

  pub tick_written : (polls step n x poll : ℕ) (w v m u : W) → poll ≡ min (n * step) (2 ^ 32 - 1) → x ≡ right_at polls poll → WritesInCalls took w (ticks_from polls step n) v
      → WritesInCalls took v (mark_text x) m → WritesInCalls took m (number_text x poll) u → WritesInCalls took w (ticks_from polls step (n + 1)) u
  tick_written polls step n x poll w v m u at along before mark number =
      let more : suc n ≡ n + 1 = omega arith in
      subst (λ l. WritesInCalls took w l u) (ap (λ y. ticks_from polls step n ++ tick_at y poll) along ∙ ap (λ p. ticks_from polls step n ++ tick_text polls p) at ∙ sym (ticks_more polls step n) ∙ ap (ticks_from polls step) more)
      (writes_in_calls_append took w (ticks_from polls step n) v (tick_at x poll) u before (writes_in_calls_append took v (mark_text x) m (number_text x poll) u mark number))

  module _ (unit : Unit) (frame : Frame) (step : ℕ) (below : Bool) where
    pub no_levels : (w : W) → WritesInCalls took w (levels_text unit frame step below 0) w
    unfolding levels_text
    no_levels w = writes_in_calls_nil took w

    levels_more : (n : ℕ) → levels_text unit frame step below (suc n) ≡ levels_text unit frame step below n ++ margin_text (codes "#ddd") unit frame (level_steps step below n)
    unfolding levels_text
    levels_more n = refl

    pub level_written : (n : ℕ) (w v u : W) (t : List ℕ) → t ≡ margin_text (codes "#ddd") unit frame (level_steps step below n) → WritesInCalls took w (levels_text unit frame step below n) v → WritesInCalls took v t u
        → WritesInCalls took w (levels_text unit frame step below (n + 1)) u
    level_written n w v u t is before next =
        let more : suc n ≡ n + 1 = omega arith in
        subst (λ l. WritesInCalls took w l u) (ap (λ l. levels_text unit frame step below n ++ l) is ∙ sym (levels_more n) ∙ ap (levels_text unit frame step below) more)
        (writes_in_calls_append took w (levels_text unit frame step below n) v t u before next)
