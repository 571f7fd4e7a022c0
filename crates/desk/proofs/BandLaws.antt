-- A point more in the band of a picture. Assumes nothing.
use Rattle.std.proofs.Common.{◌≡◌, ℕ, suc, ◌+◌, ◌-◌, ◌<◌, ◌≤◌, List, [], ◌++◌, length, append_assoc, append-nil, refl, sym, ap, ◌∙◌, subst, arith}
use Rattle.std.specs.Fmt.{WritesInCalls}
use Rattle.std.specs.Prelude.{codes}
use Rattle.std.proofs.Output.{writes_in_calls_append, writes_in_calls_nil}
use Rattle.desk.specs.Bands.{column_at, highest_text, lowest_text, pen_text, point_text}
use Rattle.desk.specs.Columns.{middle_of}
use Rattle.desk.specs.declared.columns.Column.{Column}
use Rattle.desk.specs.declared.picture.Frame.{Frame}

module _ {W : Type 0} (took : W → List ℕ → W → Type 0) (frame : Frame) (each : ℕ) (cs : List Column) where
  pub no_point : (w : W) → WritesInCalls took w (highest_text frame each cs 0) w
  unfolding highest_text
  no_point w = writes_in_calls_nil took w

  highest_next : (n : ℕ) → highest_text frame each cs (suc n) ≡ highest_text frame each cs n ++ point_text (pen_text n) frame (middle_of each n) (column_at cs n).highest
  unfolding highest_text
  highest_next n = refl

  lowest_next : (n : ℕ) → lowest_text frame each cs (suc n) ≡ point_text (codes "L") frame (middle_of each n) (column_at cs n).lowest ++ lowest_text frame each cs n
  unfolding lowest_text
  lowest_next n = refl

  lowest_none : lowest_text frame each cs 0 ≡ []
  unfolding lowest_text
  lowest_none = refl

  pub higher_point : (w v u : W) (n : ℕ) (t : List ℕ) → t ≡ point_text (pen_text n) frame (middle_of each n) (column_at cs n).highest
      → WritesInCalls took w (highest_text frame each cs n) v → WritesInCalls took v t u → WritesInCalls took w (highest_text frame each cs (n + 1)) u
  higher_point w v u n t is before next =
      let more : suc n ≡ n + 1 = omega arith in
      subst (λ l. WritesInCalls took w l u) (ap (λ l. highest_text frame each cs n ++ l) is ∙ sym (highest_next n) ∙ ap (highest_text frame each cs) more)
      (writes_in_calls_append took w (highest_text frame each cs n) v t u before next)

  pub lower_point : (w v u : W) (k : ℕ) (t : List ℕ) → k < length cs → t ≡ point_text (codes "L") frame (middle_of each (length cs - 1 - k)) (column_at cs (length cs - 1 - k)).lowest
      → (text : List ℕ) × WritesInCalls took w text v × (text ++ lowest_text frame each cs (length cs - k) ≡ lowest_text frame each cs (length cs)) → WritesInCalls took v t u
      → (text : List ℕ) × WritesInCalls took w text u × (text ++ lowest_text frame each cs (length cs - (k + 1)) ≡ lowest_text frame each cs (length cs))
  lower_point w v u k t lt is before next =
      let here : length cs - k ≡ suc (length cs - 1 - k) = omega arith in
      let there : length cs - 1 - k ≡ length cs - (k + 1) = omega arith in
      let rest = lowest_text frame each cs (length cs - (k + 1)) in
      let split : lowest_text frame each cs (length cs - k) ≡ t ++ rest =
      ap (lowest_text frame each cs) here ∙ lowest_next (length cs - 1 - k) ∙ ap (λ l. l ++ lowest_text frame each cs (length cs - 1 - k)) (sym is) ∙ ap (λ j. t ++ lowest_text frame each cs j) there in
      (before.0 ++ t, writes_in_calls_append took w before.0 v t u before.1 next, append_assoc before.0 t rest ∙ ap (λ l. before.0 ++ l) (sym split) ∙ before.2)

  pub last_point : (w v : W) (k : ℕ) → length cs ≤ k → (text : List ℕ) × WritesInCalls took w text v × (text ++ lowest_text frame each cs (length cs - k) ≡ lowest_text frame each cs (length cs))
      → WritesInCalls took w (lowest_text frame each cs (length cs)) v
  last_point w v k past before =
      let none : length cs - k ≡ 0 = omega arith in
      subst (λ l. WritesInCalls took w l v) (sym (append-nil before.0) ∙ ap (λ l. before.0 ++ l) (sym (ap (lowest_text frame each cs) none ∙ lowest_none)) ∙ before.2) before.1
