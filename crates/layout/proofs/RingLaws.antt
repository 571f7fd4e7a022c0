-- A ring of margins: a margin more, and what a write elsewhere leaves. Assumes nothing.
use Rattle.std.proofs.Common.{◌≡◌, ℕ, zero, suc, ◌+◌, ◌-◌, ◌*◌, ◌/◌, ◌%◌, ◌<◌, ◌≤◌, ◌≢◌, ◌⊎◌, List, length, get_or, set, ℤ, sym, ap, ◌∙◌, inl, inr, ⊎_elim, mul-le-mul_right, mod-lt, add-mul, one-mul, add-one, arith}
use Rattle.std.proofs.lemmas.Nat.{div-add-mod', mod-mul-add}
use Rattle.std.proofs.lemmas.List.{get_or-set_same, get_or-set_other}
use Rattle.std.proofs.lemmas.Bool.{cases_eq, cases_lt}
use Rattle.layout.specs.Cells.{Outside, Ring}
use Rattle.layout.proofs.Frames.{outside_at}

-- two numbers less than w apart lie at different places
pub apart : (w i n : ℕ) → i < n → n < i + w → i % w ≢ n % w
apart w i n before within same =
    let low = div-add-mod' i w in
    let high = div-add-mod' n w in
    ⊎_elim
    (λ (h : i / w < n / w).
    let more : (i / w + 1) * w ≤ n / w * w = mul-le-mul_right w (omega arith) in
    let split : (i / w + 1) * w ≡ i / w * w + w = add-mul (i / w) 1 w ∙ ap (λ x. i / w * w + x) (one-mul w) in
    omega arith)
    (λ (h : n / w ≤ i / w).
    let more : n / w * w ≤ i / w * w = mul-le-mul_right w h in
    omega arith)
    (cases_lt (i / w) (n / w))

-- one row on: one place on, or back to the ring's begin
module _ (w n : ℕ) (some : 0 < w) where
  pub next_within : n % w + 1 < w → n % w + 1 ≡ (n + 1) % w
  next_within lt =
      let split : n + 1 ≡ n / w * w + (n % w + 1) = omega (arith, div-add-mod' n w) in
      sym (ap (λ k. k % w) split ∙ mod-mul-add (n / w) w (n % w + 1) lt)

  pub next_round : w ≤ n % w + 1 → 0 ≡ (n + 1) % w
  next_round past =
      let more : (n / w + 1) * w ≡ n / w * w + w = add-mul (n / w) 1 w ∙ ap (λ x. n / w * w + x) (one-mul w) in
      let split : n + 1 ≡ (n / w + 1) * w + 0 = omega (arith, div-add-mod' n w, mod-lt n {m = w} some) in
      sym (ap (λ k. k % w) split ∙ mod-mul-add (n / w + 1) w 0 some)

-- b rows back, a whole ring at most: b places back, or on from the ring's end
module _ (w n b : ℕ) (some : 0 < w) where
  pub back_within : b ≤ n % w → n % w - b ≡ (n - b) % w
  back_within le =
      let split : n - b ≡ n / w * w + (n % w - b) = omega (arith, div-add-mod' n w) in
      sym (ap (λ k. k % w) split ∙ mod-mul-add (n / w) w (n % w - b) (omega (arith, mod-lt n {m = w} some)))

  pub back_round : n % w < b → b ≤ n → b ≤ w → n % w + (w - b) ≡ (n - b) % w
  back_round past taken held = go (n / w) (div-add-mod' n w)
    where
      go : (q : ℕ) → q * w + n % w ≡ n → n % w + (w - b) ≡ (n - b) % w
      go zero e = absurd (omega arith)
      go (suc q) e =
          let more : suc q * w ≡ q * w + w = ap (λ k. k * w) (sym (add-one q)) ∙ add-mul q 1 w ∙ ap (λ x. q * w + x) (one-mul w) in
          let split : n - b ≡ q * w + (n % w + (w - b)) = omega arith in
          sym (ap (λ k. k % w) split ∙ mod-mul-add q w (n % w + (w - b)) (omega arith))

module _ {M : Type 0} (whole : M → ℤ) (f : ℕ → ℤ) (h size base : ℕ) where
  pub ring_none : (n : ℕ) (cells : List M) → n ≤ h → Ring whole f h size base n cells
  ring_none n cells l = record { held = λ p c before late. absurd (omega arith) }

  pub ring_frame : (a e n : ℕ) (xs ys : List M) → Outside a e xs ys → (base + size ≤ a) ⊎ (e ≤ base) → Ring whole f h size base n xs → Ring whole f h size base n ys
  ring_frame a e n xs ys o w r = record {
    held = λ p c before late.
        let place : (p + h) % size < size = mod-lt (p + h) {m = size} (omega arith) in
        let w' : (base + (p + h) % size < a) ⊎ (e ≤ base + (p + h) % size) = ⊎_elim (λ (l : base + size ≤ a). inl (omega arith)) (λ (l : e ≤ base). inr (omega arith)) w in
        ap whole (outside_at a e (base + (p + h) % size) xs ys c o w') ∙ r.held p c before late;
  }

  -- with the row n the ring holds one margin more, in the place of one that is no longer held
  pub ring_next : (n i : ℕ) (cells : List M) (m : M) → h ≤ n → i ≡ base + n % size → i < length cells → whole m ≡ f (n - h) → Ring whole f h size base n cells → Ring whole f h size base (n + 1) (set cells i m)
  ring_next n i cells m ready is within marks r = record {
    held = λ p c before late. ⊎_elim
        (λ (e : p + h ≡ n).
        let q : p ≡ n - h = omega arith in
        ap (λ j. whole (get_or (set cells i m) j c)) (ap (λ s. base + s % size) e ∙ sym is) ∙ ap whole (get_or-set_same cells i m c within) ∙ marks ∙ ap f (sym q))
        (λ (ne : p + h ≡ n → ⊥).
        let far : (p + h) % size ≢ n % size = apart size (p + h) n (omega arith) (omega arith) in
        let other : base + (p + h) % size ≢ i = λ same. far (omega arith) in
        ap whole (get_or-set_other cells i (base + (p + h) % size) m c other) ∙ r.held p c (omega arith) (omega arith))
        (cases_eq (p + h) n);
  }
