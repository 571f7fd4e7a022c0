-- Records one after another to the end of a stretch: the items that an adder adds to a list, and the bytes that spell them. Assumes nothing.
--     Sound         what is added is spelled by the bytes, and fits
--     Complete      what fits is added, whatever comes behind its bytes
use Rattle.std.proofs.Common.{◌≡◌, ℕ, zero, suc, ◌<◌, ◌≤◌, eqb, List, [], ◌∷◌, ◌++◌, length, Ok, sym, refl, ap, ◌∙◌, subst, append_assoc, append-nil, length-append, ⊎_elim, arith}
use Rattle.std.proofs.lemmas.Bool.{cond-true, cond-false, cases_eq, eq-eqb, ne_eqb}
use Rattle.std.specs.List.{flat_map}
use Rattle.faults.specs.Checks.{on}
use Rattle.sheets.specs.Layout.{StretchModel}
use Rattle.sheets.specs.Parts.{Adder, records, to_end}
use Rattle.sheets.proofs.Accepted.{same_ok}
use Rattle.sheets.proofs.Records.{Bytes}
use Rattle.sheets.proofs.Chains.{bind_good}

-- the adder turns what is made of a list into what is made of one item more
module _ {X T : Type 0} (add : Adder X) (make : List T → X) (spell : T → List ℕ) (Fits : List T → Type 0) where
  -- one item more
  pub record OneMore (before : List T) (s : StretchModel) (y : X) (b : StretchModel) : Type 0 where
    pub item : T
    pub is : y ≡ make (before ++ item ∷ [])
    pub bytes : s.bytes ≡ spell item ++ b.bytes
    pub fits : Fits (before ++ item ∷ [])
    pub left : Bytes b.bytes

  abbrev pub Sound : Type 0
  Sound = (before : List T) (s : StretchModel) (y : X) (b : StretchModel) → Bytes s.bytes → Fits before → add (make before) s ≡ Ok (y, b) → OneMore before s y b

  abbrev pub Complete : Type 0
  Complete = (before : List T) (x : T) (place : ℕ) (rest : List ℕ) → length (spell x) ≤ 16384 → Fits (before ++ x ∷ []) →
      (after : ℕ) × (add (make before) (record { place = place; bytes = spell x ++ rest }) ≡ Ok (make (before ++ x ∷ []), record { place = after; bytes = rest }))

  pub record Items (before : List T) (xs : List ℕ) (y : X) : Type 0 where
    pub items : List T
    pub is : y ≡ make (before ++ items)
    pub bytes : xs ≡ flat_map spell items
    pub fits : Fits (before ++ items)

  module _ (some : (x : T) → 0 < length (spell x)) where
    one_first : (before : List T) (x : T) (xs : List T) → (before ++ x ∷ []) ++ xs ≡ before ++ x ∷ xs
    one_first before x xs = append_assoc before (x ∷ []) xs

    nothing_more : (before : List T) (xs : List ℕ) (y : X) → xs ≡ [] → Fits before → make before ≡ y → Items before xs y
    nothing_more before xs y none f e =
        record { items = []; is = sym e ∙ ap make (sym (append-nil before)); bytes = none; fits = subst Fits (sym (append-nil before)) f }

    no_bytes : (xs : List ℕ) → length xs ≤ 0 → xs ≡ []
    no_bytes [] l = refl
    no_bytes (x ∷ xs) l = absurd (omega arith)

    with_first : (before : List T) (xs : List ℕ) (y : X) (x : T) (ys : List ℕ) → xs ≡ spell x ++ ys → Items (before ++ x ∷ []) ys y → Items before xs y
    with_first before xs y x ys e i = record {
      items = x ∷ i.items;
      is = i.is ∙ ap make (one_first before x i.items);
      bytes = e ∙ ap (λ zs. spell x ++ zs) i.bytes;
      fits = subst Fits (one_first before x i.items) i.fits;
    }

    -- the first item, and those that the rest of the bytes spell
    more : (turns : ℕ) → ((before : List T) (s : StretchModel) (y : X) → Bytes s.bytes → Fits before → length s.bytes ≤ turns → records add turns (make before) s ≡ Ok y → Items before s.bytes y) → Sound →
        (before : List T) (s : StretchModel) (y : X) → Bytes s.bytes → Fits before → length s.bytes ≤ suc turns → on (add (make before) s) (λ z. records add turns z.0 z.1) ≡ Ok y → Items before s.bytes y
    more turns rest sound before s y bs f l e =
        let r = bind_good (add (make before) s) (λ z. records add turns z.0 z.1) y e in
        let o = sound before s r.0.0 r.0.1 bs f r.1 in
        let fewer : length r.0.1.bytes ≤ turns = omega (arith, ap length o.bytes, length-append (spell o.item) r.0.1.bytes, l, some o.item) in
        with_first before s.bytes y o.item r.0.1.bytes o.bytes (rest (before ++ o.item ∷ []) r.0.1 y o.left o.fits fewer (ap (λ z. records add turns z r.0.1) (sym o.is) ∙ r.2))

    sound_by : Sound → (turns : ℕ) (before : List T) (s : StretchModel) (y : X) → Bytes s.bytes → Fits before → length s.bytes ≤ turns → records add turns (make before) s ≡ Ok y → Items before s.bytes y
    unfolding records
    sound_by sound zero before s y bs f l e = nothing_more before s.bytes y (no_bytes s.bytes l) f (same_ok _ _ e)
    sound_by sound (suc turns) before s y bs f l e =
        ⊎_elim
        (λ none. nothing_more before s.bytes y (no_bytes s.bytes (omega (arith, none))) f (same_ok _ _ (sym (cond-true (eqb (length s.bytes) 0) _ _ (eq-eqb _ _ none)) ∙ e)))
        (λ long. more turns (sound_by sound turns) sound before s y bs f l (sym (cond-false (eqb (length s.bytes) 0) _ _ (ne_eqb _ _ long)) ∙ e))
        (cases_eq (length s.bytes) 0)

    pub sound_to_end : Sound → (before : List T) (s : StretchModel) (y : X) → Bytes s.bytes → Fits before → to_end add (make before) s ≡ Ok y → Items before s.bytes y
    sound_to_end sound before s y bs f e = sound_by sound (length s.bytes) before s y bs f (omega arith) e

    module _ (fewer : (xs ys : List T) → Fits (xs ++ ys) → Fits xs) where
      complete_by : Complete → (xs : List T) (turns : ℕ) (before : List T) (place : ℕ) → length (flat_map spell xs) ≤ turns → length (flat_map spell xs) ≤ 16384 → Fits (before ++ xs) →
          records add turns (make before) (record { place = place; bytes = flat_map spell xs }) ≡ Ok (make (before ++ xs))
      unfolding records
      complete_by complete [] zero before place l short f = ap (λ ts. Ok (make ts)) (sym (append-nil before))
      complete_by complete [] (suc turns) before place l short f = ap (λ ts. Ok (make ts)) (sym (append-nil before))
      complete_by complete (x ∷ xs) zero before place l short f = absurd (omega (arith, l, some x, length-append (spell x) (flat_map spell xs)))
      complete_by complete (x ∷ xs) (suc turns) before place l short f =
          let sum = length-append (spell x) (flat_map spell xs) in
          let fits : Fits ((before ++ x ∷ []) ++ xs) = subst Fits (sym (one_first before x xs)) f in
          let c = complete before x place (flat_map spell xs) (omega arith) (fewer (before ++ x ∷ []) xs fits) in
          cond-false (eqb (length (spell x ++ flat_map spell xs)) 0) _ _ (ne_eqb _ _ (λ e. omega (arith, some x, sum, e)))
          ∙ ap (λ r. on r (λ y. records add turns y.0 y.1)) c.1
          ∙ complete_by complete xs turns (before ++ x ∷ []) c.0 (omega (arith, some x, sum, l)) (omega (arith, sum, short)) fits
          ∙ ap (λ ts. Ok (make ts)) (one_first before x xs)

      pub complete_to_end : Complete → (before xs : List T) (place : ℕ) → length (flat_map spell xs) ≤ 16384 → Fits (before ++ xs) →
          to_end add (make before) (record { place = place; bytes = flat_map spell xs }) ≡ Ok (make (before ++ xs))
      complete_to_end complete before xs place short f = complete_by complete xs (length (flat_map spell xs)) before place (omega arith) short f
