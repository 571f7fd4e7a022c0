-- A loop that adds record after record to the end of a stretch. Assumes nothing.
--     Going         what the loop has read so far, and that what is left gives the rest
use Rattle.std.proofs.Common.{◌≡◌, ℕ, zero, suc, ◌<◌, ◌≤◌, true, false, cond, List, [], ◌∷◌, length, Ok, Err, ◌==◌, refl, ap, ◌∙◌, arith}
use Rattle.faults.specs.Checks.{on}
use Rattle.sheets.specs.Layout.{StretchModel, stretch}
use Rattle.sheets.specs.Parts.{Adder, records, to_end}
use Rattle.sheets.specs.Standing.{Adds, Fills}
use Rattle.sheets.specs.declared.fault.SheetFault.{SheetFault}
use Rattle.sheets.specs.declared.reader.Reader.{Reader}
use Rattle.sheets.specs.declared.stretch.Stretch.{Stretch}
use Rattle.sheets.proofs.Chains.{goes, stops}

-- from x on, a loop over the stretch s has come to what is left, with what a reader now holds
pub record Gone {X : Type 0} (Holds : X → Reader → Type 0) (add : Adder X) (s left : StretchModel) (x : X) (now : Reader) : Type 0 where
  pub reached : X
  pub turns : ℕ
  pub enough : length left.bytes ≤ turns
  pub is : to_end add x s ≡ records add turns reached left
  pub holds : Holds reached now

abbrev pub Going : {X : Type 0} → (X → Reader → Type 0) → Adder X → StretchModel → Reader → StretchModel → Reader → Type 0
Going {X} Holds add s before left now = (x : X) → Holds x before → Gone Holds add s left x now

-- an empty stretch gives nothing more
none_left : {X : Type 0} (add : Adder X) (turns : ℕ) (x : X) (s : StretchModel) → (length s.bytes == 0) ≡ true → records add turns x s ≡ Ok x
unfolding records
none_left add zero x s e = refl
none_left add (suc turns) x s e = ap (λ b. cond b (Ok x) (on (add x s) (λ y. records add turns y.0 y.1))) e

-- a stretch with bytes gives what its first record adds, and the rest
one_more : {X : Type 0} (add : Adder X) (turns : ℕ) (x : X) (s : StretchModel) → (length s.bytes == 0) ≡ false → records add (suc turns) x s ≡ on (add x s) (λ y. records add turns y.0 y.1)
unfolding records
one_more add turns x s e = ap (λ b. cond b (Ok x) (on (add x s) (λ y. records add turns y.0 y.1))) e

module _ {X : Type 0} (Holds : X → Reader → Type 0) (add : Adder X) (s : StretchModel) (before : Reader) where
  pub goes_on : (left : StretchModel) (now after : Reader) (behind : Stretch) → Going Holds add s before left now → (length left.bytes == 0) ≡ false → Adds Holds add left now after (Ok behind) → length behind.bytes.now < length left.bytes → Going Holds add s before (stretch behind) after
  goes_on left now after behind going some adds shorter x h =
      let g = going x h in
      let a = adds g.reached g.holds in
      step g.turns g.reached g.enough g.is a
    where
      step : (turns : ℕ) (y : X) → length left.bytes ≤ turns → to_end add x s ≡ records add turns y left → ((z : X) × (add y left ≡ Ok (z, stretch behind)) × Holds z after) → Gone Holds add s (stretch behind) x after
      step zero y enough is a = absurd (omega (arith, shorter))
      step (suc turns) y enough is a = record {
        reached = a.0;
        turns = turns;
        enough = omega (arith, shorter);
        is = is ∙ (one_more add turns y left some ∙ goes _ a.1);
        holds = a.2;
      }

  pub is_filled : (left : StretchModel) (now : Reader) → Going Holds add s before left now → (length left.bytes == 0) ≡ true → Fills Holds add s before now (Ok tt)
  is_filled left now going none x h =
      let g = going x h in
      (g.reached, g.is ∙ none_left add g.turns g.reached left none, g.holds)

  pub is_stopped : (left : StretchModel) (now after : Reader) (f : SheetFault) → Going Holds add s before left now → (length left.bytes == 0) ≡ false → Adds Holds add left now after (Err f) → Fills Holds add s before after (Err f)
  is_stopped left now after f going some adds x h =
      let g = going x h in
      step g.turns g.reached g.enough g.is (adds g.reached g.holds)
    where
      step : (turns : ℕ) (y : X) → length left.bytes ≤ turns → to_end add x s ≡ records add turns y left → add y left ≡ Err f → to_end add x s ≡ Err f
      step zero y enough is a = none left.bytes enough some
        where
          none : (xs : List ℕ) → length xs ≤ 0 → (length xs == 0) ≡ false → to_end add x s ≡ Err f
          none [] l e = absurd (cc)
          none (b ∷ bs) l e = absurd (omega arith)
      step (suc turns) y enough is a = is ∙ (one_more add turns y left some ∙ stops _ a)
