-- The list of margins that a play writes, one place after another. Assumes nothing.
use Rattle.std.proofs.Common.{◌≡◌, ℕ, ◌+◌, ◌-◌, ◌<◌, min, List, [], ◌∷◌, ◌++◌, map, length, take, drop, set, ℤ, Some, Option, sym, refl, ap, ◌∙◌, arith}
use Rattle.std.proofs.lemmas.List.{take_more_set, map-append, length-set, drop-set-lt}
use Rattle.std.proofs.lemmas.List.FromFn.{map-range_with_len_more}
use Rattle.std.proofs.lemmas.Grind.{drop_more_same}
use Rattle.formulas.specs.Formula.{horizon}
use Rattle.formulas.specs.Margin.{margin, polls}
use Rattle.records.specs.Model.{RecordModel}
use Rattle.rules.specs.Rules.{zone, formula}
use Rattle.rules.specs.declared.rule.Rule.{Rule}
use Rattle.scales.specs.Model.{ScaleModel}
use Rattle.watches.specs.Readings.{steps_at}
use Rattle.firmware.specs.Plays.{Listed}

module _ {Reading Margin Told : Type 0} (sm : ScaleModel Reading Margin) (whole : Told → Option ℤ) (rule : Rule) (rm : RecordModel Reading) (list : List Told) where
  -- the margin at a poll, as it is told
  abbrev told : ℕ → Option ℤ
  told t = Some (margin sm.mark (zone rule) (formula rule) (steps_at sm rm) t)

  pub record Listing (rows : ℕ) (list' : List Told) (n : ℕ) : Type 0 where
    pub listed : Listed sm whole rule rm rows list list' n
    pub long : length list' ≡ length list

  pub none_listed : Listing 0 list 0
  unfolding polls
  none_listed = record { listed = record { count = omega arith; margins = refl; behind = refl }; long = refl }

  -- a row more that gives no margin, or one for which the list has no place
  pub no_more : (rows n : ℕ) (list' : List Told) → min (rows + 1 - horizon (formula rule)) (length list) ≡ min (rows - horizon (formula rule)) (length list) → Listing rows list' n → Listing (rows + 1) list' n
  no_more rows n list' same l = record { listed = record { count = l.listed.count ∙ sym same; margins = l.listed.margins; behind = l.listed.behind }; long = l.long }

  one_poll : (n : ℕ) → map told (polls 0 (n + 1)) ≡ map told (polls 0 n) ++ (told n ∷ [])
  unfolding polls
  one_poll n = map-range_with_len_more told 0 n n (omega arith)

  -- a row more whose margin is written
  pub one_more : (rows n k : ℕ) (list' : List Told) (x : Told) → k ≡ n + 1 → n < length list' → horizon (formula rule) < rows + 1 → whole x ≡ told (rows + 1 - 1 - horizon (formula rule))
      → Listing rows list' n → Listing (rows + 1) (set list' n x) k
  one_more rows n k list' x ek below late is l = record {
    listed = record {
      count = omega (arith, l.listed.count, l.long);
      margins = ap (λ j. map whole (take j (set list' n x))) ek ∙ ap (map whole) (take_more_set list' n x below) ∙ map-append whole (take n list') (x ∷ [])
          ∙ ap (λ ys. ys ++ (whole x ∷ [])) l.listed.margins ∙ ap (λ v. map told (polls 0 n) ++ (v ∷ [])) (is ∙ ap told at)
          ∙ sym (one_poll n) ∙ ap (λ j. map told (polls 0 j)) (sym ek);
      behind = ap (λ j. drop j (set list' n x)) ek ∙ drop-set-lt (n + 1) list' n x (omega arith) ∙ drop_more_same list' list n l.listed.behind ∙ ap (λ j. drop j list) (sym ek);
    };
    long = length-set list' n x ∙ l.long;
  }
    where
      at : rows + 1 - 1 - horizon (formula rule) ≡ n
      at = omega (arith, l.listed.count, l.long)
