-- The rules of a sheet, one after another. Assumes nothing.
use Rattle.std.proofs.Common.{◌≡◌, ℕ, suc, ◌+◌, ◌<◌, ◌≤◌, List, drop, length, get_or, None, Err, sym, ap, ◌∙◌, drop-cons, arith}
use Rattle.std.proofs.Math.ListN.{drop_of_length-le}
use Rattle.std.specs.Option.{option_or}
use Rattle.records.specs.Model.{RecordModel}
use Rattle.rules.specs.declared.place.RulePlace.{RulePlace}
use Rattle.scales.specs.Model.{ScaleModel}
use Rattle.desk.specs.Rows.{place_fault, sheet_fault}
use Rattle.desk.specs.Told.{TellsFirst, IsNothing, IsOutput}
use Rattle.desk.specs.declared.trouble.Trouble.{Trouble}
use Rattle.desk.specs.declared.trouble.Trouble.TheVariants.{Refused, Memory, Output}

module _ {Reading Margin : Type 0} (sm : ScaleModel Reading Margin) (rm : RecordModel Reading) where
  pub all_places : (places : List RulePlace) (i : ℕ) → length places ≤ i → sheet_fault sm places rm ≡ sheet_fault sm (drop i places) rm → sheet_fault sm places rm ≡ None
  all_places places i past e = e ∙ ap (λ s. sheet_fault sm s rm) (drop_of_length-le places past)

  module _ (places : List RulePlace) (i : ℕ) (place : RulePlace) (lt : i < length places) (is : place ≡ get_or places i place) (so_far : sheet_fault sm places rm ≡ sheet_fault sm (drop i places) rm) where
    split : sheet_fault sm places rm ≡ option_or (place_fault sm place rm) (sheet_fault sm (drop (i + 1) places) rm)
    split =
        let more : suc i ≡ i + 1 = omega arith in
        so_far ∙ ap (λ s. sheet_fault sm s rm) (drop-cons places i place lt)
        ∙ ap (λ p. option_or (place_fault sm p rm) (sheet_fault sm (drop (suc i) places) rm)) (sym is) ∙ ap (λ k. option_or (place_fault sm place rm) (sheet_fault sm (drop k places) rm)) more

    pub next_place : place_fault sm place rm ≡ None → sheet_fault sm places rm ≡ sheet_fault sm (drop (i + 1) places) rm
    next_place none = split ∙ ap (λ o. option_or o (sheet_fault sm (drop (i + 1) places) rm)) none

    pub place_stops : (A B : Type 0) (e : Trouble) → TellsFirst {A = A} IsNothing (place_fault sm place rm) (Err e) → TellsFirst {A = B} IsOutput (sheet_fault sm places rm) (Err e)
    place_stops A B (Refused fault) h = split ∙ ap (λ o. option_or o (sheet_fault sm (drop (i + 1) places) rm)) h
    place_stops A B Memory h = tt
    place_stops A B Output h = absurd h
