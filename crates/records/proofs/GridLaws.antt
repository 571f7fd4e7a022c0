-- What a grid's numbers give. Assumes nothing.
use Rattle.std.proofs.Common.{◌≡◌, ℕ, ◌+◌, ◌*◌, ◌<◌, Bool, true, false, cond, ◌&&◌, eqb, ltb, List, length, get_or, Some, None, sym, refl, ap, ◌∙◌, arith}
use Rattle.std.specs.List.{slice_get}
use Rattle.std.proofs.lemmas.Nat.{mul-add-lt}
use Rattle.std.proofs.lemmas.Option.{slice_get-get_or}
use Rattle.std.proofs.lemmas.Bool.{eqb-true}
use Rattle.records.specs.Limits.{numbers_fault}
use Rattle.records.specs.Grid.{grid_fault, grid_kept, grid_record}
use Rattle.records.specs.declared.refusals.RecordFault.{RecordFault}
use Rattle.records.proofs.ModelLaws.{neither, passed, numbers_fit, at_within, inside}

filled : (b : Bool) (f : RecordFault) → cond b None (Some f) ≡ None → b ≡ true
filled true f e = refl
filled false f e = cc

pub whole : (heads polls n : ℕ) → grid_fault heads polls n ≡ None → n ≡ heads * polls
whole heads polls n e = eqb-true n (heads * polls) (filled (eqb n (heads * polls)) _ (neither (numbers_fault heads polls) _ e).1)

-- the place of a reading lies within the readings
pub place_below : (heads polls n h t p : ℕ) → grid_kept heads polls n ≡ true → true ≡ (ltb h heads && ltb t polls) → p ≡ t * heads + h → p < n
place_below heads polls n h t p k o is =
    let in_size = inside heads polls h t o in
    let oh = in_size.0 in
    let ot = in_size.1 in
    omega (arith, whole heads polls n (passed (grid_fault heads polls n) heads polls h k oh), mul-add-lt t heads h polls ot oh)

pub read : {T : Type 0} (heads polls : ℕ) (xs : List T) (h t p : ℕ) (d : T) → grid_kept heads polls (length xs) ≡ true → true ≡ (ltb h heads && ltb t polls) → p ≡ t * heads + h → Some (get_or xs p d) ≡ (grid_record heads polls xs).at h t
read heads polls xs h t p d k o is =
    let in_size = inside heads polls h t o in
    let oh = in_size.0 in
    let ot = in_size.1 in
    let ok = passed (grid_fault heads polls (length xs)) heads polls h k oh in
    let fit = numbers_fit heads polls (neither (numbers_fault heads polls) _ ok).0 in
    sym (at_within heads polls _ (grid_fault heads polls (length xs)) h t ok fit.1 fit.2 oh ot
    ∙ ap (slice_get xs) (sym is)
    ∙ slice_get-get_or xs p d (place_below heads polls (length xs) h t p k o is))
