-- What a record made by a check shows. Assumes nothing.
use Rattle.std.proofs.Common.{◌≡◌, ℕ, ◌<◌, ◌≤◌, Bool, true, false, cond, not, ◌&&◌, ◌||◌, eqb, ltb, is_some, Some, None, Ok, Err, IfOk, Option, Result, sym, refl, ap, ◌∙◌, arith}
use Rattle.std.specs.Option.{option_or}
use Rattle.std.specs.Result.{result_err, result_unwrap_or}
use Rattle.std.proofs.lemmas.Bool.{lt-ltb, ltb-true, and_from, and_parts, cond-true, le-leb}
use Rattle.std.proofs.lemmas.Bool.Decides.{nat_tests}
use Rattle.faults.specs.Checks.{checked}
use Rattle.records.specs.Model.{RecordModel, empty_record, unless, sized, table, table_if, most_heads, most_polls}
use Rattle.records.specs.Limits.{numbers_fault}
use Rattle.records.specs.declared.refusals.RecordFault.TheVariants.{HeadsOutOfRange, TooManyPolls}

module _ {F : Type 0} where
  -- of two faults that are not there
  pub neither : (a b : Option F) → option_or a b ≡ None → (a ≡ None) × (b ≡ None)
  neither None b e = (refl, e)
  neither (Some f) b e = cc

  pub no_fault : (o : Option F) → Ok tt ≡ checked o → o ≡ None
  no_fault None e = refl
  no_fault (Some f) e = cc

  pub this_fault : (o : Option F) (f : F) → Err f ≡ checked o → o ≡ Some f
  this_fault None f e = cc
  this_fault (Some g) f e = cc

  -- a cond that gives no fault
  pub passes_by : (b : Bool) (f : F) (o : Option F) → cond b (Some f) o ≡ None → (b ≡ false) × (o ≡ None)
  passes_by true f o e = cc
  passes_by false f o e = (refl, e)

  -- what was kept with heads has passed its check
  pub passed : (o : Option F) (heads polls h : ℕ) → (not (is_some o) || (eqb heads 0 && eqb polls 0)) ≡ true → h < heads → o ≡ None
  passed None heads polls h k lt = refl
  passed (Some f) heads polls h k lt = let z : false ≡ true = grind (arith, nat_tests) in absurd (grind arith)

pub numbers_fit : (heads polls : ℕ) → numbers_fault heads polls ≡ None → (0 < heads) × (heads ≤ most_heads) × (polls ≤ most_polls)
numbers_fit heads polls e =
    let p = passes_by (eqb heads 0 || ltb most_heads heads) (HeadsOutOfRange heads) (cond (ltb most_polls polls) (Some (TooManyPolls polls)) None) e in
    let q = p.0 in
    let r = (passes_by (ltb most_polls polls) (TooManyPolls polls) None p.1).0 in
    (grind (arith, nat_tests), grind (arith, nat_tests), grind (arith, nat_tests))

module _ {T : Type 0} (heads polls : ℕ) (f : ℕ → ℕ → Option T) where
  at_if : (fits : Bool) (s : sized heads polls ≡ fits) (h t : ℕ) → fits ≡ true → h < heads → t < polls → (table_if heads polls fits s f).at h t ≡ f h t
  at_if true s h t o oh ot = cond-true _ _ _ (and_from _ _ (lt-ltb h heads oh) (lt-ltb t polls ot))
  at_if false s h t o oh ot = cc

  pub at_within : {F : Type 0} (o : Option F) (h t : ℕ) → o ≡ None → heads ≤ most_heads → polls ≤ most_polls → h < heads → t < polls → (unless o (table heads polls f)).at h t ≡ f h t
  at_within None h t e few short oh ot = at_if (sized heads polls) refl h t (and_from _ _ (le-leb heads most_heads few) (le-leb polls most_polls short)) oh ot
  at_within (Some g) h t e few short oh ot = cc

-- a refused record is the empty one
pub refused : {T F : Type 0} (o : Option F) (f : F) (m : RecordModel T) → Err f ≡ checked o → unless o m ≡ empty_record
refused None f m e = cc
refused (Some g) f m e = refl

-- what is made of a check's answer is the empty record where there is a fault
pub made_or_empty : {G T F : Type 0} (r : Result G F) (d : G) (m : G → RecordModel T) (o : Option F) (model : RecordModel T) → result_err r ≡ o → IfOk r (λ g. m g ≡ unless o model) → m d ≡ empty_record → m (result_unwrap_or r d) ≡ unless o model
made_or_empty (Ok g) d m o model e k z = k
made_or_empty (Err f) d m o model e k z = z ∙ ap (λ p. unless p model) e

-- a head and a poll that lie within
pub inside : (heads polls h t : ℕ) → true ≡ (ltb h heads && ltb t polls) → (h < heads) × (t < polls)
inside heads polls h t e = let p = and_parts (ltb h heads) (ltb t polls) (sym e) in (ltb-true h heads p.0, ltb-true t polls p.1)
