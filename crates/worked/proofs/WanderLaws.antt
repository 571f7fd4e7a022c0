-- Why heads may wander by one step fewer than a margin's size. Assumes nothing.
use Rattle.std.proofs.Common.{◌≡◌, ℕ, zero, suc, ◌-◌, ◌<◌, ◌≤◌, List, [], ◌∷◌, length, ℤ, pos, nat_abs, ◌<ℤ◌, Some, None, Ok, Err, Option, Result, sym, refl, ap, ◌∙◌, subst, arith}
use Rattle.std.specs.Option.{SomeIff}
use Rattle.std.specs.Result.{result_ok}
use Rattle.std.proofs.lemmas.Int.{ints, by_lt_z}
use Rattle.layout.specs.Rows.{Row, signal}
use Rattle.records.specs.Model.{RecordModel}
use Rattle.rules.specs.declared.rule.Rule.{Rule}
use Rattle.scales.specs.Counts.{counts}
use Rattle.scales.specs.declared.bounded.Bounded.{Bounded}
use Rattle.watches.specs.Calls.{meant}
use Rattle.watches.specs.Runs.{Call, accepted, Run}
use Rattle.watches.specs.Watching.{Made, Played}
use Rattle.watches.specs.Worth.{DefinedNearSafeTight, AfterEveryRun, verdict_at}
use Rattle.watches.specs.declared.answers.Answer.{Answer}
use Rattle.watches.specs.declared.answers.Answer.TheVariants.{Waiting, At}
use Rattle.watches.specs.declared.answers.Play.{Play}
use Rattle.watches.specs.declared.refusals.WatchFault.{WatchFault}
use Rattle.watches.specs.declared.watch.Watch.{Watch}
use Rattle.watches.proofs.WorthLaws.{answered_poll}
use Rattle.worked.specs.Wander.{less_one, wander, SafeTo, Wanders}

none_some : {A : Type 0} (d : ℕ) → None ≡ Some d → A
none_some d e = absurd (cc)

one_less : (n d : ℕ) → less_one n ≡ Some d → n ≡ suc d
one_less zero d e = none_some d e
one_less (suc n) d e = cc

pub checked_less : (n k : ℕ) (o : Option ℕ) → k ≡ 1 → SomeIff o (k ≤ n) (n - k) → o ≡ less_one n
checked_less zero k None e h = refl
checked_less zero k (Some x) e h = absurd (omega (arith, h.0))
checked_less (suc n) k None e h = absurd (h (omega arith))
checked_less (suc n) k (Some x) e h = ap Some (omega (arith, h.1))

-- what an answer comes to, where there is one
abbrev pub wander_of : Option (Answer (Bounded 1114111)) → Option ℕ
wander_of None = None
wander_of (Some a) = wander (meant counts.whole (Ok a))

pub by_ok : (r : Result (Answer (Bounded 1114111)) WatchFault) → wander (meant counts.whole r) ≡ wander_of (result_ok r)
by_ok (Ok a) = refl
by_ok (Err e) = refl

module _ (rule : Rule) (rows : List Row) (lent : ℕ) where
  safe_to : (a : Result (Answer (Bounded 1114111)) WatchFault) → DefinedNearSafeTight counts rule rows lent a → (d : ℕ) → wander (meant counts.whole a) ≡ Some d → SafeTo rule rows d
  safe_to (Ok (Waiting k)) worth d e truth within = none_some d e
  safe_to (Err f) worth d e truth within = none_some d e
  safe_to (Ok (At t m)) worth d e truth within =
      let far : d < nat_abs m.value = omega (arith, one_less (nat_abs m.value) d e) in
      let both = worth.safe (λ z. refl) t m refl truth d within far in
      subst (λ p. verdict_at counts rule truth p ≡ verdict_at counts rule (signal rows) p) (answered_poll counts rule rows lent (Ok (At t m)) worth.defined t m refl)
      (by_lt_z (pos 0) m.value (λ up. (both.0 up).1 ∙ sym (both.0 up).0) (λ le. let down : m.value <ℤ pos 0 = omega (arith, ints) in (both.1 down).1 ∙ sym (both.1 down).0))

  wanders : (a : Result (Answer (Bounded 1114111)) WatchFault) (r : Option ℕ) → DefinedNearSafeTight counts rule rows lent a → r ≡ wander (meant counts.whole a) → Wanders rule rows lent r
  wanders a r worth e = record { value = e ∙ ap wander worth.defined; safe = λ d is. safe_to a worth d (sym e ∙ is) }

-- a play and then an ask, by their contracts
module _ {S : Type 0} (rule : Rule) (scale : S) (rm : RecordModel ℤ) (first last : ℕ) (w w' : Watch S) (cells cells' : List (Bounded 1114111)) (p : Play) where
  pub played_and_asked : (a : Result (Answer (Bounded 1114111)) WatchFault) (r : Option ℕ) → Made (λ _. counts) rule scale w → Played (λ _. counts) rm first last w cells w' cells' p → AfterEveryRun (λ _. counts) w' cells' a → r ≡ wander (meant counts.whole a)
      → Wanders rule (accepted counts rule (Call.play rm first last (length cells) ∷ [])) (length cells) r
  played_and_asked a r made played worth e =
      wanders rule (accepted counts rule (Call.play rm first last (length cells) ∷ [])) (length cells) a r
      (subst (λ n. DefinedNearSafeTight counts rule (accepted counts rule (Call.play rm first last (length cells) ∷ [])) n a) played.advances.same_length
      (worth rule scale (Call.play rm first last (length cells) ∷ []) [] (Run.play cells cells' [] (Run.made made) played))) e
