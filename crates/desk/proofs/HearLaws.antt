-- What a listener has heard while a rule is followed. Assumes nothing.
use Rattle.std.proofs.Common.{◌≡◌, ℕ, ◌+◌, ◌-◌, ◌<◌, ◌≤◌, Bool, true, false, cond, leb, List, length, Some, None, Ok, Err, Option, sym, refl, ap, ◌∙◌, subst, arith}
use Rattle.std.proofs.lemmas.Bool.{leb-true, leb-false}
use Rattle.faults.specs.Checks.{checked}
use Rattle.formulas.specs.Formula.{horizon}
use Rattle.layout.specs.Rows.{cells_of}
use Rattle.records.specs.Model.{RecordModel}
use Rattle.rules.specs.Rules.{formula}
use Rattle.rules.specs.declared.rule.Rule.{Rule}
use Rattle.scales.specs.Model.{ScaleModel}
use Rattle.scales.specs.declared.verdict.Verdict.{Verdict}
use Rattle.scales.specs.declared.verdict.VerdictMargin.{VerdictMargin}
use Rattle.watches.proofs.RowFaults.{some_told}
use Rattle.watches.proofs.SurveyLaws.{no_polls, poll_fine, poll_fault}
use Rattle.watches.specs.Readings.{row_fault}
use Rattle.watches.specs.Surveys.{polls_fault}
use Rattle.watches.specs.Watching.{Made}
use Rattle.watches.specs.declared.refusals.WatchFault.{WatchFault}
use Rattle.watches.specs.declared.watch.Watch.{Watch}
use Rattle.desk.specs.Answers.{answers_of, Hears}
use Rattle.desk.specs.Follows.{Follows}
use Rattle.desk.specs.Pairs.{FollowsBoth, BothTaken, verdicts_over}
use Rattle.desk.proofs.FollowLaws.{made_follows}
use Rattle.desk.specs.Told.{TellsFirst, IsOutside}
use Rattle.desk.specs.declared.answered.Answered.{Answered}
use Rattle.desk.specs.declared.trouble.Trouble.{Trouble}
use Rattle.desk.specs.declared.trouble.Trouble.TheVariants.{Refused, Memory, Output}

-- n polls are taken with no fault, both watches have followed them, and all their answers are heard
pub record Heard {S Reading Margin L : Type 0} (model : S → ScaleModel Reading Margin) (rule : Rule) (scale : S) (rm : RecordModel Reading) (heard : L → L → ℕ → (ℕ → Answered) → Type 0) (n : ℕ)
    (w : Watch S) (v : Watch (Verdict S)) (cells : List Margin) (cells' : List VerdictMargin) (l l' : L) : Type 0 where
  pub fine : polls_fault (model scale) rule rm 0 n ≡ None
  pub follows : FollowsBoth model rule scale rm n w v cells cells'
  pub hears : Hears heard (answers_of (model scale) rule rm) (n - horizon (formula rule)) l l'

module _ {S Reading Margin L : Type 0} (model : S → ScaleModel Reading Margin) (rule : Rule) (scale : S) (rm : RecordModel Reading) (heard : L → L → ℕ → (ℕ → Answered) → Type 0) where
  pub begins : (over : Verdict S) (w : Watch S) (v : Watch (Verdict S)) (cells : List Margin) (cells' : List VerdictMargin) (l : L) → over.lower ≡ scale → Made model rule scale w → Made (verdicts_over model) rule over v
      → cells_of rule ≤ length cells → cells_of rule ≤ length cells' → Heard model rule scale rm heard 0 w v cells cells' l l
  begins over w v cells cells' l e made made' enough enough' = record {
    fine = no_polls (model scale) rule rm 0;
    follows = record {
      margins = made_follows model rule scale rm w cells enough made;
      verdicts = subst (λ s. Follows (verdicts_over model) rule (record { lower = s }) rm 0 v cells') e (made_follows (verdicts_over model) rule over rm v cells' enough' made');
    };
    hears = λ first h. let none : 0 - horizon (formula rule) ≡ 0 = omega arith in subst (λ k. heard first l k (answers_of (model scale) rule rm)) (sym none) h;
  }

  module _ (n : ℕ) (w : Watch S) (v : Watch (Verdict S)) (cells : List Margin) (vs : List VerdictMargin) (l l' : L) (inv : Heard model rule scale rm heard n w v cells vs l l') where
    no_fault : row_fault (model scale) rule rm n ≡ None → polls_fault (model scale) rule rm 0 (n + 1) ≡ None
    no_fault e =
        let from : 0 + n ≡ n = omega arith in
        poll_fine (model scale) rule rm 0 n (sym (ap (λ p. checked (row_fault (model scale) rule rm p)) from ∙ ap checked e)) inv.fine

    pub stopped : (e : WatchFault) → n < rm.polls → row_fault (model scale) rule rm n ≡ Some e → polls_fault (model scale) rule rm 0 rm.polls ≡ Some e
    stopped e within is =
        let from : 0 + n ≡ n = omega arith in
        some_told (polls_fault (model scale) rule rm 0 rm.polls) e
        (poll_fault (model scale) rule rm 0 n rm.polls e within (sym (ap (λ p. checked (row_fault (model scale) rule rm p)) from ∙ ap checked is)) inv.fine)

    module _ (w' : Watch S) (v' : Watch (Verdict S)) (cells' : List Margin) (vs' : List VerdictMargin) where
      pub silent : BothTaken model rule scale rm n w' v' cells' vs' (Ok None) → Heard model rule scale rm heard (n + 1) w' v' cells' vs' l l'
      silent t = record {
        fine = no_fault t.told;
        follows = t.follows;
        hears = λ first h. subst (λ k. heard first l' k (answers_of (model scale) rule rm)) (early (leb (n + 1) (horizon (formula rule))) refl t.answers) (inv.hears first h);
      }
        where
          early : (b : Bool) → leb (n + 1) (horizon (formula rule)) ≡ b → None ≡ cond b None (Some (answers_of (model scale) rule rm (n + 1 - 1 - horizon (formula rule)))) → n - horizon (formula rule) ≡ n + 1 - horizon (formula rule)
          early true e q = let few = leb-true (n + 1) (horizon (formula rule)) e in omega arith
          early false e q = absurd (cc)

      pub spoken : (a : Answered) (l'' : L) → n < rm.polls → BothTaken model rule scale rm n w' v' cells' vs' (Ok (Some a))
          → ((first : L) (answers : ℕ → Answered) (k : ℕ) → k < 16777216 → a ≡ answers k → heard first l' k answers → heard first l'' (k + 1) answers)
          → Heard model rule scale rm heard (n + 1) w' v' cells' vs' l l''
      spoken a l'' within t hear = record {
        fine = no_fault t.told;
        follows = t.follows;
        hears = λ first h.
            let late = late_by (leb (n + 1) (horizon (formula rule))) refl t.answers in
            let few = rm.few_polls in
            let room : n - horizon (formula rule) < 16777216 = omega arith in
            let more : n - horizon (formula rule) + 1 ≡ n + 1 - horizon (formula rule) = let after = late.0 in omega arith in
            subst (λ k. heard first l'' k (answers_of (model scale) rule rm)) more (hear first (answers_of (model scale) rule rm) (n - horizon (formula rule)) room late.1 (inv.hears first h));
      }
        where
          late_by : (b : Bool) → leb (n + 1) (horizon (formula rule)) ≡ b → Some a ≡ cond b None (Some (answers_of (model scale) rule rm (n + 1 - 1 - horizon (formula rule)))) → (horizon (formula rule) < n + 1) × (a ≡ answers_of (model scale) rule rm (n - horizon (formula rule)))
          late_by true e q = absurd (cc)
          late_by false e q =
              let after = leb-false (n + 1) (horizon (formula rule)) e in
              let same : n + 1 - 1 - horizon (formula rule) ≡ n - horizon (formula rule) = omega arith in
              let own : a ≡ answers_of (model scale) rule rm (n + 1 - 1 - horizon (formula rule)) = cc in
              (omega arith, own ∙ ap (answers_of (model scale) rule rm) same)

-- what lies outside the record tells no refusal
pub outside_tells : (A : Type 0) (stops : Trouble → Type 0) (first : Option WatchFault) (t : Trouble) → IsOutside t → (t ≡ Output → stops Output) → TellsFirst {A = A} stops first (Err t)
outside_tells A stops first (Refused fault) h s = absurd h
outside_tells A stops first Memory h s = tt
outside_tells A stops first Output h s = s refl
