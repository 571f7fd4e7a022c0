-- What a log that passed its check keeps. Assumes nothing.
use Rattle.std.proofs.Common.{◌≡◌, ℕ, true, not, ◌&&◌, ◌||◌, eqb, List, [], is_some, Some, None, Option, refl, ap, ◌∙◌}
use Rattle.std.specs.Option.{option_or, option_map}
use Rattle.logs.specs.declared.entries.LogEntry.{LogEntry}
use Rattle.records.specs.declared.refusals.RecordFault.{RecordFault}
use Rattle.logs.specs.declared.refusals.LogFault.TheVariants.{Record}
use Rattle.records.specs.Limits.{numbers_fault}
use Rattle.logs.specs.Log.{first_fault, log_fault, log_kept, log_record}
use Rattle.logs.specs.declared.timeline.Timeline.{Timeline}
use Rattle.logs.specs.Timeline.{IsOf, told_by}

pub not_carried : (o : Option RecordFault) → option_map Record o ≡ None → o ≡ None
not_carried None e = refl
not_carried (Some f) e = cc

-- a log that passed its check
pub kept : (heads polls : ℕ) (es : List LogEntry) → numbers_fault heads polls ≡ None → first_fault heads polls 0 [] es ≡ None → log_kept heads polls es ≡ true
kept heads polls es fit ok =
    let none : log_fault heads polls es ≡ None = ap (λ o. option_or (option_map Record o) (first_fault heads polls 0 [] es)) fit ∙ ok in
    ap (λ o. not (is_some o) || (eqb heads 0 && eqb polls 0)) none

pub told_of : {T : Type 0} (spelled : ℕ → T) (s : T) (heads polls : ℕ) (es : List LogEntry) (t : Timeline) → IsOf heads polls es t → told_by spelled t s ≡ log_record spelled heads polls es s
told_of spelled s heads polls es t is =
    ap (λ h. log_record spelled h t.size.polls t.entries.now s) is.heads_are
    ∙ ap (λ p. log_record spelled heads p t.entries.now s) is.polls_are
    ∙ ap (λ xs. log_record spelled heads polls xs s) is.entries_are
