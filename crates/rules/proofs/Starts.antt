-- The starting rule, and what places hold. Assumes nothing.
use Rattle.std.proofs.Common.{◌≡◌, ℕ, ◌<◌, cond, leb, take, List, [], ◌∷◌, IsOk, Result, Ok, Err, refl, ap, ◌∙◌, arith}
use Rattle.std.proofs.lemmas.Bool.{cond-false, cond-true, lt-leb, le-leb}
use Rattle.formulas.specs.Formula.{Formula}
use Rattle.entries.specs.Heads.{heads}
use Rattle.entries.specs.declared.entry.Entry.{Entry}
use Rattle.rules.specs.Assemble.{assemble, stack, starting}
use Rattle.rules.specs.Places.{start_entry, or_starting, place_means, means}
use Rattle.rules.specs.Rules.{zone, listed, made}
use Rattle.rules.specs.declared.fault.RuleFault.{RuleFault}
use Rattle.rules.specs.declared.fault.RuleFault.TheVariants.{EntryCount}
use Rattle.rules.specs.declared.place.RulePlace.{RulePlace}
use Rattle.rules.specs.declared.rule.Rule.{Rule}
use Rattle.rules.proofs.Standing.{passes}

at_one : assemble (0 ∷ []) (start_entry ∷ []) ≡ Ok starting
unfolding assemble stack
at_one = refl

pub starts : (z : List ℕ) → z ≡ 0 ∷ [] → assemble z (start_entry ∷ []) ≡ Ok starting
starts z e = ap (λ y. assemble y (start_entry ∷ [])) e ∙ at_one

pub fresh_means : (z : List ℕ) → z ≡ 0 ∷ [] → or_starting z (assemble z (start_entry ∷ [])) ≡ (starting, 0 ∷ [])
fresh_means z e = ap (or_starting z) (starts z e) ∙ ap (λ (y : List ℕ). (starting, y)) e

none : (z : List ℕ) → assemble z [] ≡ Err (EntryCount 0)
unfolding assemble
none z = refl

pub overfull : (p : RulePlace) → 24 < p.count → place_means p ≡ (starting, 0 ∷ [])
overfull p h =
    ap (λ es. or_starting (heads p.zone.bits) (assemble (heads p.zone.bits) es)) (cond-false _ _ _ (lt-leb p.count 24 h))
    ∙ ap (or_starting (heads p.zone.bits)) (none (heads p.zone.bits))

-- a row with the entries and the zone of a rule
pub holds_rule : (r : Rule) (n : ℕ) (es : List Entry) → n ≡ r.lines.count → take r.lines.count es ≡ listed r → or_starting (zone r) (assemble (zone r) (cond (leb n 24) (take n es) [])) ≡ means r
holds_rule r n es count same =
    ap (λ xs. or_starting (zone r) (assemble (zone r) xs)) (cond-true _ _ _ (le-leb n 24 (omega (arith, count, r.lines.few))) ∙ ap (λ k. take k es) count ∙ same)
    ∙ ap (or_starting (zone r)) (passes r).is

-- what the starting entry makes
pub makes_starting : (r : Result Rule RuleFault) (z : List ℕ) → z ≡ 0 ∷ [] → made r ≡ assemble z (start_entry ∷ []) → IsOk r
makes_starting (Ok r) z e is = refl
makes_starting (Err f) z e is = let s = starts z e in absurd (cc)

pub only_starting : (z : List ℕ) (φ : Formula) → z ≡ 0 ∷ [] → Ok φ ≡ assemble z (start_entry ∷ []) → φ ≡ starting
only_starting z φ e is = let s = starts z e in cc
