use Rattle.std.proofs.Common.{◌≡◌, ℕ, ◌<◌, List, [], ◌∷◌, subst, ap, rules}
use Rattle.std.proofs.lemmas.List.Folds.{list_any-append}
use Rattle.entries.proofs.Listing.{among-append}
use Rattle.std.proofs.lemmas.Fn.{fold_over, slice_gives, fronts}
use Rattle.std.specs.List.{list_any}
use Rattle.formulas.specs.Formula.{among}
use Rattle.entries.specs.Heads.{head_total, heads}
use Rattle.entries.specs.declared.entry.Entry.{Entry}
use Rattle.entries.specs.declared.heads.HeadSet.{HeadSet}
use Rattle.rules.specs.Totals.{entry_reads}
use Rattle.rules.proofs.draft.Draft.heads_read.Goals as goal

abbrev Reads : List ℕ → List Entry → HeadSet → Type 0
Reads zone es read = (h : ℕ) → h < head_total → among h (heads read.bits) ≡ list_any (entry_reads zone h) es

pub returns : goal.returns
returns c =
    let z = heads c.args.self.now.zone.bits in
    subst (λ es. Reads z es c.fold.result) c.iter.ensures.rest
    (fold_over fronts (λ y. y.now) _ (Reads z) _ (λ ys a x b f' j k. (λ h low. let more = list_any-append (entry_reads z h) ys (x.now ∷ []) in let had = j h low in search (rules, among-append), search rules)) _ _ _ _ (slice_gives c.iter.result) (λ h low. ap (among h) c.empty.ensures) c.fold.ensures.ran)
