-- What a rule is made of, once its entries were walked through. Assumes nothing.
use Rattle.std.proofs.Common.{◌≡◌, ℕ, ◌+◌, ◌-◌, ◌*◌, ◌^◌, ◌<◌, ◌≤◌, Bool, true, false, cond, List, length, get_or, Ok, sym, ap, ◌∙◌, ap₂, ⊎_elim, arith}
use Rattle.std.proofs.lemmas.Bool.{cases_lt, cases_Bool}
use Rattle.std.proofs.lemmas.List.{get_or_default}
use Rattle.formulas.specs.Formula.{Formula, head_test, zone_test, complement, either, both, window, among, horizon, reads}
use Rattle.entries.proofs.Listing.{low_head}
use Rattle.entries.specs.Heads.{head_total, heads}
use Rattle.entries.specs.declared.entry.Entry.{Entry}
use Rattle.rules.specs.Assemble.{newest, stack, assemble, fair_count, fair_heads, formula_of}
use Rattle.rules.specs.Lawful.{Ranged, Lawful}
use Rattle.rules.specs.Needs.{need, widths, zone_tested}
use Rattle.rules.specs.Spans.{Spanned, no_line}
use Rattle.rules.specs.Spelling.{entries, spelled, Spells}
use Rattle.std.specs.List.{list_any, sum_by}
use Rattle.rules.specs.Totals.{entry_reads, tests_zone, entry_width}
use Rattle.rules.specs.declared.line.Line.{Line}
use Rattle.rules.proofs.Adding.{reads_is, zone_is, widths_is}
use Rattle.rules.proofs.Assembling.{spells_formula, lawful_formula}
use Rattle.rules.proofs.Grounds.{Passed, passed_by, accepted}
use Rattle.rules.proofs.Ranges.{written_length, spelled-length, reads_within}

-- the entries es were walked through in the zone with the bits y
pub record WalkedAll (y : ℕ) (es : List Entry) (t : List Line) : Type 0 where
  pub count : fair_count (length es) ≡ true
  pub many : fair_heads (length (heads y)) ≡ true
  pub left : (st : List Formula) × (stack (heads y) es (length es) ≡ Ok st)
  pub spanned : Spanned (heads y) es t (length es)
  pub room : length es ≤ length t

widths_within : (z : List ℕ) (φ : Formula) → Ranged z φ → widths φ ≤ 1440 * entries φ
widths_within z (head_test h s l) r = omega arith
widths_within z (zone_test k s l) r = omega arith
widths_within z (complement φ) r = omega (arith, widths_within z φ r)
widths_within z (either φ ψ) r = omega (arith, widths_within z φ r.0, widths_within z ψ r.1)
widths_within z (both φ ψ) r = omega (arith, widths_within z φ r.0, widths_within z ψ r.1)
widths_within z (window a b p φ) r = omega (arith, widths_within z φ r.1, r.0.1)

module _ {y : ℕ} {es : List Entry} {t : List Line} (w : WalkedAll y es t) where
  passes : Passed (heads y) es
  passes = passed_by (heads y) es (newest w.left.0) (accepted (heads y) es w.left.0 w.count w.many w.left.1)

  pub is_some : assemble (heads y) es ≡ Ok (formula_of (heads y) es)
  is_some = passes.is

  spells_it : Spells es (formula_of (heads y) es)
  spells_it = spells_formula (heads y) es (formula_of (heads y) es) is_some

  lawful_is : Lawful (heads y) (formula_of (heads y) es)
  lawful_is = lawful_formula (heads y) es (formula_of (heads y) es) is_some

  pub entries_is : length es ≡ entries (formula_of (heads y) es)
  entries_is = written_length es (spelled (formula_of (heads y) es)) spells_it ∙ spelled-length (formula_of (heads y) es)

  pub horizon_is : (d : Line) → (get_or t (length es - 1) d).span.horizon ≡ horizon (formula_of (heads y) es)
  horizon_is d =
      let within : length es - 1 < length t = omega (arith, passes.fair.some, w.room) in
      ap (λ x. x.span.horizon) (get_or_default t (length es - 1) d no_line within) ∙ ap (λ s. s.horizon) (w.spanned (length es - 1) (omega (arith, passes.fair.some))) ∙ ap horizon (sym passes.whole)

  pub horizon_near : (d : Line) → (get_or t (length es - 1) d).span.horizon ≤ 4095
  horizon_near d = omega (arith, horizon_is d, lawful_is.near)

  pub some_entries : 1 ≤ length es
  some_entries = passes.fair.some

  pub few_entries : length es ≤ 24
  few_entries = passes.fair.few

  pub few_heads : length (heads y) ≤ 32
  few_heads = passes.fair.near

  -- the polls of all windows
  pub widths_few : sum_by entry_width es ≤ 1440 * 24
  widths_few = omega (arith, widths_is es (formula_of (heads y) es) spells_it, widths_within (heads y) (formula_of (heads y) es) lawful_is.ranged, lawful_is.few_entries)

  -- the heads read
  pub read_is : (x : ℕ) → y < 2 ^ head_total → x < 2 ^ head_total → ((h : ℕ) → h < head_total → among h (heads x) ≡ list_any (entry_reads (heads y) h) es) → (h : ℕ) → among h (heads x) ≡ reads (heads y) (formula_of (heads y) es) h
  read_is x small fits f h =
      ⊎_elim
      (λ (q : h < head_total). f h q ∙ reads_is (heads y) h es (formula_of (heads y) es) spells_it)
      (λ (q : head_total ≤ h). not_head x fits q ∙ sym (unread small q))
      (cases_lt h head_total)
    where
      not_head : (n : ℕ) → n < 2 ^ head_total → head_total ≤ h → among h (heads n) ≡ false
      not_head n l q = ⊎_elim (λ (e : among h (heads n) ≡ true). absurd (omega (arith, low_head n h l e))) (λ (e : among h (heads n) ≡ false). e) (cases_Bool (among h (heads n)))

      unread : y < 2 ^ head_total → head_total ≤ h → reads (heads y) (formula_of (heads y) es) h ≡ false
      unread l q = ⊎_elim (λ (e : reads (heads y) (formula_of (heads y) es) h ≡ true). absurd (omega (arith, low_head y h l (reads_within (heads y) (formula_of (heads y) es) h lawful_is.ranged e)))) (λ (e : reads (heads y) (formula_of (heads y) es) h ≡ false). e) (cases_Bool (reads (heads y) (formula_of (heads y) es) h))

  pub tested_is : (b : Bool) → b ≡ list_any tests_zone es → b ≡ zone_tested (formula_of (heads y) es)
  tested_is b e = e ∙ zone_is es (formula_of (heads y) es) spells_it

  pub need_is : (n m k : ℕ) (b : Bool) (d : Line) → b ≡ list_any tests_zone es → m ≡ sum_by entry_width es → k ≡ cond b (length (heads y)) 0 → n ≡ length es * ((get_or t (length es - 1) d).span.horizon + 1) + m + k → n ≡ need (heads y) (formula_of (heads y) es)
  need_is n m k b d tested wide room e =
      e
      ∙ ap₂ (λ x z. x * (z + 1) + m + k) entries_is (horizon_is d)
      ∙ ap₂ (λ x z. entries (formula_of (heads y) es) * (horizon (formula_of (heads y) es) + 1) + x + z) (wide ∙ widths_is es (formula_of (heads y) es) spells_it) (room ∙ ap (λ c. cond c (length (heads y)) 0) (tested_is b tested))

  pub tests_few : (k : ℕ) (b : Bool) → k ≡ cond b (length (heads y)) 0 → k ≤ 32
  tests_few k true e = omega (arith, few_heads)
  tests_few k false e = omega arith
