-- What an answer is worth, from the laws of near signals. Assumes nothing.
use Rattle.std.proofs.Common.{◌≡◌, ℕ, ◌+◌, ◌-◌, ◌<◌, ◌≤◌, Bool, true, false, cond, ltb, leb, List, ◌++◌, length, ℤ, pos, nat_abs, ◌<ℤ◌, Ok, Err, Result, sym, refl, ap, ◌∙◌, subst, arith}
use Rattle.std.proofs.lemmas.Bool.{leb-false}
use Rattle.formulas.specs.Formula.{horizon}
use Rattle.formulas.specs.Laws.{CloseFor}
use Rattle.formulas.specs.Margin.{Formed, margin}
use Rattle.formulas.proofs.Near.{margin_near}
use Rattle.formulas.proofs.Opposites.{verdict_turns}
use Rattle.formulas.proofs.Verdicts.{verdict_settled}
use Rattle.rules.specs.Rules.{zone, formula}
use Rattle.rules.specs.declared.rule.Rule.{Rule}
use Rattle.rules.proofs.Standing.{whole_is}
use Rattle.scales.specs.Model.{ScaleModel, distance}
use Rattle.layout.specs.Rows.{Row, signal, cells_of}
use Rattle.layout.proofs.Shapes.{formed}
use Rattle.watches.specs.Calls.{reply, meant}
use Rattle.watches.specs.Runs.{accepted}
use Rattle.watches.specs.Watching.{Holds, Asked}
use Rattle.watches.specs.Worth.{TrueRecord, Within, DefinedNearSafeTight, AfterEveryRun}
use Rattle.watches.specs.declared.answers.Answer.{Answer}
use Rattle.watches.specs.declared.answers.Answer.TheVariants.{Waiting, At}
use Rattle.watches.specs.declared.refusals.WatchFault.{WatchFault}
use Rattle.watches.specs.declared.watch.Watch.{Watch}
use Rattle.watches.proofs.PlayLaws.{along}
use Rattle.watches.proofs.RunLaws.{stands}

-- the poll and the margin of an answer that has them
at_ready : (b c : Bool) (e : WatchFault) (k t t' : ℕ) (x x' : ℤ) → ◌≡◌ {A = Result (Answer ℤ) WatchFault} (Ok (At t x)) (cond b (Err e) (cond c (Ok (Waiting k)) (Ok (At t' x')))) → (c ≡ false) × (t ≡ t') × (x ≡ x')
at_ready true c e k t t' x x' p = absurd (cc)
at_ready false true e k t t' x x' p = absurd (cc)
at_ready false false e k t t' x x' p = (refl, cc, cc)

module _ {Reading Margin : Type 0} (sm : ScaleModel Reading Margin) (rule : Rule) (rows : List Row) (lent : ℕ) (r : Result (Answer Margin) WatchFault) (e : meant sm.whole r ≡ reply sm rule rows lent) where
  form : Formed (zone rule) (formula rule)
  form = formed (zone rule) (formula rule) (whole_is rule).lawful.ranged

  -- an answered poll has all its rows, and the margin of the accepted rows
  pub record Answered (t : ℕ) (m : Margin) : Type 0 where
    pub last : t + horizon (formula rule) < length rows
    pub value : sm.whole m ≡ margin sm.mark (zone rule) (formula rule) (signal rows) t

  answered : (t : ℕ) (m : Margin) → r ≡ Ok (At t m) → Answered t m
  answered t m is =
      let parts = at_ready (ltb lent (cells_of rule)) (leb (length rows) (horizon (formula rule))) _ _ t _ (sm.whole m) _ (sym (ap (meant sm.whole) is) ∙ e) in
      record {
        last = omega (arith, leb-false (length rows) (horizon (formula rule)) parts.0, parts.1);
        value = parts.2 ∙ ap (margin sm.mark (zone rule) (formula rule) (signal rows)) (sym parts.1);
      }

  pub answered_poll : (t : ℕ) (m : Margin) → r ≡ Ok (At t m) → t ≡ length rows - 1 - horizon (formula rule)
  answered_poll t m is = (at_ready (ltb lent (cells_of rule)) (leb (length rows) (horizon (formula rule))) _ _ t _ (sm.whole m) _ (sym (ap (meant sm.whole) is) ∙ e)).1

  close : (t : ℕ) (m : Margin) → Answered t m → (truth : TrueRecord) (d : ℕ) → Within d rule rows truth → CloseFor d (zone rule) (formula rule) t (signal rows) truth
  close t m a truth d within u h lo hi own = within u h (omega (arith, a.last)) own

  pub worth : DefinedNearSafeTight sm rule rows lent r
  worth = record {
    defined = e;
    near = λ t m is truth d within.
        let a = answered t m is in
        subst (λ z. distance z (margin sm.mark (zone rule) (formula rule) truth t) ≤ sm.reach d) (sym a.value)
        (margin_near sm.mark sm.reach sm.close (zone rule) (formula rule) form d t (signal rows) truth (close t m a truth d within));
    safe = λ measures t m is truth d within far.
        let a = answered t m is in
        let s = verdict_settled sm.mark measures (zone rule) (formula rule) form d t (signal rows) truth (close t m a truth d within) (subst (λ z. d < nat_abs z) a.value far) in (
          λ up. let y = s.yes (subst (λ z. pos 0 <ℤ z) a.value up) in (sym s.same ∙ y, y),
          λ down. let n = s.no (subst (λ z. z <ℤ pos 0) a.value down) in (sym s.same ∙ n, n),
        );
    tight = λ measures one t m is.
        let a = answered t m is in
        let o = verdict_turns sm.mark measures (zone rule) (formula rule) form one t (signal rows) in
        (o.0, subst (λ z. Within (nat_abs z + 1) rule rows o.0) (sym a.value) (λ i h below own. o.1.close i h), o.1.opposite);
  }

-- what ask answers of the rows that the watch and the cells stand for, it answers after every run
pub after_every_run : {S Reading Margin : Type 0} (model : S → ScaleModel Reading Margin) (w : Watch S) (front : List Margin) (r : Result (Answer Margin) WatchFault) → Asked model w front r → AfterEveryRun model w front r
after_every_run model w front r asked rule scale calls rest run =
    let s = stands run in
    let rows = accepted (model scale) rule calls in
    worth (model scale) rule rows (length front) r
    (along (λ ru sc. Holds (model sc) ru w.rows.count (front ++ rest) rows → meant (model sc).whole r ≡ reply (model sc) ru rows (length front)) s.rule_is s.scale_is (asked rest rows) s.holds)
