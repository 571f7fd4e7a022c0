-- An entry stands for the operation that it writes, if the values are in range. Assumes nothing.
use Rattle.std.proofs.Common.{◌≡◌, ℕ, zero, suc, ◌≤◌, Bool, true, false, cond, ◌&&◌, eqb, leb, ℤ, nat_abs, Some, None, Option, refl, ap, ◌∙◌, subst, arith}
use Rattle.std.proofs.lemmas.Bool.{leb-true, le-leb, eqb-true, cond-true}
use Rattle.std.proofs.lemmas.Bool.Decides.{nat_tests}
use Rattle.std.proofs.lemmas.Option.{none-some, cond_some}
use Rattle.std.specs.Option.{option_map}
use Rattle.scales.specs.Limits.{bounded, sense_number}
use Rattle.scales.specs.declared.limit.Sense.{Sense}
use Rattle.scales.specs.declared.limit.Sense.TheVariants.{AtLeast, AtMost}
use Rattle.entries.specs.Decode.{sense_of, test_of, head_test_of, zone_test_of, fair_rank, fair_window, operation_of}
use Rattle.entries.specs.Operations.{OperationModel, HeadTest, ZoneTest, Not, Either, Both, Window}
use Rattle.entries.specs.Writing.{Writes, InRange, Decoded, entry_of, Written}
use Rattle.entries.specs.declared.entry.Entry.{Entry}

-- ---- from the operation back to the fields
abbrev Told : Entry → ℕ → OperationModel → Type 0
Told e heads o = Writes e o × InRange heads o

module _ {X : Type 0} (P : X → Type 0) where
  by_cond : (b : Bool) (x y : Option X) → (b ≡ true → (o : X) → x ≡ Some o → P o) → ((o : X) → y ≡ Some o → P o) → (o : X) → cond b x y ≡ Some o → P o
  by_cond true x y f g o e = f refl o e
  by_cond false x y f g o e = g o e

  by_some : (x : X) → P x → (o : X) → Some x ≡ Some o → P o
  by_some x p o e = let same : x ≡ o = cc in subst P same p

  by_none : (o : X) → None ≡ Some o → P o
  by_none o e = absurd (none-some o e)

  by_mapped : {Y : Type 0} (f : Y → X) (t : Option Y) → ((y : Y) → t ≡ Some y → P (f y)) → (o : X) → option_map f t ≡ Some o → P o
  by_mapped f None g o e = by_none o e
  by_mapped f (Some y) g o e = by_some (f y) (g y refl) o e

sense_told : (n : ℕ) → n ≤ 1 → n ≡ sense_number (sense_of n)
sense_told zero l = refl
sense_told (suc zero) l = refl
sense_told (suc (suc n)) l = absurd (omega arith)

abbrev Tested : Entry → Sense × ℤ → Type 0
Tested e t = (e.sense ≡ sense_number t.0) × (e.limit ≡ t.1) × (nat_abs t.1 ≤ 1048576)

test_told : (e : Entry) (t : Sense × ℤ) → test_of e ≡ Some t → Tested e t
test_told e =
    by_cond (Tested e) (leb e.sense 1) _ None
    (λ s. by_mapped (Tested e) (λ l. (sense_of e.sense, l)) (bounded 1048576 e.limit)
    (λ l is. let b = cond_some _ _ _ is in (sense_told e.sense (leb-true _ _ s), b.1, subst (λ z. nat_abs z ≤ 1048576) b.1 (leb-true _ _ b.0))))
    (by_none (Tested e))

rank_told : (k heads : ℕ) → fair_rank k heads ≡ true → (1 ≤ k) × (k ≤ heads)
rank_told k heads r = grind (arith, nat_tests)

window_told : (e : Entry) → fair_window e ≡ true → (e.first ≤ e.last) × (e.last ≤ 1439) × (1 ≤ e.share) × (e.share ≤ 1000)
window_told e w = grind (arith, nat_tests)

rank_back : (k heads : ℕ) → 1 ≤ k → k ≤ heads → fair_rank k heads ≡ true
rank_back k heads p q = grind (arith, nat_tests)

window_back : (a b p : ℕ) → InRange 0 (Window a b p) → (leb a b && leb b 1439 && leb 1 p && leb p 1000) ≡ true
window_back a b p r = grind (arith, nat_tests)

pub told : (e : Entry) (heads : ℕ) (o : OperationModel) → operation_of e heads ≡ Some o → Told e heads o
told e heads =
    by_cond (Told e heads) (eqb e.kind 16) _ _
    (λ k. by_mapped (Told e heads) (λ x. HeadTest e.head x.0 x.1) (test_of e) (λ t is. let w = test_told e t is in ((eqb-true _ _ k, refl, w.0, w.1), w.2)))
    (by_cond (Told e heads) (eqb e.kind 17) _ _
    (λ k. by_cond (Told e heads) (fair_rank e.k heads) _ None
    (λ r. by_mapped (Told e heads) (λ x. ZoneTest e.k x.0 x.1) (test_of e) (λ t is. let w = test_told e t is in let f = rank_told e.k heads r in ((eqb-true _ _ k, refl, w.0, w.1), (f.0, f.1, w.2))))
    (by_none (Told e heads)))
    (by_cond (Told e heads) (eqb e.kind 18) _ _ (λ k. by_some (Told e heads) Not (eqb-true _ _ k, tt))
    (by_cond (Told e heads) (eqb e.kind 19) _ _ (λ k. by_some (Told e heads) Either (eqb-true _ _ k, tt))
    (by_cond (Told e heads) (eqb e.kind 20) _ _ (λ k. by_some (Told e heads) Both (eqb-true _ _ k, tt))
    (by_cond (Told e heads) (eqb e.kind 21) _ None
    (λ k. by_cond (Told e heads) (fair_window e) _ None
    (λ w. by_some (Told e heads) (Window e.first e.last e.share) ((eqb-true _ _ k, refl, refl, refl), window_told e w))
    (by_none (Told e heads)))
    (by_none (Told e heads)))))))

-- ---- from the fields to the operation
sense_back : (n : ℕ) (s : Sense) → n ≡ sense_number s → (leb n 1 ≡ true) × (sense_of n ≡ s)
sense_back n AtLeast e = rw e (refl, refl)
sense_back n AtMost e = rw e (refl, refl)

test_back : (e : Entry) (s : Sense) (l : ℤ) → e.sense ≡ sense_number s → e.limit ≡ l → nat_abs l ≤ 1048576 → test_of e ≡ Some (s, l)
test_back e s l is at near =
    let b = sense_back e.sense s is in
    cond-true _ _ _ b.0
    ∙ ap (option_map (λ (z : ℤ). (sense_of e.sense, z))) (ap (bounded 1048576) at ∙ cond-true _ _ _ (le-leb _ _ near))
    ∙ ap (λ (x : Sense). Some (x, l)) b.1

pub stands : (e : Entry) (heads : ℕ) (o : OperationModel) → Writes e o → InRange heads o → operation_of e heads ≡ Some o
stands e heads (HeadTest h s l) w r = rw w.0 (ap (head_test_of e.head) (test_back e s l w.2 w.3 r) ∙ ap (λ n. Some (HeadTest n s l)) w.1)
stands e heads (ZoneTest k s l) w r =
    rw w.0 (ap (λ n. cond (fair_rank n heads) (zone_test_of n (test_of e)) None) w.1
    ∙ cond-true _ _ _ (rank_back k heads r.0 r.1)
    ∙ ap (zone_test_of k) (test_back e s l w.2 w.3 r.2))
stands e heads Not w r = rw w refl
stands e heads Either w r = rw w refl
stands e heads Both w r = rw w refl
stands e heads (Window a b p) w r =
    rw (w.0, w.1, w.2, w.3) (cond-true _ _ _ (window_back a b p r))

pub writes : (o : OperationModel) → Writes (entry_of o) o
writes (HeadTest h s l) = (refl, refl, refl, refl)
writes (ZoneTest k s l) = (refl, refl, refl, refl)
writes Not = refl
writes Either = refl
writes Both = refl
writes (Window a b p) = (refl, refl, refl, refl)

pub written : (o : OperationModel) (e : Entry) → e ≡ entry_of o → Written o e
written o e is = record { is = is; stands = λ heads r. rw is (stands (entry_of o) heads o (writes o) r) }

pub decoded : (e : Entry) (heads : ℕ) → Decoded e heads
decoded e heads = record { writes = λ o is. (told e heads o is).0; in_range = λ o is. (told e heads o is).1; stands = λ o. stands e heads o }
