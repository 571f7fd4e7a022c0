-- Every rule has a lawful shape, in which each entry has the margins of its formula. Assumes nothing.
use Rattle.std.proofs.Common.{◌≡◌, ℕ, zero, suc, ◌+◌, ◌-◌, ◌*◌, ◌<◌, ◌≤◌, Bool, true, false, cond, ltb, List, map, length, get_or, take, ℤ, neg_ℤ, Some, None, Option, sym, refl, ap, ◌∙◌, ap₂, add-one, arith}
use Rattle.std.specs.Int.{int_max, int_min}
use Rattle.std.specs.Option.{option_map}
use Rattle.std.specs.List.{sum_by}
use Rattle.std.proofs.lemmas.List.{take_all}
use Rattle.std.proofs.lemmas.List.Elements.{All-from_recursion}
use Rattle.std.proofs.lemmas.List.Folds.{list_any_at}
use Rattle.std.proofs.lemmas.List.Sums.{sum_by_more}
use Rattle.std.proofs.lemmas.Bool.{cond-true, cond-false, eq-eqb, lt-ltb, ltb-true}
use Rattle.formulas.specs.Formula.{Formula, head_test, zone_test, complement, either, both, window, width, horizon, reads}
use Rattle.formulas.specs.Margin.{Signal, polls, margin, Formed}
use Rattle.formulas.proofs.Stretches.{all_among}
use Rattle.runs.specs.Highest.{kth}
use Rattle.runs.specs.Rank.{rank}
use Rattle.runs.proofs.Ranks.{rank_some, rank_fits}
use Rattle.entries.specs.Heads.{heads}
use Rattle.entries.specs.declared.heads.HeadSet.{HeadSet}
use Rattle.entries.specs.Decode.{operation_of}
use Rattle.entries.specs.Operations.{OperationModel}
use Rattle.entries.specs.Operations as operation
use Rattle.entries.specs.Writing.{Writes}
use Rattle.entries.specs.declared.entry.Entry.{Entry}
use Rattle.entries.proofs.Decoding.{told}
use Rattle.entries.proofs.Listing.{low_head}
use Rattle.rules.specs.Assemble.{blank}
use Rattle.rules.specs.Lawful.{Ranged}
use Rattle.rules.specs.Needs.{widths, zone_tested}
use Rattle.rules.specs.Needs as rule_need
use Rattle.rules.specs.Nodes.{NodeModel, HeadTest, ZoneTest, Not, Either, Both, Window, model, node_of, node_by}
use Rattle.rules.specs.declared.node.Node.{Node}
use Rattle.rules.specs.Parts.{Operands}
use Rattle.rules.specs.Rules.{zone, listed, formula, part, horizon_at, node_at}
use Rattle.rules.specs.Spelling.{entries, spelled}
use Rattle.rules.specs.Totals.{tests_zone, entry_width}
use Rattle.rules.specs.declared.rule.Rule.{Rule}
use Rattle.rules.proofs.Adding.{zone_is, widths_is}
use Rattle.rules.proofs.Ranges.{written_length, spelled-length, reads_within}
use Rattle.rules.proofs.Reading.{node_is, never_bad}
use Rattle.rules.proofs.Standing.{passes, some, listed-length, part_is, whole_is}
use Rattle.layout.specs.Shape.{shape, run_width, offset, need, Seen, Fair, Lawful, Ready}
use Rattle.layout.specs.Slots.{Wants, Wanted}

-- ---- one entry
pub formed : (z : List ℕ) (φ : Formula) → Ranged z φ → Formed z φ
formed z (head_test h s l) r = tt
formed z (zone_test k s l) r = (r.0, r.1)
formed z (complement φ) r = formed z φ r
formed z (either φ ψ) r = (formed z φ r.0, formed z ψ r.1)
formed z (both φ ψ) r = (formed z φ r.0, formed z ψ r.1)
formed z (window a b p φ) r = (r.0.0, r.0.2, r.0.3, formed z φ r.1)

-- the operation that an entry writes, and the node that it makes
writes_run : (e : Entry) (o : OperationModel) (i below : ℕ) → Writes e o → entry_width e ≡ run_width (node_by i below o)
writes_run e (operation.HeadTest h s l) i below w = rw w.0 refl
writes_run e (operation.ZoneTest k s l) i below w = rw w.0 refl
writes_run e operation.Not i below w = rw w refl
writes_run e operation.Either i below w = rw w refl
writes_run e operation.Both i below w = rw w refl
writes_run e (operation.Window a b p) i below w = rw w.0 (ap₂ width w.1 w.2)

-- whether a node is a zone test
abbrev zone_node : NodeModel → Bool
zone_node (HeadTest h s l) = false
zone_node (ZoneTest k s l) = true
zone_node (Not i) = false
zone_node (Either i j) = false
zone_node (Both i j) = false
zone_node (Window i a b k) = false

writes_zone : (e : Entry) (o : OperationModel) (i below : ℕ) → Writes e o → tests_zone e ≡ zone_node (node_by i below o)
writes_zone e (operation.HeadTest h s l) i below w = rw w.0 refl
writes_zone e (operation.ZoneTest k s l) i below w = rw w.0 refl
writes_zone e operation.Not i below w = rw w refl
writes_zone e operation.Either i below w = rw w refl
writes_zone e operation.Both i below w = rw w refl
writes_zone e (operation.Window a b p) i below w = rw w.0 refl

module _ (r : Rule) where
  within : (i : ℕ) → i < length (listed r) → i < r.lines.count
  within i lt = omega (arith, listed-length r)

  -- the entry at i writes an operation, which makes the node
  record WrittenAt (i : ℕ) : Type 0 where
    op : OperationModel
    below : ℕ
    writes : Writes (get_or (listed r) i blank) op
    makes : node_of i (part r i) ≡ node_by i below op

  written_at : (i : ℕ) → i < length (listed r) → WrittenAt i
  written_at i lt = go (operation_of (get_or (listed r) i blank) (length (zone r))) refl
    where
      go : (o : Option OperationModel) → operation_of (get_or (listed r) i blank) (length (zone r)) ≡ o → WrittenAt i
      go None e = absurd (never_bad (zone r) (listed r) (passes r).formulas i (passes r).after lt e)
      go (Some op) e = record {
        op = op;
        below = entries (part r (i - 1));
        writes = (told (get_or (listed r) i blank) (length (zone r)) op e).0;
        makes = node_is (zone r) (listed r) (passes r).formulas i (entries (part r (i - 1))) op (passes r).after lt e (λ more. refl);
      }

  -- ---- the cells
  pub offset_is : (i : ℕ) → i ≤ length (listed r) → offset (shape r) i ≡ length (listed r) * (horizon (formula r) + 1) + sum_by entry_width (take i (listed r))
  offset_is zero le = omega arith
  offset_is (suc i) le =
      let w = written_at i le in
      let one : run_width (node_of i (part r i)) ≡ entry_width (get_or (listed r) i blank) = ap run_width w.makes ∙ sym (writes_run (get_or (listed r) i blank) w.op i w.below w.writes) in
      let more : sum_by entry_width (take (suc i) (listed r)) ≡ sum_by entry_width (take i (listed r)) + entry_width (get_or (listed r) i blank) = ap (λ k. sum_by entry_width (take k (listed r))) (sym (add-one i)) ∙ sum_by_more entry_width (listed r) i blank le in
      omega (arith, offset_is i (omega arith), one, more)

  pub need_is : rule_need.need (zone r) (formula r) ≡ need (shape r)
  need_is =
      let all : length (listed r) ≡ entries (formula r) = written_length (listed r) (spelled (formula r)) (whole_is r).spells ∙ spelled-length (formula r) in
      let wide : sum_by entry_width (take (length (listed r)) (listed r)) ≡ widths (formula r) = ap (sum_by entry_width) (take_all (length (listed r)) (listed r) (omega arith)) ∙ widths_is (listed r) (formula r) (whole_is r).spells in
      let rings : length (listed r) * (horizon (formula r) + 1) ≡ entries (formula r) * (horizon (formula r) + 1) = ap (λ n. n * (horizon (formula r) + 1)) all in
      omega (arith, offset_is (length (listed r)) (omega arith), wide, rings)

  pub zone_size : {m : ℕ} {z : HeadSet} → m ≡ length (heads z.bits) → z ≡ r.zone → m ≡ length (zone r)
  zone_size e same = e ∙ ap (λ z. length (heads z.bits)) same

  -- the tests of a zone's heads lie last
  pub record TestsAt (n m : ℕ) : Type 0 where
    pub fits : m ≤ n
    pub place : n - m ≡ offset (shape r) (length (listed r))
    pub room : n - m + length (zone r) ≡ need (shape r)

  pub tests_at : {n m : ℕ} {z : HeadSet} → n ≡ rule_need.need (zone r) (formula r) → m ≡ length (heads z.bits) → z ≡ r.zone → length (zone r) ≡ (shape r).room → TestsAt n m
  tests_at e em same er =
      let size = zone_size em same in
      record { fits = omega (arith, need_is); place = omega (arith, need_is); room = omega (arith, need_is) }

  zone_room : (i : ℕ) → i < length (listed r) → zone_node (node_of i (part r i)) ≡ true → zone_tested (formula r) ≡ true
  zone_room i lt e =
      let w = written_at i lt in
      let here : tests_zone (get_or (listed r) i blank) ≡ true = writes_zone (get_or (listed r) i blank) w.op i w.below w.writes ∙ ap zone_node (sym w.makes) ∙ e in
      sym (zone_is (listed r) (formula r) (whole_is r).spells) ∙ list_any_at tests_zone (listed r) i blank lt here

  -- ---- the entries
  seen : (h : ℕ) → reads (zone r) (formula r) h ≡ true → Seen (shape r) h
  seen h e = (low_head r.zone.bits h r.zone.few (reads_within (zone r) (formula r) h (whole_is r).lawful.ranged e), e)

  fair : (i : ℕ) (φ : Formula) → part r i ≡ φ → i < length (listed r) → Operands (part r) i φ → Ranged (zone r) φ → ((h : ℕ) → reads (zone r) φ h ≡ true → reads (zone r) (formula r) h ≡ true) → Fair (shape r) i (node_of i φ)
  fair i (head_test h s l) e lt o p sees = (seen h (sees h (eq-eqb h h refl)), ap horizon e)
  fair i (zone_test k s l) e lt o p sees = (
    All-from_recursion (Seen (shape r)) (zone r) (all_among (Seen (shape r)) (zone r) (λ h m. seen h (sees h m))),
    sym (cond-true _ _ _ (zone_room i lt (ap (λ φ. zone_node (node_of i φ)) e))),
    p.0,
    p.1,
    ap horizon e,
  )
  fair i (complement φ) e lt o p sees = (omega (arith, o.0), omega (arith, ap horizon e, ap horizon o.1))
  fair i (either φ ψ) e lt o p sees = (omega (arith, o.0), omega (arith, o.0), omega (arith, ap horizon e, ap horizon o.2), omega (arith, ap horizon e, ap horizon o.1))
  fair i (both φ ψ) e lt o p sees = (omega (arith, o.0), omega (arith, o.0), omega (arith, ap horizon e, ap horizon o.2), omega (arith, ap horizon e, ap horizon o.1))
  fair i (window a b q φ) e lt o p sees =
      (omega (arith, o.0), p.0.0, ap horizon e ∙ ap (λ n. b + n) (ap horizon (sym o.1)), rank_some q (width a b) p.0.2 (omega arith), rank_fits q (width a b) p.0.3)

  room_few : (b : Bool) (n : ℕ) → n ≤ 32 → cond b n 0 ≤ 32
  room_few true n h = h
  room_few false n h = omega arith

  pub lawful : Lawful (shape r)
  lawful = record {
    some = omega (arith, listed-length r, some r);
    few = omega (arith, listed-length r, r.lines.few);
    small = omega (arith, (whole_is r).lawful.near);
    zoned = room_few (zone_tested (formula r)) (length (zone r)) (whole_is r).lawful.few_heads;
    near = λ i lt. omega (arith, (part_is r i (within i lt)).near);
    fair = λ i lt. fair i (part r i) refl lt (part_is r i (within i lt)).operands (part_is r i (within i lt)).ranged (part_is r i (within i lt)).reads_on;
  }

  pub ready : (n lent : ℕ) → n ≡ rule_need.need (zone r) (formula r) → n ≤ lent → Ready (shape r) lent
  ready n lent e le = record { lawful = lawful; enough = omega (arith, need_is) }

  pub standing : (lent : ℕ) → need (shape r) ≤ lent → Ready (shape r) lent
  standing lent le = record { lawful = lawful; enough = le }

  pub far_there : (i : ℕ) (o : Option ℕ) (z : ℕ) → o ≡ Some z → o ≡ horizon_at r i → i < length (listed r) → z ≡ (shape r).hz i
  far_there i o z is e lt = let there : Some z ≡ Some ((shape r).hz i) = sym is ∙ e ∙ cond-true _ _ _ (lt-ltb i r.lines.count (within i lt)) in cc

  -- the last entry looks as far as the rule
  pub last_far : (n z : ℕ) → n ≡ length (listed r) → z ≡ horizon (formula r) → z ≡ (shape r).hz (n - 1)
  last_far n z all far = far ∙ ap horizon (sym (ap (λ k. part r (k - 1)) (all ∙ listed-length r) ∙ (whole_is r).last))

  -- an entry that is told is one of the rule's
  pub node_below : (i : ℕ) (o : Option Node) (node : Node) → o ≡ Some node → option_map model o ≡ node_at r i → i < length (listed r)
  node_below i o node is e = go (ltb i r.lines.count) refl
    where
      go : (b : Bool) → ltb i r.lines.count ≡ b → i < length (listed r)
      go true h = omega (arith, ltb-true i r.lines.count h, listed-length r)
      go false h = let none : Some (model node) ≡ None = ap (option_map model) (sym is) ∙ e ∙ cond-false _ _ _ h in absurd (cc)

  pub node_there : (i : ℕ) (o : Option Node) (node : Node) → o ≡ Some node → option_map model o ≡ node_at r i → i < length (listed r) → model node ≡ (shape r).nodes i
  node_there i o node is e lt =
      let there : Some (model node) ≡ Some ((shape r).nodes i) = ap (option_map model) (sym is) ∙ e ∙ cond-true _ _ _ (lt-ltb i r.lines.count (within i lt)) in
      cc

  -- ---- the margins of the entries' formulas are as the nodes say
  pub wanted : (mark : ℤ → ℤ) (x : Signal) → Wanted mark (shape r) x (λ i p. margin mark (zone r) (part r i) x p)
  unfolding margin
  wanted mark x i lt = wants_node (part r i) (part_is r i (within i lt)).operands
    where
      wants_node : (φ : Formula) → Operands (part r) i φ → Wants mark (zone r) x (λ j p. margin mark (zone r) (part r j) x p) (λ p. margin mark (zone r) φ x p) (node_of i φ)
      wants_node (head_test h s l) o = λ p. refl
      wants_node (zone_test k s l) o = λ p. refl
      wants_node (complement φ) o = λ p. ap (λ ψ. neg_ℤ (margin mark (zone r) ψ x p)) (sym o.1)
      wants_node (either φ ψ) o = λ p. ap₂ (λ (a b : Formula). int_max (margin mark (zone r) a x p) (margin mark (zone r) b x p)) (sym o.2) (sym o.1)
      wants_node (both φ ψ) o = λ p. ap₂ (λ (a b : Formula). int_min (margin mark (zone r) a x p) (margin mark (zone r) b x p)) (sym o.2) (sym o.1)
      wants_node (window a b q φ) o = λ p. ap (λ ψ. kth (rank q (width a b)) (map (λ u. margin mark (zone r) ψ x u) (polls (p + a) (width a b)))) (sym o.1)
