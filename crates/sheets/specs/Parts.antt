-- How rules, zones and groups are read, each to the end of its holder. Assumes nothing.
--     to_end        record after record to the end of a stretch
--     rule          one rule more of a zone
--     zone          one zone more of a group
--     group         one group more of a sheet
use Rattle.std.specs.Prelude.{ℕ, zero, suc, cond, ◌&&◌, List, [], ◌∷◌, ◌++◌, length, Ok, Err, Result, ◌==◌, nat_le, nat_lt}
use Rattle.std.specs.List.{list_any}
use Rattle.faults.specs.Checks.{on}
use Rattle.formulas.specs.Formula.{Formula}
use Rattle.rules.specs.Assemble.{assemble, fair}
use Rattle.rules.specs.declared.fault.RuleFault.{RuleFault}
use Rattle.rules.specs.declared.sizes.TheConstants.{ENTRIES, ZONE_HEADS}
use Rattle.sheets.specs.Formulas.{formula}
use Rattle.sheets.specs.Layout.{StretchModel, PieceModel, word_at, byte_at, split, of_kind, fields, counted, ended}
use Rattle.sheets.specs.Outlines.{in_a_zone, Outline, SheetGroup, SheetZone, SheetRule, rules_of, zones}
use Rattle.sheets.specs.declared.fault.SheetFault.{SheetFault}
use Rattle.sheets.specs.declared.fault.SheetFault.TheVariants.{NameLength, NameByte, HeadCount, HeadAboveTotal, HeadNotRising, HeadInTwoZones, ZoneNumberTwice, RuleNumberTwice, TooManyGroups, TooManyZones, TooManyRules, Rule}
use Rattle.sheets.specs.declared.sizes.TheConstants.{GROUPS, NAME_BYTES, RULES, ZONES}

-- adds what the record that begins a stretch says, and gives what stands behind it
abbrev pub Adder : Type 0 → Type 0
Adder X = X → StretchModel → Result (X × StretchModel) SheetFault

-- at most so many records
unfoldable pub records : {X : Type 0} → Adder X → ℕ → X → StretchModel → Result X SheetFault
records add zero x s = Ok x
records add (suc turns) x s =
    cond (length s.bytes == 0) (Ok x) (on (add x s) (λ y. records add turns y.0 y.1))

-- record after record; each has four bytes at least
abbrev pub to_end : {X : Type 0} → Adder X → X → StretchModel → Result X SheetFault
to_end add x s = records add (length s.bytes) x s

-- a rule's own fault, at the rule's place
abbrev pub at_rule : {X : Type 0} → ℕ → Result X RuleFault → Result X SheetFault
at_rule at (Ok x) = Ok x
at_rule at (Err f) = Err (Rule at f)

-- a rule's number among the rules before it
abbrev pub rule_number : ℕ → ℕ → List SheetRule → Result (Unit {0}) SheetFault
rule_number at n rs =
    cond (list_any (λ r. r.number == n) rs) (Err (RuleNumberTwice at n))
    (cond (nat_lt (length rs) RULES) (Ok tt) (Err (TooManyRules at)))

-- the formula of a rule, which fills the stretch, in a zone of heads
abbrev pub rule_formula : ℕ → List ℕ → StretchModel → Result Formula SheetFault
rule_formula at heads s =
    on (formula ENTRIES s) (λ f. on (ended at f.behind) (λ _. at_rule at (assemble heads f.entries)))

abbrev pub with_rule : SheetZone → SheetRule → SheetZone
with_rule z r = record { number = z.number; heads = z.heads; rules = z.rules ++ r ∷ [] }

-- a rule of the zone, which follows the zones before it
unfoldable pub rule : List SheetZone → Adder SheetZone
rule before z s =
    on (split s) (λ p. on (of_kind 4 p.0) (λ q. on (fields 2 q) (λ f.
    on (rule_number q.at (word_at 0 f.0) (rules_of before ++ z.rules)) (λ _.
    on (rule_formula q.at z.heads f.1) (λ φ. Ok (with_rule z (record { number = word_at 0 f.0; formula = φ }), p.1))))))

-- the heads of a zone, each at least the low one: below the total, rising, and in no zone before
abbrev pub zone_heads : ℕ → ℕ → List SheetZone → ℕ → List ℕ → Result (Unit {0}) SheetFault
zone_heads at total before low [] = Ok tt
zone_heads at total before low (h ∷ hs) =
    cond (nat_le total h) (Err (HeadAboveTotal at h))
    (cond (nat_lt h low) (Err (HeadNotRising at h))
    (cond (in_a_zone h before) (Err (HeadInTwoZones at h))
    (zone_heads at total before (suc h) hs)))

-- a zone's number among the zones before it
abbrev pub zone_number : ℕ → ℕ → List SheetZone → Result (Unit {0}) SheetFault
zone_number at n before =
    cond (list_any (λ z. z.number == n) before) (Err (ZoneNumberTwice at n))
    (cond (nat_lt (length before) ZONES) (Ok tt) (Err (TooManyZones at)))

-- from 1 to 32 heads
abbrev pub head_count : ℕ → ℕ → Result (Unit {0}) SheetFault
head_count at n = cond (fair n ZONE_HEADS) (Ok tt) (Err (HeadCount at n))

-- a zone with no rules yet, and the stretch of its rules
abbrev pub opened_zone : ℕ → List SheetZone → PieceModel → Result (SheetZone × StretchModel) SheetFault
opened_zone total before p =
    on (of_kind 3 p) (λ q. on (fields 3 q) (λ f. on (counted q.at (byte_at 2 f.0) f.1) (λ hs.
    on (head_count q.at (byte_at 2 f.0)) (λ _. on (zone_heads q.at total before 0 hs.0) (λ _.
    on (zone_number q.at (word_at 0 f.0) before) (λ _.
    Ok (record { number = word_at 0 f.0; heads = hs.0; rules = [] }, hs.1)))))))

abbrev pub with_zone : SheetGroup → SheetZone → SheetGroup
with_zone g z = record { name = g.name; zones = g.zones ++ z ∷ [] }

-- a zone of the group, which follows the zones before it, on a card of so many heads
unfoldable pub zone : ℕ → List SheetZone → Adder SheetGroup
zone total before g s =
    on (split s) (λ p. on (opened_zone total (before ++ g.zones) p.0) (λ z.
    on (to_end (rule (before ++ g.zones)) z.0 z.1) (λ full. Ok (with_zone g full, p.1))))

-- the characters of a name
abbrev pub name_bytes : ℕ → List ℕ → Result (Unit {0}) SheetFault
name_bytes at [] = Ok tt
name_bytes at (b ∷ bs) = cond (nat_le 32 b && nat_le b 126) (name_bytes at bs) (Err (NameByte at b))

-- from 1 to 24 of them
abbrev pub name : ℕ → List ℕ → Result (Unit {0}) SheetFault
name at bs = cond (fair (length bs) NAME_BYTES) (name_bytes at bs) (Err (NameLength at (length bs)))

abbrev pub group_room : ℕ → List SheetGroup → Result (Unit {0}) SheetFault
group_room at gs = cond (nat_lt (length gs) GROUPS) (Ok tt) (Err (TooManyGroups at))

-- a group with no zones yet, and the stretch of its zones
abbrev pub opened_group : List SheetGroup → PieceModel → Result (SheetGroup × StretchModel) SheetFault
opened_group before p =
    on (of_kind 2 p) (λ q. on (fields 1 q) (λ f. on (counted q.at (byte_at 0 f.0) f.1) (λ bs.
    on (name q.at bs.0) (λ _. on (group_room q.at before) (λ _.
    Ok (record { name = bs.0; zones = [] }, bs.1))))))

abbrev pub with_group : Outline → SheetGroup → Outline
with_group o g = record { total = o.total; groups = o.groups ++ g ∷ [] }

-- a group of the sheet
unfoldable pub group : Adder Outline
group o s =
    on (split s) (λ p. on (opened_group o.groups p.0) (λ g.
    on (to_end (zone o.total (zones o)) g.0 g.1) (λ full. Ok (with_group o full, p.1))))
