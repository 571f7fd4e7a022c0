-- Heads added to a set, one or many. Assumes nothing.
use Rattle.std.proofs.Common.{◌≡◌, ℕ, ◌+◌, ◌*◌, ◌%◌, ◌^◌, ◌<◌, ◌||◌, eqb, List, [], ◌∷◌, ◌++◌, length, get_or, take, sym, ap, ◌∙◌, ap₂, arith}
use mathlib.Core.Bool.{or_comm, or-false}
use lib.Bits.{bit_or}
use Rattle.std.proofs.lemmas.Nat.{or_lt, one_shl, pow_below}
use Rattle.std.proofs.lemmas.List.{take_more}
use Rattle.formulas.specs.Formula.{among}
use Rattle.entries.specs.Heads.{head_total, has, heads, SameHeads}
use Rattle.entries.proofs.Bits.{joined, power_bit}
use Rattle.entries.proofs.Listing.{among_heads, among-append}

pub both_fit : (y z : ℕ) → y < 2 ^ head_total → z < 2 ^ head_total → bit_or y z < 2 ^ head_total
both_fit = or_lt head_total

pub united : (y z : ℕ) → y < 2 ^ head_total → z < 2 ^ head_total → SameHeads (heads (bit_or y z)) (heads y ++ heads z)
united y z small other h =
    among_heads _ h (both_fit y z small other)
    ∙ joined y z h
    ∙ sym (among-append h (heads y) (heads z) ∙ ap₂ ◌||◌ (among_heads y h small) (among_heads z h other))

-- what `1 << h` is
pub shifted : (h : ℕ) → h < head_total → 1 * 2 ^ h % 2 ^ 64 ≡ 2 ^ h
shifted h near = one_shl h 64 (omega arith)

pub fits : (z h : ℕ) → z < 2 ^ head_total → h < head_total → bit_or z (1 * 2 ^ h % 2 ^ 64) < 2 ^ head_total
fits z h small near = rw (shifted h near) (both_fit z (2 ^ h) small (pow_below h head_total near))

pub added : (z h : ℕ) → z < 2 ^ head_total → h < head_total → SameHeads (heads (bit_or z (1 * 2 ^ h % 2 ^ 64))) (h ∷ heads z)
added z h small near j =
    among_heads _ j (fits z h small near)
    ∙ ap (λ n. has (bit_or z n) j) (shifted h near)
    ∙ joined z (2 ^ h) j
    ∙ or_comm (has z j) (has (2 ^ h) j)
    ∙ ap₂ ◌||◌ (power_bit h j) (sym (among_heads z j small))

-- one head more of a list
pub listed_more : (gs ss hs : List ℕ) (i : ℕ) → i < length hs → SameHeads ss (take i hs) → SameHeads gs (get_or hs i 0 ∷ ss) → SameHeads gs (take (i + 1) hs)
listed_more gs ss hs i lt before now j =
    now j
    ∙ ap (λ b. eqb (get_or hs i 0) j || b) (before j)
    ∙ or_comm (eqb (get_or hs i 0) j) (among j (take i hs))
    ∙ sym (ap (among j) (take_more hs i 0 lt) ∙ among-append j (take i hs) (get_or hs i 0 ∷ []) ∙ ap (λ b. among j (take i hs) || b) (or-false (eqb (get_or hs i 0) j)))
