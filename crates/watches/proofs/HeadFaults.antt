-- The first fault among the heads of a set, met one after another. Assumes nothing.
use Rattle.std.proofs.Common.{◌≡◌, ℕ, zero, suc, ◌^◌, ◌<◌, Bool, true, false, cond, List, [], ◌∷◌, ◌++◌, Some, None, Option, sym, refl, ap, ◌∙◌, arith}
use Rattle.std.specs.Option.{option_or}
use Rattle.formulas.specs.Formula.{among}
use Rattle.entries.specs.Heads.{head_total, has, heads_below, heads}
use Rattle.entries.proofs.Listing.{among_heads}
use Rattle.watches.specs.Readings.{first_fault}
use Rattle.watches.specs.declared.refusals.WatchFault.{WatchFault}

module _ (fault : ℕ → Option WatchFault) where
  abbrev pub among_these : List ℕ → Option WatchFault
  among_these [] = None
  among_these (h ∷ hs) = option_or (fault h) (among_these hs)

  or_none : (o : Option WatchFault) → option_or o None ≡ o
  or_none None = refl
  or_none (Some e) = refl

  or_or : (a b c : Option WatchFault) → option_or (option_or a b) c ≡ option_or a (option_or b c)
  or_or None b c = refl
  or_or (Some e) b c = refl

  of_append : (gs hs : List ℕ) → among_these (gs ++ hs) ≡ option_or (among_these gs) (among_these hs)
  of_append [] hs = refl
  of_append (g ∷ gs) hs = ap (option_or (fault g)) (of_append gs hs) ∙ sym (or_or (fault g) (among_these gs) (among_these hs))

  of_one : (h : ℕ) (b : Bool) → among_these (cond b (h ∷ []) []) ≡ cond b (fault h) None
  of_one h true = or_none (fault h)
  of_one h false = refl

  module _ (read : ℕ → Bool) (z : ℕ) where
    below : (n : ℕ) → ((h : ℕ) → h < n → has z h ≡ read h) → first_fault read fault n ≡ among_these (heads_below z n)
    unfolding first_fault heads_below
    below zero same = refl
    below (suc n) same =
        ap (λ o. option_or o (cond (read n) (fault n) None)) (below n (λ h l. same h (omega arith)))
        ∙ ap (λ b. option_or (among_these (heads_below z n)) (cond b (fault n) None)) (sym (same n (omega arith)))
        ∙ ap (option_or (among_these (heads_below z n))) (sym (of_one n (has z n)))
        ∙ sym (of_append (heads_below z n) (cond (has z n) (n ∷ []) []))

    of_set : ((h : ℕ) → h < head_total → has z h ≡ read h) → first_fault read fault head_total ≡ among_these (heads z)
    unfolding heads
    of_set same = below head_total same

    -- the heads of the set, which are those that are read, come one after another
    pub is_first : z < 2 ^ head_total → ((h : ℕ) → among h (heads z) ≡ read h) → (come : List ℕ) → come ≡ heads z → first_fault read fault head_total ≡ among_these come
    is_first small same come all = of_set (λ h l. sym (among_heads z h small) ∙ same h) ∙ ap among_these (sym all)
