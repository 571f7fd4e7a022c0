-- What holds of a head's latest entry. Assumes nothing.
use Rattle.std.proofs.Common.{◌≡◌, ℕ, ◌+◌, ◌-◌, ◌<◌, ◌≤◌, Bool, true, false, cond, ◌&&◌, eqb, leb, List, [], ◌∷◌, ◌++◌, length, get_or, take, drop, find, reverse, Some, None, Option, is_some, sym, refl, ap, ◌∙◌, arith, take-append-drop}
use Rattle.std.specs.Option.{option_or}
use Rattle.std.specs.List.{AllByRecursion}
use Rattle.std.proofs.lemmas.List.{get_or-drop, get_or-take, length-drop, length-take, take_more, reverse-append}
use Rattle.std.proofs.Math.Seq.{take-add}
use Rattle.std.proofs.lemmas.List.Folds.{find-append}
use Rattle.std.proofs.ByRecursion.{All-from_get_or}
use Rattle.std.proofs.lemmas.Bool.{lt-leb, le-leb, and_right}
use Rattle.logs.specs.declared.entries.LogEntry.{LogEntry}
use Rattle.logs.specs.Log.{tells_of, latest_entry}
use Rattle.logs.specs.Lookup.{blank, Upto}

or_none : (o : Option LogEntry) → option_or o None ≡ o
or_none None = refl
or_none (Some e) = refl

-- the first of two, where there is one, and else the second
pub found_near : (o p : Option LogEntry) → true ≡ is_some o → o ≡ option_or o p
found_near None p e = absurd (cc)
found_near (Some x) p e = refl

pub not_near : (o p : Option LogEntry) → false ≡ is_some o → p ≡ option_or o p
not_near None p e = refl
not_near (Some x) p e = absurd (cc)

or_or : (a b c : Option LogEntry) → option_or (option_or a b) c ≡ option_or a (option_or b c)
or_or None b c = refl
or_or (Some e) b c = refl

-- the latest of two stretches is that of the later one, or else that of the earlier one
pub latest_append : (h t : ℕ) (xs ys : List LogEntry) → latest_entry h t (xs ++ ys) ≡ option_or (latest_entry h t ys) (latest_entry h t xs)
latest_append h t [] ys = sym (or_none (latest_entry h t ys))
latest_append h t (x ∷ xs) ys =
    ap (λ o. option_or o (cond (tells_of h t x) (Some x) None)) (latest_append h t xs ys)
    ∙ or_or (latest_entry h t ys) (latest_entry h t xs) (cond (tells_of h t x) (Some x) None)

-- an entry that comes after the poll tells nothing of it
latest_late : (h t : ℕ) (es : List LogEntry) → AllByRecursion (λ e. t < e.poll) es → latest_entry h t es ≡ None
latest_late h t [] a = refl
latest_late h t (e ∷ es) a = rw (latest_late h t es a.1, and_right (eqb e.head h) (leb e.poll t) (lt-leb e.poll t a.0)) refl

-- so only the entries up to the poll count
pub latest_upto : (h t n : ℕ) (es : List LogEntry) → Upto es t n → latest_entry h t es ≡ latest_entry h t (take n es)
latest_upto h t n es u =
    let late = All-from_get_or (λ (e : LogEntry). t < e.poll) (drop n es) blank (λ i lt. rw get_or-drop (u.late (n + i) (omega arith) (omega (arith, length-drop n es)))) in
    ap (latest_entry h t) (sym (take-append-drop n es))
    ∙ latest_append h t (take n es) (drop n es)
    ∙ ap (λ o. option_or o (latest_entry h t (take n es))) (latest_late h t (drop n es) late)

-- one entry more
pub latest_more : (h t i : ℕ) (es : List LogEntry) → i < length es → latest_entry h t (take (i + 1) es) ≡ option_or (cond (tells_of h t (get_or es i blank)) (Some (get_or es i blank)) None) (latest_entry h t (take i es))
latest_more h t i es lt = ap (latest_entry h t) (take_more es i blank lt) ∙ latest_append h t (take i es) (get_or es i blank ∷ [])

told : (h t : ℕ) (e : LogEntry) → e.poll ≤ t → cond (tells_of h t e) (Some e) None ≡ find (λ d. eqb d.head h) (e ∷ [])
told h t e o = by (eqb e.head h) (leb e.poll t) (le-leb e.poll t o)
  where
    by : (a b : Bool) → b ≡ true → cond (a && b) (Some e) None ≡ cond a (Some e) None
    by true b is = ap (λ x. cond x (Some e) None) is
    by false b is = refl

-- of early entries the latest is the last of the head's
pub latest_found : (h t : ℕ) (es : List LogEntry) → AllByRecursion (λ e. e.poll ≤ t) es → latest_entry h t es ≡ find (λ e. eqb e.head h) (reverse es)
latest_found h t [] a = refl
latest_found h t (e ∷ es) a =
    ap (λ o. option_or o (cond (tells_of h t e) (Some e) None)) (latest_found h t es a.1)
    ∙ ap (option_or (find (λ d. eqb d.head h) (reverse es))) (told h t e a.0)
    ∙ sym (find-append (λ d. eqb d.head h) (reverse es) (e ∷ []))
    ∙ ap (find (λ d. eqb d.head h)) (sym (reverse-append (e ∷ []) es))

early_part : (es : List LogEntry) (t n a k : ℕ) → Upto es t n → a + k ≤ n → AllByRecursion (λ e. e.poll ≤ t) (take k (drop a es))
early_part es t n a k u le =
    All-from_get_or (λ (e : LogEntry). e.poll ≤ t) (take k (drop a es)) blank
    (λ i lt.
    let o : i < k = omega (arith, length-take k (drop a es)) in
    rw (get_or-take k (drop a es) i blank o, get_or-drop a es i blank) (u.early (a + i) (omega arith)))

-- the search with no index
pub latest_walk : (h t n : ℕ) (es : List LogEntry) → Upto es t n → latest_entry h t es ≡ find (λ e. eqb e.head h) (reverse (take n es))
latest_walk h t n es u = latest_upto h t n es u ∙ latest_found h t (take n es) (early_part es t n 0 n u (omega arith))

-- the search from a row of the index on
pub latest_from : (h t n a : ℕ) (es : List LogEntry) → Upto es t n → a ≤ n → latest_entry h t es ≡ option_or (find (λ e. eqb e.head h) (reverse (take (n - a) (drop a es)))) (latest_entry h t (take a es))
latest_from h t n a es u le =
    let at : n ≡ a + (n - a) = omega arith in
    latest_upto h t n es u
    ∙ ap (λ k. latest_entry h t (take k es)) at
    ∙ ap (latest_entry h t) (take-add a (n - a) es)
    ∙ latest_append h t (take a es) (take (n - a) (drop a es))
    ∙ ap (λ o. option_or o (latest_entry h t (take a es))) (latest_found h t (take (n - a) (drop a es)) (early_part es t n a (n - a) u (omega arith)))
