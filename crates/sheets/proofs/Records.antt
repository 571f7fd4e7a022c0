-- Records and fields: what is read is spelled by the bytes, and what is spelled is read. Assumes nothing.
use Rattle.std.proofs.Common.{◌≡◌, ℕ, zero, suc, ◌+◌, ◌^◌, ◌<◌, ◌≤◌, cond, leb, List, [], ◌∷◌, ◌++◌, length, get_or, take, drop, Ok, Err, Result, ℤ, FitsSigned, sym, refl, ap, ◌∙◌, subst, arith}
use Rattle.std.proofs.lemmas.Bool.{leb-true, eqb-true, le-leb, eq-eqb, and_parts, and_from, cond-true}
use Rattle.std.proofs.lemmas.List.{take-append-drop, drop-drop, drop_at, take_at, length-append, length-take-le, length-drop, get_or-drop, nil_from_length}
use Rattle.std.proofs.lemmas.Nat.{le_bytes_2, le_bytes_4, from_le_bytes-to_le_bytes_2, from_le_bytes-to_le_bytes_4}
use Rattle.std.proofs.Math.Facts.{Fits-of_z}
use Rattle.std.proofs.lemmas.Int.{of_z-to_z, to_z-of_z}
use Rattle.std.specs.Int.{w16, w32, from_le_bytes, to_le_bytes, cast_signed, cast_unsigned}
use Rattle.sheets.specs.Layout.{StretchModel, PieceModel, word_at, limit_at, behind, first_piece, split, of_kind, fields, ended, counted}
use Rattle.sheets.specs.Spelling.{word, limit_bytes, record_bytes}
use Rattle.sheets.specs.declared.fault.SheetFault.{SheetFault}
use Rattle.sheets.proofs.Chains.{test_good}

-- ---- bytes
-- each number is a byte
abbrev pub Bytes : List ℕ → Type 0
Bytes xs = (i : ℕ) → get_or xs i 0 < 256

pub bytes_drop : (n : ℕ) (xs : List ℕ) → Bytes xs → Bytes (drop n xs)
bytes_drop n xs b i = rw get_or-drop (b (n + i))

pub bytes_take : (n : ℕ) (xs : List ℕ) → Bytes xs → Bytes (take n xs)
bytes_take zero xs b i = omega arith
bytes_take (suc n) [] b i = omega arith
bytes_take (suc n) (x ∷ xs) b zero = b 0
bytes_take (suc n) (x ∷ xs) b (suc i) = bytes_take n xs (λ j. b (suc j)) i

-- ---- numbers of two and of four bytes
pub word_small : (i : ℕ) (xs : List ℕ) → Bytes xs → word_at i xs < 65536
word_small i xs b =
    let c = bytes_take 2 (drop i xs) (bytes_drop i xs b) in omega (arith, c 0, c 1)

pub word_spelled : (i : ℕ) (xs : List ℕ) → Bytes xs → i + 2 ≤ length xs → word (word_at i xs) ≡ take 2 (drop i xs)
word_spelled i xs b long =
    le_bytes_2 (take 2 (drop i xs)) (word_at i xs)
    (length-take-le 2 (drop i xs) (simp length-drop (omega arith)))
    (bytes_take 2 (drop i xs) (bytes_drop i xs b)) refl

pub word_reads : (i n : ℕ) (before rest : List ℕ) → n < 65536 → length before ≡ i → word_at i (before ++ (word n ++ rest)) ≡ n
word_reads i n before rest small at =
    ap (λ ys. from_le_bytes w16 (take 2 ys)) (drop_at before (word n ++ rest) i at) ∙ from_le_bytes-to_le_bytes_2 n small

pub limit_spelled : (i : ℕ) (xs : List ℕ) → Bytes xs → i + 4 ≤ length xs → limit_bytes (limit_at i xs) ≡ take 4 (drop i xs)
limit_spelled i xs b long =
    let c = bytes_take 4 (drop i xs) (bytes_drop i xs b) in
    let n : ℕ = from_le_bytes w32 (take 4 (drop i xs)) in
    let small : n < 2 ^ 32 = omega (arith, c 0, c 1, c 2, c 3) in
    ap (to_le_bytes w32) (of_z-to_z w32 n small)
    ∙ le_bytes_4 (take 4 (drop i xs)) n (length-take-le 4 (drop i xs) (simp length-drop (omega arith))) c refl

pub limit_reads : (i : ℕ) (l : ℤ) (before rest : List ℕ) → FitsSigned w32 l → length before ≡ i → limit_at i (before ++ (limit_bytes l ++ rest)) ≡ l
limit_reads i l before rest fits at =
    ap (λ ys. cast_signed w32 (from_le_bytes w32 (take 4 ys))) (drop_at before (limit_bytes l ++ rest) i at)
    ∙ ap (cast_signed w32) (from_le_bytes-to_le_bytes_4 (cast_unsigned w32 l) (Fits-of_z {w = w32} {z = l} fits).fits)
    ∙ to_z-of_z w32 l fits

-- ---- what splits is spelled
pub record Spelled (s : StretchModel) (p : PieceModel) (b : StretchModel) : Type 0 where
  pub bytes : s.bytes ≡ record_bytes p.kind p.inside.bytes ++ b.bytes
  pub long : 4 + (length p.inside.bytes + length b.bytes) ≡ length s.bytes
  pub at : p.at ≡ s.place
  pub inside_place : p.inside.place ≡ s.place + 4
  pub behind_place : b.place ≡ s.place + (4 + length p.inside.bytes)
  pub inside_bytes : Bytes p.inside.bytes
  pub behind_bytes : Bytes b.bytes
  pub kind_fits : p.kind < 65536
  pub inside_fits : length p.inside.bytes < 65536

spelled_header : (xs : List ℕ) → Bytes xs → 4 ≤ length xs → xs ≡ word (word_at 0 xs) ++ (word (word_at 2 xs) ++ drop 4 xs)
spelled_header xs b long =
    sym (ap (λ ys. ys ++ (word (word_at 2 xs) ++ drop 4 xs)) (word_spelled 0 xs b (omega arith))
    ∙ ap (λ ys. take 2 xs ++ ys) (ap (λ ys. ys ++ drop 4 xs) (word_spelled 2 xs b (omega arith)) ∙ ap (λ ys. take 2 (drop 2 xs) ++ ys) (sym (drop-drop 2 2 xs)) ∙ take-append-drop 2 (drop 2 xs))
    ∙ take-append-drop 2 xs)

first_spelled : (n : ℕ) (s : StretchModel) → Bytes s.bytes → n ≡ word_at 0 s.bytes → 4 + n ≤ length s.bytes → Spelled s (first_piece n s).0 (first_piece n s).1
first_spelled n s b is long =
    let xs : List ℕ = s.bytes in
    let len : length (take n (drop 4 xs)) ≡ n = length-take-le n (drop 4 xs) (simp length-drop (omega arith)) in
    let parts : take n (drop 4 xs) ++ drop (4 + n) xs ≡ drop 4 xs = ap (λ ys. take n (drop 4 xs) ++ ys) (sym (drop-drop n 4 xs)) ∙ take-append-drop n (drop 4 xs) in
    record {
      bytes = spelled_header xs b (omega arith)
          ∙ ap (λ k. word k ++ (word (word_at 2 xs) ++ drop 4 xs)) (sym is ∙ sym len)
          ∙ ap (λ ys. word (length (take n (drop 4 xs))) ++ (word (word_at 2 xs) ++ ys)) (sym parts);
      long = omega (arith, len, length-drop (4 + n) xs);
      at = refl;
      inside_place = refl;
      behind_place = ap (λ k. s.place + (4 + k)) (sym len);
      inside_bytes = bytes_take n (drop 4 xs) (bytes_drop 4 xs b);
      behind_bytes = bytes_drop (4 + n) xs b;
      kind_fits = word_small 2 xs b;
      inside_fits = omega (arith, len, word_small 0 xs b);
    }

pub split_spelled : (s : StretchModel) (p : PieceModel) (b : StretchModel) → Bytes s.bytes → split s ≡ Ok (p, b) → Spelled s p b
split_spelled s p b small e =
    let t = test_good _ _ _ _ e in
    let long = and_parts _ _ t.0 in
    subst (λ (x : PieceModel × StretchModel). Spelled s x.0 x.1) t.1
    (first_spelled (word_at 0 s.bytes) s small refl (leb-true _ _ long.1))

-- ---- what is spelled splits
pub split_reads : (place kind : ℕ) (payload rest : List ℕ) → kind < 65536 → length payload < 65536 →
    split (record { place = place; bytes = record_bytes kind payload ++ rest }) ≡ Ok (record { kind = kind; at = place; inside = record { place = place + 4; bytes = payload } }, record { place = place + (4 + length payload); bytes = rest })
split_reads place kind payload rest fits short =
    let bytes : List ℕ = record_bytes kind payload ++ rest in
    let n : word_at 0 bytes ≡ length payload = from_le_bytes-to_le_bytes_2 (length payload) short in
    let m : word_at 2 bytes ≡ kind = from_le_bytes-to_le_bytes_2 kind fits in
    let inner : take (word_at 0 bytes) (drop 4 bytes) ≡ payload = take_at payload rest (word_at 0 bytes) (sym n) in
    let outer : drop (4 + word_at 0 bytes) bytes ≡ rest = sym (drop-drop (word_at 0 bytes) 4 bytes) ∙ drop_at payload rest (word_at 0 bytes) (sym n) in
    cond-true _ _ _ (and_from _ _ (le-leb 4 (length bytes) (omega arith)) (le-leb (4 + word_at 0 bytes) (length bytes) (omega (arith, n, length-append payload rest))))
    ∙ (λ i. Ok (record { kind = m i; at = place; inside = record { place = place + 4; bytes = inner i } }, record { place = place + (4 + n i); bytes = outer i }))

-- ---- kinds and fields
pub kind_good : (n : ℕ) (p q : PieceModel) → of_kind n p ≡ Ok q → (p.kind ≡ n) × (p ≡ q)
kind_good n p q e = let t = test_good _ _ _ _ e in (eqb-true _ _ t.0, t.1)

pub kind_reads : (n : ℕ) (p : PieceModel) → p.kind ≡ n → of_kind n p ≡ Ok p
kind_reads n p e = cond-true _ _ _ (eq-eqb _ _ e)

-- a front of so many bytes, and what stands behind it
pub record Cut (n : ℕ) (s : StretchModel) (xs : List ℕ) (b : StretchModel) : Type 0 where
  pub bytes : s.bytes ≡ xs ++ b.bytes
  pub many : length xs ≡ n
  pub place : b.place ≡ s.place + n
  pub front_bytes : Bytes xs
  pub behind_bytes : Bytes b.bytes

-- a front of so many bytes, where there are so many
abbrev cut_at : ℕ → StretchModel → SheetFault → Result (List ℕ × StretchModel) SheetFault
cut_at n s f = cond (leb n (length s.bytes)) (Ok (take n s.bytes, behind n s)) (Err f)

cut_spelled : (n : ℕ) (s : StretchModel) (xs : List ℕ) (b : StretchModel) (f : SheetFault) → Bytes s.bytes → cut_at n s f ≡ Ok (xs, b) → Cut n s xs b
cut_spelled n s xs b f small e =
    let t = test_good _ _ _ _ e in
    subst (λ (x : List ℕ × StretchModel). Cut n s x.0 x.1) t.1 (record {
      bytes = sym (take-append-drop n s.bytes);
      many = length-take-le n s.bytes (leb-true _ _ t.0);
      place = refl;
      front_bytes = bytes_take n s.bytes small;
      behind_bytes = bytes_drop n s.bytes small;
    })

cut_reads : (n : ℕ) (s : StretchModel) (xs ys : List ℕ) (f : SheetFault) → s.bytes ≡ xs ++ ys → length xs ≡ n → cut_at n s f ≡ Ok (xs, record { place = s.place + n; bytes = ys })
cut_reads n s xs ys f e many =
    let first : take n s.bytes ≡ xs = ap (take n) e ∙ take_at xs ys n many in
    let last : drop n s.bytes ≡ ys = ap (drop n) e ∙ drop_at xs ys n many in
    cond-true _ _ _ (le-leb n (length s.bytes) (omega (arith, ap length e, length-append xs ys)))
    ∙ (λ i. Ok (first i, record { place = s.place + n; bytes = last i }))

pub fields_spelled : (n : ℕ) (p : PieceModel) (xs : List ℕ) (b : StretchModel) → Bytes p.inside.bytes → fields n p ≡ Ok (xs, b) → Cut n p.inside xs b
fields_spelled n p xs b small e = cut_spelled n p.inside xs b _ small e

pub fields_reads : (n : ℕ) (p : PieceModel) (xs ys : List ℕ) → p.inside.bytes ≡ xs ++ ys → length xs ≡ n → fields n p ≡ Ok (xs, record { place = p.inside.place + n; bytes = ys })
fields_reads n p xs ys e many = cut_reads n p.inside xs ys _ e many

pub counted_spelled : (at n : ℕ) (s : StretchModel) (xs : List ℕ) (b : StretchModel) → Bytes s.bytes → counted at n s ≡ Ok (xs, b) → Cut n s xs b
counted_spelled at n s xs b small e = cut_spelled n s xs b _ small e

pub counted_reads : (at n : ℕ) (s : StretchModel) (xs ys : List ℕ) → s.bytes ≡ xs ++ ys → length xs ≡ n → counted at n s ≡ Ok (xs, record { place = s.place + n; bytes = ys })
counted_reads at n s xs ys e many = cut_reads n s xs ys _ e many

-- ---- ends
pub ended_good : (at : ℕ) (s : StretchModel) → ended at s ≡ Ok tt → s.bytes ≡ []
ended_good at s e = nil_from_length s.bytes (eqb-true _ _ (test_good _ _ _ _ e).0)

pub ended_reads : (at : ℕ) (s : StretchModel) → s.bytes ≡ [] → ended at s ≡ Ok tt
ended_reads at s e = cond-true _ _ _ (eq-eqb _ _ (ap length e))
