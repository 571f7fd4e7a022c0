-- A text without a fault is a grid, and only such a text is. Assumes nothing.
use Rattle.std.proofs.Common.{◌≡◌, ℕ, zero, suc, ◌+◌, ◌<◌, ◌≤◌, min, true, false, cond, ltb, List, [], ◌∷◌, ◌++◌, length, map, replicate, flat_map, Some, None, Ok, Err, Result, sym, refl, ap, ◌∙◌, arith}
use Rattle.std.specs.Option.{option_or, option_map, option_to_list}
use Rattle.std.specs.Result.{result_ok, result_err}
use Rattle.std.proofs.lemmas.List.{length-map}
use Rattle.std.proofs.lemmas.Bool.{cond-false, le-ltb}
use Rattle.records.specs.Model.{most_heads, most_polls}
use Rattle.records.proofs.ModelLaws.{neither}
use Rattle.texts.specs.Parts.{fields}
use Rattle.texts.specs.Fields.{at, given, defect_of, fields_fault}
use Rattle.texts.specs.Grids.{row_fault, line_fault, rows_fault, number_in, row_readings, readings_in, grid_lines_fault, IsRow, AreRows, IsGrid, IsNoGrid, IsRefused, FaultIs}
use Rattle.texts.specs.declared.refusals.Defect.{Defect}
use Rattle.texts.specs.declared.refusals.Defect.TheVariants.{TooManyLines}
use Rattle.texts.specs.declared.refusals.TextFault.{TextFault}
use Rattle.texts.specs.declared.refusals.ReadError.{ReadError}
use Rattle.texts.specs.declared.refusals.ReadError.TheVariants.{Text, Memory}

module _ {T : Type 0} (written : List ℕ → Result T Defect) where
  one_field : (line column : ℕ) (f : List ℕ) (fs : List (List ℕ)) (row : List T) (r : Result T Defect) → given written f ≡ r → option_map (at line column) (result_err r) ≡ None → map (given written) fs ≡ map Ok row → given written f ∷ map (given written) fs ≡ map Ok (option_to_list (result_ok r) ++ row)
  one_field line column f fs row (Ok x) e h t = ap (λ y. y ∷ map (given written) fs) e ∙ ap (λ ys. Ok x ∷ ys) t
  one_field line column f fs row (Err d) e h t = cc

  fields_are : (line wanted column k : ℕ) (fs : List (List ℕ)) → fields_fault line wanted column (replicate k (defect_of written)) fs ≡ None → (map (given written) fs ≡ map Ok (flat_map (number_in written) fs)) × (length fs ≡ k)
  fields_are line wanted column zero [] e = (refl, refl)
  fields_are line wanted column zero (f ∷ fs) e = cc
  fields_are line wanted column (suc k) [] e = cc
  fields_are line wanted column (suc k) (f ∷ fs) e =
      let p = neither (option_map (at line column) (defect_of written f)) (fields_fault line wanted (column + length f + 1) (replicate k (defect_of written)) fs) e in
      let rest = fields_are line wanted (column + length f + 1) k fs p.1 in
      (one_field line column f fs (flat_map (number_in written) fs) (given written f) refl p.0 rest.0, ap suc rest.1)

  as_long : (fs : List (List ℕ)) (row : List T) → map (given written) fs ≡ map Ok row → length row ≡ length fs
  as_long fs row e = sym (sym (length-map fs (given written)) ∙ ap length e ∙ length-map row Ok)

  row_is : (heads number : ℕ) (line : List ℕ) → row_fault written heads number line ≡ None → IsRow written heads line (row_readings written line)
  row_is heads number line e =
      let f = fields_are number heads 1 heads (fields 44 line) e in
      (f.0, as_long (fields 44 line) (row_readings written line) f.0 ∙ f.1)

  pub rows_are : (heads number : ℕ) (lines : List (List ℕ)) → rows_fault written heads number lines ≡ None → AreRows written heads lines (map (row_readings written) lines)
  rows_are heads number [] e = tt
  rows_are heads number (line ∷ lines) e =
      let p = neither (line_fault written heads number line) (rows_fault written heads (number + 1) lines) e in
      (row_is heads number line (in_time (ltb most_polls number) p.0), rows_are heads (number + 1) lines p.1)
    where
      in_time : (b : _) → cond b (Some (at number 1 TooManyLines)) (row_fault written heads number line) ≡ None → row_fault written heads number line ≡ None
      in_time true h = cc
      in_time false h = h

  pub joined : (lines : List (List ℕ)) → readings_in written lines ≡ flat_map (λ row. row) (map (row_readings written) lines)
  joined [] = refl
  joined (line ∷ lines) = ap (λ xs. row_readings written line ++ xs) (joined lines)

  -- and the other way round

  fields_clear : (line wanted column k : ℕ) (fs : List (List ℕ)) (row : List T) → map (given written) fs ≡ map Ok row → length row ≡ k → fields_fault line wanted column (replicate k (defect_of written)) fs ≡ None
  fields_clear line wanted column zero [] [] e n = refl
  fields_clear line wanted column (suc k) [] [] e n = absurd (omega arith)
  fields_clear line wanted column k [] (x ∷ row) e n = cc
  fields_clear line wanted column k (f ∷ fs) [] e n = cc
  fields_clear line wanted column zero (f ∷ fs) (x ∷ row) e n = absurd (omega arith)
  fields_clear line wanted column (suc k) (f ∷ fs) (x ∷ row) e n =
      let head : given written f ≡ Ok x = cc in
      let tail : map (given written) fs ≡ map Ok row = cc in
      ap (λ r. option_or (option_map (at line column) (result_err r)) (fields_fault line wanted (column + length f + 1) (replicate k (defect_of written)) fs)) head
      ∙ fields_clear line wanted (column + length f + 1) k fs row tail (omega arith)

  rows_clear : (heads number : ℕ) (lines : List (List ℕ)) (rows : List (List T)) → AreRows written heads lines rows → number + length rows ≤ most_polls + 1 → rows_fault written heads number lines ≡ None
  rows_clear heads number [] [] a h = refl
  rows_clear heads number [] (row ∷ rows) a h = absurd a
  rows_clear heads number (line ∷ lines) [] a h = absurd a
  rows_clear heads number (line ∷ lines) (row ∷ rows) a h =
      ap (λ o. option_or o (rows_fault written heads (number + 1) lines)) (cond-false _ _ _ (le-ltb most_polls number (omega arith)) ∙ fields_clear number heads 1 heads (fields 44 line) row a.0.0 a.0.1)
      ∙ rows_clear heads (number + 1) lines rows a.1 (omega arith)

  first_heads : (heads : ℕ) (lines : List (List ℕ)) (rows : List (List T)) → AreRows written heads lines rows → 0 < length rows → heads ≤ most_heads → grid_lines_fault written lines ≡ rows_fault written heads 1 lines
  first_heads heads [] [] a some few = absurd (omega arith)
  first_heads heads [] (row ∷ rows) a some few = absurd a
  first_heads heads (line ∷ lines) [] a some few = absurd a
  first_heads heads (line ∷ lines) (row ∷ rows) a some few =
      let n : length (fields 44 line) ≡ heads = sym (as_long (fields 44 line) row a.0.0) ∙ a.0.1 in
      let e : min (length (fields 44 line)) most_heads ≡ heads = omega arith in
      ap (λ k. rows_fault written k 1 (line ∷ lines)) e

  pub clear : (lines : List (List ℕ)) (heads polls : ℕ) (readings : List T) → IsGrid written lines heads polls readings → grid_lines_fault written lines ≡ None
  clear lines heads polls readings g =
      let n = g.polls_are in
      let some = g.some_poll in
      let few = g.few_polls in
      first_heads heads lines g.rows g.each (omega arith) g.few_heads ∙ rows_clear heads 1 lines g.rows g.each (omega arith)

  pub is_grid : (lines : List (List ℕ)) (heads polls : ℕ) (readings : List T) → rows_fault written heads 1 lines ≡ None → readings ≡ readings_in written lines → polls ≡ length lines → 0 < polls → polls ≤ most_polls → heads ≤ most_heads → IsGrid written lines heads polls readings
  is_grid lines heads polls readings e is n some few_polls few_heads =
      record {
        rows = map (row_readings written) lines;
        each = rows_are heads 1 lines e;
        polls_are = n ∙ sym (length-map lines (row_readings written));
        readings_are = is ∙ joined lines;
        some_poll = some;
        few_polls = few_polls;
        few_heads = few_heads;
      }

  pub refused : (lines : List (List ℕ)) (fault : TextFault) → grid_lines_fault written lines ≡ Some fault → IsNoGrid written lines
  refused lines fault e heads polls readings g = let h = clear lines heads polls readings g in cc

  pub refused_by : {X : Type 0} (lines : List (List ℕ)) (r : Result X ReadError) → FaultIs (grid_lines_fault written lines) r → IsRefused r → IsNoGrid written lines
  refused_by lines (Ok x) f k = absurd k
  refused_by lines (Err (Text fault)) f k = refused lines fault f
  refused_by lines (Err Memory) f k = absurd k
