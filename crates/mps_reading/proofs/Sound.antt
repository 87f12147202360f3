-- Nothing in the text is refused: no name and no entry is there twice, and all that is spoken of is there.
use Rattle.mps_reading.proofs.Common.{◌≡◌, ℕ, ◌+◌, ◌≤◌, ◌^◌, Bool, true, false, List, [], ◌∷◌, length, map, refl, ap, sym, ◌∙◌, subst, arith, ℤ, codes, AllByRecursion, enumerate_from, flat_map, list_all, Var, ascends, variables_of, var_cmp, RowContents, Name, are_distinct, are_known, are_sound, columns_in, have_distinct_columns, is_among, names_of_rows, all-among, all-each, all-numbered, all-weaker, chosen, chosen-distinct, distinct-rising, one_if, lettered, column_of, cost_of_column, is_cost, place_of, program_of_contents, program_row}
use Rattle.mps_reading.proofs.Places.{places-rise}
use Rattle.mps_reading.proofs.Sections.{column_entries, column_letter, cost_entry, entries_for, free_name, has_side, named_row, row_letter, side_of}
use Rattle.mps_reading.proofs.Stated.{IsUsed, IsWithColumns, all-append, all-flat_map, all-if, columns-named, map-map, map-singles, rows-of}
use Rattle.mps_reading.proofs.Whole.{statements_of_rows}
use Rattle.mps_writer.specs.MpsText as writer

-- ---- tests of lists

all-from_each : {A B : Type 0} (test : B → Bool) (f : A → B) (xs : List A) → AllByRecursion (λ x. test (f x) ≡ true) xs → list_all test (map f xs) ≡ true
all-from_each test f [] all = refl
all-from_each test f (x ∷ xs) all = rw (all.0, all-from_each test f xs all.1) refl

-- the names of rows, each with its number
names-are : (rs : List (ℕ × RowContents)) → names_of_rows (flat_map (λ r. named_row r ∷ []) rs) ≡ map (λ r. lettered row_letter r.0) rs
names-are rs = map-singles (λ row. row.name) named_row rs

-- no row is called COST
not-cost : (rs : List (ℕ × RowContents)) → is_among (map (λ r. lettered row_letter r.0) rs) (codes "COST") ≡ false
not-cost [] = refl
not-cost (r ∷ rs) = not-cost rs

module _ (rows : List RowContents) (columns : List Var) (few_rows : 1 + length rows ≤ 10 ^ 64) (few_columns : 1 + length columns ≤ 10 ^ 64) (up : ascends var_cmp columns ≡ true)
    (with_columns : AllByRecursion (IsWithColumns columns) rows) (used : AllByRecursion (IsUsed rows) columns) where
  abbrev all_rows : List (ℕ × RowContents)
  all_rows = enumerate_from 1 rows

  abbrev all_columns : List (ℕ × Var)
  all_columns = enumerate_from 1 columns

  abbrev row_names : List Name
  row_names = map (λ r. lettered row_letter r.0) all_rows

  rows-distinct : are_distinct (codes "COST" ∷ names_of_rows (flat_map (λ r. named_row r ∷ []) all_rows)) ≡ true
  rows-distinct =
      let apart : is_among (names_of_rows (flat_map (λ r. named_row r ∷ []) all_rows)) (codes "COST") ≡ false =
      ap (λ names. is_among names (codes "COST")) (names-are all_rows) ∙ not-cost all_rows in
      let others : are_distinct (names_of_rows (flat_map (λ r. named_row r ∷ []) all_rows)) ≡ true =
      chosen-distinct row_letter (λ r. true) named_row (λ row. row.name) (λ r. refl) 1 rows few_rows in
      rw (apart, others) refl

  columns-distinct : are_distinct (columns_in (statements_of_rows rows columns).entries) ≡ true
  columns-distinct =
      ap are_distinct (columns-named rows columns few_columns used ∙ sym (map-singles (λ n. n) (λ c. lettered column_letter c.0) all_columns))
      ∙ chosen-distinct column_letter (λ c. true) (λ c. lettered column_letter c.0) (λ n. n) (λ c. refl) 1 columns few_columns

  costs-distinct : have_distinct_columns (flat_map cost_of_column all_columns) ≡ true
  costs-distinct = chosen-distinct column_letter is_cost (λ c. (lettered column_letter c.0, _)) (λ e. e.0) (λ c. refl) 1 columns few_columns

  row-distinct : (row : RowContents) → IsWithColumns columns row → are_distinct (map (λ (e : Name × ℤ). e.0) (map (λ (e : Var × ℤ). (column_of columns e.0, e.1)) row.entries)) ≡ true
  row-distinct row is =
      ap are_distinct (map-map (λ (e : Name × ℤ). e.0) (λ (e : Var × ℤ). (column_of columns e.0, e.1)) row.entries ∙ by-variable row.entries)
      ∙ distinct-rising column_letter 0 (map (λ v. 1 + place_of v columns) (variables_of row.entries))
      (places-rise 0 columns (variables_of row.entries) up (omega arith) is.ascending is.among (λ v rest e. omega arith))
    where
      by-variable : (es : List (Var × ℤ)) → map (λ e. column_of columns e.0) es ≡ map (lettered column_letter) (map (λ v. 1 + place_of v columns) (variables_of es))
      by-variable [] = refl
      by-variable (e ∷ es) = ap (λ ns. column_of columns e.0 ∷ ns) (by-variable es)

  entries-distinct : list_all (λ row. have_distinct_columns row.entries) (map (program_row columns) all_rows) ≡ true
  entries-distinct =
      all-from_each (λ row. have_distinct_columns row.entries) (program_row columns) all_rows
      (all-weaker (λ r. IsWithColumns columns r.1) _ (λ r is. row-distinct r.1 is) all_rows (all-numbered (IsWithColumns columns) 1 rows with_columns))

  -- the rows that are known
  abbrev known : Name → Type 0
  known name = is_among (codes "COST" ∷ names_of_rows (flat_map (λ r. named_row r ∷ []) all_rows)) name ≡ true

  among-rows : AllByRecursion (λ r. is_among (names_of_rows (flat_map (λ r. named_row r ∷ []) all_rows)) (lettered row_letter r.0) ≡ true) all_rows
  among-rows = all-weaker _ _ (λ r there. ap (λ names. is_among names (lettered row_letter r.0)) (names-are all_rows) ∙ there) all_rows (all-among row_letter 1 rows)

  row-known : AllByRecursion (λ r. known (lettered row_letter r.0)) all_rows
  row-known = all-weaker _ _ (λ r there. there) all_rows among-rows

  rows-known : are_known (codes "COST" ∷ names_of_rows (flat_map (λ r. named_row r ∷ []) all_rows)) (map (λ e. e.row) (statements_of_rows rows columns).entries) ≡ true
  rows-known =
      all-from_each _ (λ e. e.row) (statements_of_rows rows columns).entries
      (all-flat_map (λ e. known e.row) (column_entries all_rows) all_columns
      (all-each _ (λ c.
      all-append (λ e. known e.row) (one_if is_cost cost_entry c) (flat_map (entries_for c.0 c.1) all_rows) (all-if (λ e. known e.row) is_cost cost_entry c refl)
      (all-flat_map (λ e. known e.row) (entries_for c.0 c.1) all_rows
      (all-weaker _ _ (λ r is. all-weaker (λ e. e.row ≡ lettered row_letter r.0) (λ e. known e.row) (λ e same. subst known (sym same) is) (entries_for c.0 c.1 r) (rows-of c.0 c.1 r)) all_rows row-known)))
      all_columns))

  sides-known : are_known (names_of_rows (flat_map (λ r. named_row r ∷ []) all_rows)) (map (λ side. side.0) (chosen has_side side_of all_rows)) ≡ true
  sides-known =
      all-from_each _ (λ side. side.0) (chosen has_side side_of all_rows)
      (all-flat_map _ (one_if has_side side_of) all_rows (all-weaker _ _ (λ r is. all-if _ has_side side_of r is) all_rows among-rows))

  sides-distinct : are_distinct (map (λ side. side.0) (chosen has_side side_of all_rows)) ≡ true
  sides-distinct = chosen-distinct row_letter has_side side_of (λ side. side.0) (λ r. refl) 1 rows few_rows

  map-itself : (names : List Name) → map (λ n. n) names ≡ names
  map-itself [] = refl
  map-itself (n ∷ names) = ap (λ ns. n ∷ ns) (map-itself names)

  free-known : are_known (columns_in (statements_of_rows rows columns).entries) (chosen writer.is_free_column free_name all_columns) ≡ true
  free-known =
      ap (λ names. are_known names (chosen writer.is_free_column free_name all_columns)) (columns-named rows columns few_columns used)
      ∙ ap (are_known (map (λ c. lettered column_letter c.0) all_columns)) (sym (map-itself (chosen writer.is_free_column free_name all_columns)))
      ∙ all-from_each _ (λ n. n) (chosen writer.is_free_column free_name all_columns)
      (all-flat_map _ (one_if writer.is_free_column free_name) all_columns (all-weaker _ _ (λ c is. all-if _ writer.is_free_column free_name c is) all_columns (all-among column_letter 1 columns)))

  free-distinct : are_distinct (chosen writer.is_free_column free_name all_columns) ≡ true
  free-distinct =
      ap are_distinct (sym (map-itself (chosen writer.is_free_column free_name all_columns)))
      ∙ chosen-distinct column_letter writer.is_free_column free_name (λ n. n) (λ c. refl) 1 columns few_columns

  pub sound : are_sound (statements_of_rows rows columns) (program_of_contents rows columns) ≡ true
  sound = rw (rows-distinct, columns-distinct, costs-distinct, entries-distinct, rows-known, sides-known, sides-distinct, free-known, free-distinct) refl
