-- What is written of rows is what is written of each of them, one after another.
use Rattle.std.proofs.Common.{◌≡◌, ℕ, zero, suc, ◌+◌, ◌<◌, List, [], ◌∷◌, ◌++◌, length, map, drop, get_or, sym, ap, ◌∙◌, append_assoc, arith}
use Rattle.std.specs.List.{AllByRecursion}
use Rattle.std.proofs.lemmas.Grind.{flat_map-append}
use Rattle.std.proofs.lemmas.List.{drop_more, map-append}
use Rattle.csv.specs.Writing.{default_writer, row_text}
use Rattle.exact_num.specs.Rational.{Rational}
use Rattle.model_sets.specs.Members.{SetLists}
use Rattle.row_core.specs.declared.Row.{Row}
use Rattle.row_core.specs.declared.RowName.{RowName}
use Rattle.plan_files.specs.Listed.{IsListedRow, name_of_row}
use Rattle.plan_files.specs.Texts.{records_text}
use Rattle.plan_tables.specs.declared.shown.NumberForm.{NumberForm}
use Rattle.price_tables.specs.declared.shown.PriceTable.{PriceTable}
use Rattle.price_tables.specs.PriceTables.{price_record, price_records}
use Rattle.price_tables.specs.PricedRows.{priced_row, priced_rows}

-- the row at a place is one that the sets have, where all are
pub listed_at : (sets : SetLists) (rows : List Row) (i : ℕ) (d : Row) → AllByRecursion (IsListedRow sets) (map name_of_row rows) → i < length rows → IsListedRow sets (get_or rows i d).name
listed_at sets [] i d all h = absurd (omega arith)
listed_at sets (row ∷ rows) zero d all h = all.0
listed_at sets (row ∷ rows) (suc i) d all h = listed_at sets rows i d all.1 (omega arith)

module _ (sets : SetLists) (form : NumberForm) (multipliers : List (RowName × Rational)) (table : PriceTable) where
  -- the text of the records of rows
  abbrev pub rows_text : List Row → List ℕ
  rows_text rows = records_text (price_records sets form rows multipliers table)

  joined : (xs ys : List Row) → rows_text (xs ++ ys) ≡ rows_text xs ++ rows_text ys
  joined xs ys =
      ap (λ es. records_text (map (price_record sets form multipliers table) es)) (flat_map-append (priced_row table multipliers) xs ys)
      ∙ ap records_text (map-append (price_record sets form multipliers table) (priced_rows table multipliers xs) (priced_rows table multipliers ys))
      ∙ flat_map-append (row_text default_writer) (price_records sets form xs multipliers table) (price_records sets form ys multipliers table)

  -- one row more
  pub rows_next : (rows : List Row) (i : ℕ) (d : Row) (out all : List ℕ) → i < length rows → out ++ rows_text (drop i rows) ≡ all
      → (out ++ rows_text (get_or rows i d ∷ [])) ++ rows_text (drop (i + 1) rows) ≡ all
  rows_next rows i d out all h so_far =
      append_assoc out (rows_text (get_or rows i d ∷ [])) (rows_text (drop (i + 1) rows))
      ∙ ap (λ t. out ++ t) (sym (joined (get_or rows i d ∷ []) (drop (i + 1) rows)))
      ∙ sym (ap (λ xs. out ++ rows_text xs) (drop_more rows i d h)) ∙ so_far
