-- What holds of each row and whichever variable holds of the rows that a table shows. So each price is promised.
use Rattle.std.proofs.Common.{◌≡◌, ℕ, suc, ◌<◌, ℤ, pos, Bool, true, false, List, [], ◌∷◌, ◌++◌, length, Contains, slice_index_or, Option, None, Some, refl, arith, if◌then◌else◌}
use Rattle.plan_quantities.proofs.Common.{AllByRecursion, Rational, Data, Row, RowName, Var, is_zero, row_name_cmp, value_in, IsOver, all_variables, instances, AreRowsOf, AreMultipliersOver, Proves, bound_of, model_cost, IsRowPromised, row_price}
use Rattle.plan_quantities.proofs.PriceLaws.{row-promise-holds}
use Rattle.price_tables.specs.declared.shown.PriceTable.{PriceTable}
use Rattle.price_tables.specs.PricedRows.{priced_kind, priced_rows, priced_variable, with_variable}

-- ---- elements of a list

pub first : (row : Row) (rows : List Row) → Contains (row ∷ rows) row
first row rows = (0, omega arith, refl)

pub later : (row other : Row) (rows : List Row) → Contains rows other → Contains (row ∷ rows) other
later row other rows (k, within, is) = (suc k, omega (arith, within), is)

-- ---- the rows of a table

module _ (table : PriceTable) (multipliers : List (RowName × Rational)) (P : Row × Var → Type 0) where
  by_multiplier : (row : Row) (p : Var) (is_none : Bool) (rest : List (Row × Var)) → P (row, p) → AllByRecursion P rest → AllByRecursion P ((if is_none then [] else (row, p) ∷ []) ++ rest)
  by_multiplier row p true rest here all = all
  by_multiplier row p false rest here all = (here, all)

  by_kind : (row : Row) (kind : Option ℕ) (rest : List (Row × Var)) → ((p : Var) → P (row, p)) → AllByRecursion P rest → AllByRecursion P (with_variable multipliers row kind ++ rest)
  by_kind row None rest here all = all
  by_kind row (Some kind) rest here all =
      by_multiplier row (priced_variable kind row.name.index) (is_zero (value_in row_name_cmp multipliers row.name).top) rest (here (priced_variable kind row.name.index)) all

  pub of_priced : (rows : List Row) → ((row : Row) (p : Var) → Contains rows row → P (row, p)) → AllByRecursion P (priced_rows table multipliers rows)
  of_priced [] all = tt
  of_priced (row ∷ rows) all =
      by_kind row (priced_kind table row.name.eq) (priced_rows table multipliers rows) (λ p. all row p (first row rows)) (of_priced rows (λ other p given. all other p (later row other rows given)))

pub prices-promised : (places : ℕ) (d : Data) (rows : List Row) (s : ℕ) (y : RowName → ℤ) (multipliers : List (RowName × Rational)) (bound : Rational) (table : PriceTable)
    → AreRowsOf places d (instances d) rows → Proves model_cost rows (all_variables d) s y → AreMultipliersOver s y multipliers → IsOver (pos s) bound (bound_of y rows)
    → AllByRecursion (λ (e : Row × Var). IsRowPromised places d e.0.name e.1 bound (row_price multipliers e.0 e.1)) (priced_rows table multipliers rows)
prices-promised places d rows s y multipliers bound table are proves over bounds =
    of_priced table multipliers (λ e. IsRowPromised places d e.0.name e.1 bound (row_price multipliers e.0 e.1)) rows
    (λ row p given. row-promise-holds places d rows s y multipliers bound row p are proves over bounds given)
