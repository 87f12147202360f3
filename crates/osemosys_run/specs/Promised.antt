-- What the prices of a table promise, where `check` accepts the proof whose multipliers make them.
use Rattle.std.specs.Prelude.{◌≡◌, ◌≢◌, ℕ, pos, List, Contains}
use Rattle.std.specs.List.{AllByRecursion}
use Rattle.exact_num.specs.Rational.{Rational}
use Rattle.model_sets.specs.Data.{Data}
use Rattle.row_core.specs.declared.Row.{Row}
use Rattle.row_core.specs.declared.RowName.{RowName}
use Rattle.row_core.specs.declared.Var.{Var}
use Rattle.named_equations.specs.Existence.{all_variables}
use Rattle.named_equations.specs.Instances.{instances}
use Rattle.row_core.specs.Order.{row_name_cmp}
use Rattle.row_core.specs.Plans.{value_in}
use Rattle.row_book.specs.Books.{AreRowsOf}
use Rattle.check_command.specs.Check.{multiplier_bound}
use Rattle.plan_files.specs.Files.{records_of}
use Rattle.proof_files.specs.Proofs.{IsProof}
use Rattle.proof_files.specs.declared.proof.Proof.TheVariants.{Optimum}
use Rattle.plan_quantities.specs.DataPrices.{IsPromisedOverData}
use Rattle.plan_quantities.specs.Percents.{IsShownPercentPromised}
use Rattle.plan_quantities.specs.RowPrices.{IsRowPromised}
use Rattle.plan_quantities.specs.ShownRows.{IsToBeShown}
use Rattle.plan_quantities.specs.SpokenRows.{AreSpokenOf, HaveEntries}
use Rattle.plan_tables.specs.declared.shown.NumberForm.{NumberForm}
use Rattle.price_tables.specs.declared.shown.PriceTable.{PriceTable}
use Rattle.price_tables.specs.PriceAmounts.{row_price}
use Rattle.price_tables.specs.PricedRows.{priced_rows}
use Rattle.price_tables.specs.PriceTables.{price_text}

-- each row that the table shows: a plan that meets the row's equation with a over b less of the variable of which it speaks, and all other equations as they
-- are, costs at least the bound of the multipliers and the price times a over b
abbrev pub ArePricesPromised : ℕ → Data → List Row → List (RowName × Rational) → PriceTable → Type 0
ArePricesPromised places d rows multipliers table =
    AllByRecursion (λ e. IsRowPromised places d e.0.name e.1 (multiplier_bound rows multipliers) (row_price multipliers e.0 e.1)) (priced_rows table multipliers rows)

-- The text is that of the table, of the multipliers of the optimum that the file tells, over rows of the data; each of its prices is promised, and no row that it has to show is left out.
pub record IsPromisedTable (places : ℕ) (d : Data) (bytes : List ℕ) (table : PriceTable) (form : NumberForm) (text : List ℕ) : Type 0 where
  pub rows : List Row
  pub plan : List (Var × Rational)
  pub multipliers : List (RowName × Rational)
  pub are_rows : AreRowsOf places d (instances d) rows
  pub told : IsProof d.sets (all_variables d) (instances d) (records_of bytes) (Optimum plan multipliers)
  pub text_is : text ≡ price_text d.sets form rows multipliers table
  pub promised : ArePricesPromised places d rows multipliers table
  -- each limit, or balance of a fuel, whose multiplier isn't 0 is among the rows that the text shows
  pub complete : (row : Row) → Contains rows row → IsToBeShown places d table row.name → (value_in row_name_cmp multipliers row.name).top ≢ pos 0
      → (p : Var) × Contains (priced_rows table multipliers rows) (row, p)
  -- the variable of each row that is shown is alone on a side of the row's equation, in the data's unit, and the row has an entry other than 0 there
  pub spoken : AreSpokenOf places (priced_rows table multipliers rows)
  pub entries : HaveEntries (priced_rows table multipliers rows)
  -- of the data: a plan of the data with another limit or another demand in the place of a row's costs at least the bound and the price times what is more
  pub over_data : AllByRecursion (λ e. IsPromisedOverData places d e.0.name (multiplier_bound rows multipliers) (row_price multipliers e.0 e.1)) (priced_rows table multipliers rows)
  -- what one per cent more of a limit saves at most, where the text tells a number
  pub percents : AllByRecursion (IsShownPercentPromised places d multipliers (multiplier_bound rows multipliers)) (priced_rows table multipliers rows)
