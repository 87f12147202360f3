-- The definitions, computed on small examples, and on near misses.
use Rattle.std.proofs.Common.{◌≡◌, ℕ, false, true, [], None, Some, refl}
use Rattle.std.specs.Prelude.{codes}
use Rattle.model_sets.specs.Data.{Data}
use Rattle.model_sets.specs.declared.param_numbers.TheConstants.{CAPITAL_COST, DISCOUNT_RATE_IDV}
use Rattle.row_core.specs.declared.kind_numbers.TheConstants as k
use Rattle.plan_tables.specs.declared.shown.NumberForm.TheVariants.{Decimals, Fractions}
use Rattle.plan_tables.specs.declared.shown.Table.TheVariants as tables
use Rattle.plan_tables.specs.ValueTables.{table_text}
use Rattle.price_tables.specs.declared.shown.PriceTable.TheVariants.{Fuels, Limits}
use Rattle.price_tables.specs.PriceTables.{price_text}
use Rattle.data_tables.specs.declared.names.DataTable.TheVariants.{Param, Sets, Worth}
use Rattle.data_tables.specs.DataTexts.{sets_text}
use Rattle.proof_files.specs.declared.proof.Proof.TheVariants.{Optimum, Refutation, Descent}
use Rattle.command_answers.specs.declared.status.Status.TheVariants.{Done, Infeasible, Unbounded}
use Rattle.table_command.specs.declared.shown.Shown.TheVariants.{Data as OfData, Page, Prices, Values}
use Rattle.table_command.specs.ShownTables.{shown_named, shown_text}
use Rattle.table_command.specs.Tables.{ShowsProof, form_of, unknown_table_line}

-- ---- names

limits : shown_named false (codes "limits") ≡ Some (Prices Limits)
limits = refl

prices : shown_named false (codes "prices") ≡ Some (Prices Fuels)
prices = refl

all_values : shown_named false (codes "all") ≡ Some (Values tables.AllValues)
all_values = refl

capacity : shown_named false (codes "NewCapacity") ≡ Some (Values (tables.Values k.NEW_CAPACITY))
capacity = refl

-- otoole's other name of a kind is the same table
operation : shown_named false (codes "DiscountedOperationalCost") ≡ shown_named false (codes "DiscountedOperatingCost")
operation = refl

-- tables of the data: the members, what money is worth, and each parameter that the data use
of_sets : shown_named false (codes "sets") ≡ Some (OfData Sets)
of_sets = refl

of_worth : shown_named false (codes "worth") ≡ Some (OfData Worth)
of_worth = refl

capital_costs : shown_named false (codes "CapitalCost") ≡ Some (OfData (Param CAPITAL_COST))
capital_costs = refl

-- DiscountRateIdv is one where the text has a statement for it, and what the equations don't use never is
own_rates : shown_named true (codes "DiscountRateIdv") ≡ Some (OfData (Param DISCOUNT_RATE_IDV))
own_rates = refl

no_own_rates : shown_named false (codes "DiscountRateIdv") ≡ None
no_own_rates = refl

unused : shown_named true (codes "StorageLevelStart") ≡ None
unused = refl

page : shown_named false (codes "page") ≡ Some Page
page = refl

no_page : shown_named false (codes "pages") ≡ None
no_page = refl

-- words are compared by their bytes
capitals : shown_named false (codes "Limits") ≡ None
capitals = refl

a_space : shown_named false (codes "NewCapacity ") ≡ None
a_space = refl

no_word : shown_named false [] ≡ None
no_word = refl

unknown : unknown_table_line (codes "Limits") ≡ codes "refused unknown table Limits\n"
unknown = refl

-- ---- forms

decimals : form_of false ≡ Decimals
decimals = refl

fractions : form_of true ≡ Fractions
fractions = refl

-- ---- what is shown of a proof: of an optimum its table and of anything else its line, with a status of its own

module _ (places : ℕ) (d : Data) where
  refutation : ShowsProof places d [] (Prices Limits) Decimals (Refutation []) Infeasible (codes "accepted infeasible\n")
  refutation = (refl, refl)

  descent : ShowsProof places d [] (Values tables.AllValues) Decimals (Descent [] []) Unbounded (codes "accepted unbounded\n")
  descent = (refl, refl)

  optimum : ShowsProof places d [] (Prices Fuels) Fractions (Optimum [] []) Done (codes "EQUATION,REGION,TIMESLICE,FUEL,YEAR,PRICE\n")
  optimum = (refl, refl)

  -- a refutation has no table, and doesn't end well
  not_done : ¬ (ShowsProof places d [] (Prices Limits) Decimals (Refutation []) Done (codes "accepted infeasible\n"))
  not_done = λ shows. cc shows.0

  -- values are no prices, and data are neither
  of_values : shown_text Decimals places d [] [] [] (Values tables.AllValues) ≡ table_text d.sets Decimals [] tables.AllValues
  of_values = refl

  of_prices : shown_text Decimals places d [] [] [] (Prices Limits) ≡ price_text d.sets Decimals [] [] Limits
  of_prices = refl

  of_data : shown_text Decimals places d [] [] [] (OfData Sets) ≡ sets_text d.sets
  of_data = refl
