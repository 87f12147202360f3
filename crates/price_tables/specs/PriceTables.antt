-- The tables of prices: a header, and a record for each row that the table shows, with the members of its subscripts and its numbers.
use Rattle.std.specs.Prelude.{ℕ, List, [], ◌∷◌, ◌++◌, map, codes, Option, None, Some}
use Rattle.exact_num.specs.Rational.{Rational}
use Rattle.model_sets.specs.Members.{SetLists}
use Rattle.plan_files.specs.Files.{Fields}
use Rattle.plan_files.specs.Records.{subscript_field}
use Rattle.plan_files.specs.Texts.{records_text}
use Rattle.plan_tables.specs.declared.shown.NumberForm.{NumberForm}
use Rattle.plan_tables.specs.ValueTables.{number_text}
use Rattle.row_core.specs.declared.Row.{Row}
use Rattle.row_core.specs.declared.RowName.{RowName}
use Rattle.row_core.specs.declared.Var.{Var}
use Rattle.row_core.specs.Equations.{equation_has, word_of_equation}
use Rattle.row_core.specs.Subscripts.{r, l, t, f, e, y}
use Rattle.price_tables.specs.declared.shown.PriceTable.{PriceTable}
use Rattle.price_tables.specs.declared.shown.PriceTable.TheVariants.{Fuels, Limits}
use Rattle.price_tables.specs.PriceAmounts.{limit_of, percent_of, price_of}
use Rattle.price_tables.specs.PricedRows.{priced_rows}

-- ---- columns

-- the first line
abbrev pub header_line : PriceTable → List ℕ
header_line Limits = codes "EQUATION,REGION,TIMESLICE,TECHNOLOGY,EMISSION,YEAR,LIMIT,PRICE,PERCENT\n"
header_line Fuels = codes "EQUATION,REGION,TIMESLICE,FUEL,YEAR,PRICE\n"

-- the places of the subscripts that have a column
abbrev pub places_of : PriceTable → List ℕ
places_of Limits = r ∷ l ∷ t ∷ e ∷ y ∷ []
places_of Fuels = r ∷ l ∷ f ∷ y ∷ []

-- ---- records

-- the word of the row's equation, and the members of its subscripts, with nothing for one that it hasn't
abbrev pub name_fields : SetLists → PriceTable → RowName → Fields
name_fields sets table name = word_of_equation name.eq ∷ map (subscript_field sets (equation_has name.eq) name.index) (places_of table)

-- a number in this form, and nothing where there is none
abbrev pub amount_text : NumberForm → Option Rational → List ℕ
amount_text form None = []
amount_text form (Some x) = number_text form x

-- the numbers of a row and its variable
abbrev pub amounts : PriceTable → List (RowName × Rational) → Row → Var → List (Option Rational)
amounts Limits multipliers row p = limit_of row p ∷ price_of multipliers row p ∷ percent_of (price_of multipliers row p) (limit_of row p) ∷ []
amounts Fuels multipliers row p = price_of multipliers row p ∷ []

abbrev pub price_record : SetLists → NumberForm → List (RowName × Rational) → PriceTable → Row × Var → Fields
price_record sets form multipliers table e = name_fields sets table e.0.name ++ map (amount_text form) (amounts table multipliers e.0 e.1)

-- the records of a table, in the order of the rows
abbrev pub price_records : SetLists → NumberForm → List Row → List (RowName × Rational) → PriceTable → List Fields
price_records sets form rows multipliers table = map (price_record sets form multipliers table) (priced_rows table multipliers rows)

-- The text of a table.
abbrev pub price_text : SetLists → NumberForm → List Row → List (RowName × Rational) → PriceTable → List ℕ
price_text sets form rows multipliers table = header_line table ++ records_text (price_records sets form rows multipliers table)
