-- What `table` shows of an optimum: values of its plan, prices by its multipliers, the data that it is a plan for, or what a page is drawn from.
use Rattle.std.specs.Prelude.{ℕ, Bool, List, codes, Option, None, Some, option_map, ⊤, if◌then◌else◌}
use Rattle.std.specs.Str.{bytes_eq}
use Rattle.exact_num.specs.Rational.{Rational}
use Rattle.model_sets.specs.Data.{Data}
use Rattle.row_core.specs.declared.Row.{Row}
use Rattle.row_core.specs.declared.RowName.{RowName}
use Rattle.row_core.specs.declared.Var.{Var}
use Rattle.plan_tables.specs.declared.shown.NumberForm.{NumberForm}
use Rattle.plan_tables.specs.TableNames.{IsTable, table_named}
use Rattle.plan_tables.specs.ValueTables.{table_text}
use Rattle.price_tables.specs.PriceTables.{price_text}
use Rattle.price_tables.specs.PricedRows.{price_table_named}
use Rattle.data_tables.specs.DataNames.{IsDataTable, data_table_named}
use Rattle.data_tables.specs.DataTexts.{data_text}
use Rattle.page_tables.specs.PageTables.{plan_tables}
use Rattle.table_command.specs.declared.shown.Shown.{Shown}
use Rattle.table_command.specs.declared.shown.Shown.TheVariants.{Data as OfData, Page, Prices, Values}

-- the first of two that there is
abbrev pub or_else : {X : Type 0} → Option X → Option X → Option X
or_else None other = other
or_else (Some x) other = Some x

-- What a name stands for, if it does, in data that have a statement for DiscountRateIdv or have none: no table has the name of another.
abbrev pub shown_named : Bool → List ℕ → Option Shown
shown_named second name =
    or_else (option_map Prices (price_table_named name))
    (or_else (option_map Values (table_named name))
    (if bytes_eq name (codes "page") then Some Page else option_map OfData (data_table_named second name)))

-- a table of a kind is one of a kind that there is, and one of a parameter of one that the data use
abbrev pub IsShowable : Data → Shown → Type 0
IsShowable d (Values table) = IsTable table
IsShowable d (Prices table) = ⊤
IsShowable d (OfData table) = IsDataTable d table
IsShowable d Page = ⊤

-- The text of what is shown, of a plan and of multipliers of rows of the data, with written factors of so many decimal places.
abbrev pub shown_text : NumberForm → ℕ → Data → List Row → List (Var × Rational) → List (RowName × Rational) → Shown → List ℕ
shown_text form places d rows plan multipliers (Values table) = table_text d.sets form plan table
shown_text form places d rows plan multipliers (Prices table) = price_text d.sets form rows multipliers table
shown_text form places d rows plan multipliers (OfData table) = data_text form places d table
shown_text form places d rows plan multipliers Page = plan_tables form places d rows plan multipliers
