-- The rows whose prices the tables show: those of limits, and the balances of fuels, where the multiplier isn't 0; and of which variable each speaks.
use Rattle.std.specs.Prelude.{ℕ, ◌==◌, ◌||◌, List, [], ◌∷◌, codes, Option, None, Some, if◌then◌else◌}
use Rattle.std.specs.List.{flat_map}
use Rattle.std.specs.Str.{bytes_eq}
use Rattle.exact_num.specs.Rational.{Rational}
use Rattle.row_core.specs.declared.Index.{Index}
use Rattle.row_core.specs.declared.Row.{Row}
use Rattle.row_core.specs.declared.RowName.{RowName}
use Rattle.row_core.specs.declared.Var.{Var}
use Rattle.row_core.specs.declared.equation_numbers.TheConstants as equation
use Rattle.row_core.specs.declared.kind_numbers.TheConstants as kind_of
use Rattle.row_core.specs.Kinds.{kind_has}
use Rattle.row_core.specs.Numbers.{is_zero}
use Rattle.row_core.specs.Order.{row_name_cmp}
use Rattle.row_core.specs.Plans.{value_in}
use Rattle.row_core.specs.Subscripts.{r, rr, l, t, f, e, m, y}
use Rattle.price_tables.specs.declared.shown.PriceTable.{PriceTable}
use Rattle.price_tables.specs.declared.shown.PriceTable.TheVariants.{Fuels, Limits}

-- ---- names

-- the table of this name, if there is one
abbrev pub price_table_named : List ℕ → Option PriceTable
price_table_named name = if bytes_eq name (codes "limits") then Some Limits else if bytes_eq name (codes "prices") then Some Fuels else None

-- ---- of which kind of variables the rows of an equation speak

-- what an equation limits: the kind of the variable that stands alone on a side
abbrev pub limited_kind : ℕ → Option ℕ
limited_kind eq =
    if eq == equation.TCC1 || eq == equation.TCC2 then Some kind_of.TOTAL_CAPACITY_ANNUAL
    else if eq == equation.NCC1 || eq == equation.NCC2 then Some kind_of.NEW_CAPACITY
    else if eq == equation.AAC2 || eq == equation.AAC3 then Some kind_of.TOTAL_TECHNOLOGY_ANNUAL_ACTIVITY
    else if eq == equation.TAC2 || eq == equation.TAC3 then Some kind_of.TOTAL_TECHNOLOGY_MODEL_PERIOD_ACTIVITY
    else if eq == equation.RM3 then Some kind_of.TOTAL_CAPACITY_IN_RESERVE_MARGIN
    else if eq == equation.RE4 then Some kind_of.TOTAL_RE_PRODUCTION_ANNUAL
    else if eq == equation.E8 then Some kind_of.ANNUAL_EMISSIONS
    else if eq == equation.E9 then Some kind_of.MODEL_PERIOD_EMISSIONS
    else None

-- what the balance of a fuel asks for, in a timeslice and in a year
abbrev pub fuel_kind : ℕ → Option ℕ
fuel_kind eq =
    if eq == equation.EBA11 then Some kind_of.PRODUCTION
    else if eq == equation.EBB4 then Some kind_of.PRODUCTION_ANNUAL
    else None

-- the same by the table, none of the rows that it doesn't show
abbrev pub priced_kind : PriceTable → ℕ → Option ℕ
priced_kind Limits eq = limited_kind eq
priced_kind Fuels eq = fuel_kind eq

-- ---- the variable

-- a subscript of a row, where the kind has the one at this place
abbrev pub kept : ℕ → ℕ → ℕ → ℕ
kept kind place position = if kind_has kind place then position else 0

-- the variable of a kind at those of a row's subscripts that the kind has; a row of RM3 has a timeslice, and its capacity hasn't
abbrev pub priced_variable : ℕ → Index → Var
priced_variable kind i = record {
  kind = kind;
  index = record {
    region = kept kind r i.region;
    other = kept kind rr i.other;
    slice = kept kind l i.slice;
    tech = kept kind t i.tech;
    fuel = kept kind f i.fuel;
    emission = kept kind e i.emission;
    mode = kept kind m i.mode;
    year = kept kind y i.year;
  };
}

-- ---- the rows

-- a row with the variable of which it speaks, where its multiplier isn't 0
abbrev pub with_variable : List (RowName × Rational) → Row → Option ℕ → List (Row × Var)
with_variable multipliers row None = []
with_variable multipliers row (Some kind) = if is_zero (value_in row_name_cmp multipliers row.name).top then [] else (row, priced_variable kind row.name.index) ∷ []

abbrev pub priced_row : PriceTable → List (RowName × Rational) → Row → List (Row × Var)
priced_row table multipliers row = with_variable multipliers row (priced_kind table row.name.eq)

-- the rows that a table shows, in their order, each with its variable
abbrev pub priced_rows : PriceTable → List (RowName × Rational) → List Row → List (Row × Var)
priced_rows table multipliers rows = flat_map (priced_row table multipliers) rows
