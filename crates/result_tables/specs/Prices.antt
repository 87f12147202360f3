-- Prices of fuels. The balance of a fuel is the row EBa11[r,l,f,y]. Its multiplier times the number that the row has at Production[r,l,f,y] is the price: what one unit more of demand adds to the bound, by linear programming duality.
use Rattle.std.specs.Prelude.{ℤ, Bool, List, [], ◌∷◌, map, filter, ◌==◌, if◌then◌else◌}
use Rattle.std.specs.Ordering.{is_eq}
use Rattle.exact_num.specs.Formed.{product_formed}
use Rattle.exact_num.specs.Rational.{Rational, times, whole}
use Rattle.exact_num.specs.Steps.{Step}
use Rattle.row_core.specs.declared.Row.{Row}
use Rattle.row_core.specs.declared.RowName.{RowName}
use Rattle.row_core.specs.declared.Var.{Var}
use Rattle.row_core.specs.declared.equation_numbers.TheConstants.{EBA11}
use Rattle.row_core.specs.declared.kind_numbers.TheConstants.{PRODUCTION}
use Rattle.row_core.specs.declared.place.Place.{Place}
use Rattle.row_core.specs.declared.place.Place.TheVariants.{Price}
use Rattle.row_core.specs.Order.{row_name_cmp}
use Rattle.row_core.specs.Plans.{value_in}
use Rattle.row_core.specs.Rows.{number_at}

-- Production with the subscripts of a row
abbrev pub production_of : RowName → Var
production_of name = record { kind = PRODUCTION; index = name.index }

-- the entries of the first row of a name, none where there is no such row
abbrev pub entries_of : List Row → RowName → List (Var × ℤ)
entries_of [] name = []
entries_of (row ∷ rows) name = if is_eq (row_name_cmp row.name name) then row.entries.items else entries_of rows name

-- the multiplier of a name times a number
abbrev pub priced : List (RowName × Rational) → RowName → ℤ → Rational
priced multipliers name n = times (value_in row_name_cmp multipliers name) (whole n)

-- the price at a name: its multiplier times what its row has at Production
abbrev pub price_at : List Row → List (RowName × Rational) → RowName → Rational
price_at rows multipliers name = priced multipliers name (number_at (entries_of rows name) (production_of name))

-- the rows that are balances of fuels, in their order
abbrev pub is_balance : Row → Bool
is_balance row = row.name.eq == EBA11

abbrev pub balances : List Row → List Row
balances rows = filter is_balance rows

-- what a row has at its Production
abbrev pub production_entry : Row → ℤ
production_entry row = number_at row.entries.items (production_of row.name)

-- the price of each balance, with its name
abbrev pub named_price : List (RowName × Rational) → Row → RowName × Rational
named_price multipliers row = (row.name, priced multipliers row.name (production_entry row))

abbrev pub prices : List Row → List (RowName × Rational) → List (RowName × Rational)
prices rows multipliers = map (named_price multipliers) (balances rows)

-- each price forms one product, also where the multiplier is 0
abbrev pub price_step : List (RowName × Rational) → Row → Step Place
price_step multipliers row =
    record { place = Price row.name; formed = product_formed (value_in row_name_cmp multipliers row.name) (whole (production_entry row)) }

abbrev pub price_steps : List Row → List (RowName × Rational) → List (Step Place)
price_steps rows multipliers = map (price_step multipliers) (balances rows)
