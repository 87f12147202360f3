-- The numbers of a row that a table shows. Each is exact, and there is none where a number that is formed for it doesn't fit 128 bits.
use Rattle.std.specs.Prelude.{ℕ, negsuc, Bool, ◌==◌, ◌||◌, List, Option, None, Some, if◌then◌else◌}
use Rattle.std.specs.Option.{option_and_then}
use Rattle.exact_num.specs.Formed.{product_formed, quotient_formed}
use Rattle.exact_num.specs.Range.{all_fit}
use Rattle.exact_num.specs.Rational.{Rational, divided, lowest, times, whole}
use Rattle.row_core.specs.declared.Row.{Row}
use Rattle.row_core.specs.declared.RowName.{RowName}
use Rattle.row_core.specs.declared.Var.{Var}
use Rattle.row_core.specs.declared.equation_numbers.TheConstants.{RE4, RM3}
use Rattle.row_core.specs.Numbers.{is_zero}
use Rattle.row_core.specs.Order.{row_name_cmp}
use Rattle.row_core.specs.Plans.{value_in}
use Rattle.row_core.specs.Rows.{number_at}

-- ---- the price

-- the price of p at a row: the row's multiplier times what it has at p
abbrev pub row_price : List (RowName × Rational) → Row → Var → Rational
row_price multipliers row p = times (value_in row_name_cmp multipliers row.name) (whole (number_at row.entries.items p))

-- the same of a row's variable p, where what the product forms fits
abbrev pub price_of : List (RowName × Rational) → Row → Var → Option Rational
price_of multipliers row p =
    if all_fit (product_formed (value_in row_name_cmp multipliers row.name) (whole (number_at row.entries.items p))) then Some (row_price multipliers row p) else None

-- ---- the limit

-- a row whose limit isn't a number of the data: it is a part of what else the plan has, so that the row's right side is 0
abbrev pub has_relative_limit : ℕ → Bool
has_relative_limit eq = eq == RM3 || eq == RE4

-- the limit of a row's variable p, in the data's unit: the row's right side over the row's entry at p, where it has one
abbrev pub limit_of : Row → Var → Option Rational
limit_of row p = if has_relative_limit row.name.eq || is_zero (number_at row.entries.items p) then None else Some (lowest row.rhs (number_at row.entries.items p))

-- ---- one per cent more

-- x over -100, where what the quotient forms fits
abbrev pub saved_hundredth : Rational → Option Rational
saved_hundredth x = if all_fit (quotient_formed x (whole (negsuc 99))) then Some (divided x (whole (negsuc 99))) else None

-- what one per cent more of a limit saves at most, at this price: the price times the limit over -100, where what the product and the quotient form fits
abbrev pub percent_at : Rational → Rational → Option Rational
percent_at price limit = if all_fit (product_formed price limit) then saved_hundredth (times price limit) else None

abbrev pub percent_of : Option Rational → Option Rational → Option Rational
percent_of price limit = option_and_then (λ p. option_and_then (percent_at p) limit) price
