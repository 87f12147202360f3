-- The rows that the tables show and their numbers, computed on rows that were worked out by hand, and on near misses.
use Rattle.std.proofs.Common.{◌≡◌, ℕ, ◌-◌, ◌^◌, ℤ, pos, negsuc, List, [], ◌∷◌, None, Some, refl}
use Rattle.std.specs.Global.{Vec}
use Rattle.exact_num.specs.Formed.{product_formed, quotient_formed}
use Rattle.exact_num.specs.Gcd.{gcd_of, gcd_within}
use Rattle.exact_num.specs.Range.{all_fit, in_range}
use Rattle.exact_num.specs.Rational.{Rational, divided, lowest, pair, times, whole}
use Rattle.row_core.specs.declared.Index.{Index}
use Rattle.row_core.specs.declared.Row.{Row}
use Rattle.row_core.specs.declared.RowName.{RowName}
use Rattle.row_core.specs.declared.Sense.TheVariants.{Least, Most}
use Rattle.row_core.specs.declared.Var.{Var}
use Rattle.row_core.specs.declared.equation_numbers.TheConstants as equation
use Rattle.row_core.specs.declared.kind_numbers.TheConstants as kind_of
use Rattle.written_method.proofs.MadeRows.{made_row}
use Rattle.price_tables.specs.declared.shown.PriceTable.TheVariants.{Fuels, Limits}
use Rattle.price_tables.specs.PriceAmounts.{limit_of, percent_at, percent_of, price_of}
use Rattle.price_tables.specs.PricedRows.{fuel_kind, limited_kind, priced_rows, priced_variable}

-- ---- names: the first members, but for the timeslice, the fuel and the year

abbrev pub at : ℕ → ℕ → ℕ → Index
at slice fuel year = record { region = 0; other = 0; slice = slice; tech = 0; fuel = fuel; emission = 0; mode = 0; year = year }

abbrev pub named : ℕ → Index → RowName
named eq i = record { eq = eq; index = i }

abbrev pub of_kind : ℕ → Index → Var
of_kind kind i = record { kind = kind; index = i }

abbrev pub Multiplied : Type 0
Multiplied = List (RowName × Rational)

abbrev pub at_row : RowName → Rational → Multiplied
at_row name x = (name, x) ∷ []

-- ---- variables

-- the reserve margin of a timeslice is about the capacity of the year
capacity_in_margin : priced_variable kind_of.TOTAL_CAPACITY_IN_RESERVE_MARGIN (at 1 0 2) ≡ of_kind kind_of.TOTAL_CAPACITY_IN_RESERVE_MARGIN (at 0 0 2)
capacity_in_margin = refl

production : priced_variable kind_of.PRODUCTION (at 1 1 2) ≡ of_kind kind_of.PRODUCTION (at 1 1 2)
production = refl

-- a balance is no limit, a limit is no balance, and what a limit counts isn't limited itself
no_limit : limited_kind equation.EBA11 ≡ None
no_limit = refl

no_balance : fuel_kind equation.TCC1 ≡ None
no_balance = refl

counted : limited_kind equation.AAC1 ≡ None
counted = refl

-- ---- rows

abbrev pub capacity : Var
capacity = of_kind kind_of.TOTAL_CAPACITY_ANNUAL (at 0 0 1)

abbrev pub built : Var
built = of_kind kind_of.NEW_CAPACITY (at 0 0 1)

abbrev pub in_margin : Var
in_margin = of_kind kind_of.TOTAL_CAPACITY_IN_RESERVE_MARGIN (at 0 0 2)

abbrev pub needing : Var
needing = of_kind kind_of.DEMAND_NEEDING_RESERVE_MARGIN (at 1 0 2)

abbrev pub renewable : Var
renewable = of_kind kind_of.TOTAL_RE_PRODUCTION_ANNUAL (at 0 0 0)

abbrev pub target : Var
target = of_kind kind_of.RE_TOTAL_PRODUCTION_OF_TARGET_FUEL_ANNUAL (at 0 0 0)

abbrev pub made : Var
made = of_kind kind_of.PRODUCTION (at 0 1 0)

abbrev pub wanted : Var
wanted = of_kind kind_of.DEMAND (at 0 1 0)

module _ (v : Vec (Var × ℤ)) where
  -- a capacity of at most a half, in whole numbers
  abbrev pub half_most : Row
  half_most = made_row v (named equation.TCC1 (at 0 0 1)) Most ((capacity, pos 2) ∷ []) (pos 1) refl

  -- the same, but of another variable
  abbrev pub another_most : Row
  another_most = made_row v (named equation.TCC1 (at 0 0 1)) Most ((built, pos 2) ∷ []) (pos 1) refl

  -- at least 10 built
  abbrev pub ten_least : Row
  ten_least = made_row v (named equation.NCC2 (at 0 0 1)) Least ((built, pos 1) ∷ []) (pos 10) refl

  -- no capacity at all
  abbrev pub none_most : Row
  none_most = made_row v (named equation.TCC1 (at 0 0 1)) Most ((capacity, pos 1) ∷ []) (pos 0) refl

  -- a fifth of the demand of a timeslice within the capacity in the margin
  abbrev pub margin : Row
  margin = made_row v (named equation.RM3 (at 1 0 2)) Most ((in_margin, negsuc 4) ∷ (needing, pos 1) ∷ []) (pos 0) refl

  -- a quarter of the target within the renewable production
  abbrev pub renewables : Row
  renewables = made_row v (named equation.RE4 (at 0 0 0)) Most ((renewable, negsuc 3) ∷ (target, pos 1) ∷ []) (pos 0) refl

  -- an eighth of the demand within the production
  abbrev pub balance : Row
  balance = made_row v (named equation.EBA11 (at 0 1 0)) Least ((made, pos 8) ∷ (wanted, negsuc 0) ∷ []) (pos 0) refl

  abbrev rows : List Row
  rows = balance ∷ half_most ∷ margin ∷ []

  -- ---- which rows are shown, and of which variable

  abbrev multiplied : Multiplied
  multiplied = (balance.name, whole (pos 1)) ∷ (half_most.name, whole (negsuc 2)) ∷ (margin.name, whole (negsuc 1)) ∷ []

  limits : priced_rows Limits multiplied rows ≡ (half_most, capacity) ∷ (margin, in_margin) ∷ []
  limits = refl

  fuels : priced_rows Fuels multiplied rows ≡ (balance, made) ∷ []
  fuels = refl

  -- a multiplier of 0, and none at all
  none_of_zero : priced_rows Limits (at_row half_most.name (whole (pos 0))) rows ≡ []
  none_of_zero = refl

  none_without : priced_rows Fuels [] rows ≡ []
  none_without = refl

  -- ---- prices: where the multiplier is -3, a unit more of the capacity saves 6

  half_price : price_of (at_row half_most.name (whole (negsuc 2))) half_most capacity ≡ Some (whole (negsuc 5))
  unfolding product_formed all_fit in_range times lowest gcd_of gcd_within
  half_price = refl

  -- and where it is 3, a unit more costs 6; the multiplier alone isn't the price
  other_sign : price_of (at_row half_most.name (whole (pos 3))) half_most capacity ≡ Some (whole (pos 6))
  unfolding product_formed all_fit in_range times lowest gcd_of gcd_within
  other_sign = refl

  -- a third of 8
  balance_price : price_of (at_row balance.name (pair (pos 1) (pos 3))) balance made ≡ Some (pair (pos 8) (pos 3))
  unfolding product_formed all_fit in_range times lowest gcd_of gcd_within
  balance_price = refl

  -- more capacity in the margin costs, though the row has it with a sign below 0
  margin_price : price_of (at_row margin.name (whole (negsuc 1))) margin in_margin ≡ Some (whole (pos 10))
  unfolding product_formed all_fit in_range times lowest gcd_of gcd_within
  margin_price = refl

  -- a row without the variable has the price 0
  without_entry : price_of (at_row half_most.name (whole (negsuc 2))) another_most capacity ≡ Some (whole (pos 0))
  unfolding product_formed all_fit in_range times lowest gcd_of gcd_within
  without_entry = refl

  -- the greatest number that fits, twice
  too_wide : price_of (at_row half_most.name (whole (pos (2 ^ 127 - 1)))) half_most capacity ≡ None
  unfolding product_formed all_fit in_range times lowest gcd_of gcd_within
  too_wide = refl

  -- ---- limits, in the data's unit

  half : limit_of half_most capacity ≡ Some (pair (pos 1) (pos 2))
  unfolding lowest gcd_of gcd_within
  half = refl

  ten : limit_of ten_least built ≡ Some (whole (pos 10))
  unfolding lowest gcd_of gcd_within
  ten = refl

  -- 0 is a limit
  nothing : limit_of none_most capacity ≡ Some (whole (pos 0))
  unfolding lowest gcd_of gcd_within
  nothing = refl

  -- a row without the variable has none, and a part of something else isn't one
  no_limit_without_entry : limit_of another_most capacity ≡ None
  no_limit_without_entry = refl

  no_limit_of_margin : limit_of margin in_margin ≡ None
  no_limit_of_margin = refl

  no_limit_of_renewables : limit_of renewables renewable ≡ None
  no_limit_of_renewables = refl

-- ---- one per cent more: of a half, at 6 saved for a unit, saves 3/100; of 10, at 6 for a unit, costs 6/10

saved : percent_of (Some (whole (negsuc 5))) (Some (pair (pos 1) (pos 2))) ≡ Some (pair (pos 3) (pos 100))
unfolding product_formed quotient_formed all_fit in_range times divided lowest gcd_of gcd_within
saved = refl

lost : percent_of (Some (whole (pos 6))) (Some (whole (pos 10))) ≡ Some (pair (negsuc 2) (pos 5))
unfolding product_formed quotient_formed all_fit in_range times divided lowest gcd_of gcd_within
lost = refl

-- of nothing there is none, nor at no price
of_no_limit : percent_of (Some (whole (pos 6))) None ≡ None
of_no_limit = refl

at_no_price : percent_of None (Some (whole (pos 6))) ≡ None
at_no_price = refl

-- where the price fits, and its product with the limit doesn't; and where that fits, and the hundredth of it doesn't
wide_product : percent_at (whole (pos (2 ^ 127 - 1))) (whole (pos 2)) ≡ None
unfolding product_formed quotient_formed all_fit in_range times divided lowest gcd_of gcd_within
wide_product = refl

wide_hundredth : percent_at (pair (pos 1) (pos (2 ^ 127 - 1))) (whole (pos 1)) ≡ None
unfolding product_formed quotient_formed all_fit in_range times divided lowest gcd_of gcd_within
wide_hundredth = refl
