-- The texts of tables, computed on rows that were worked out by hand, and on near misses.
use Rattle.std.proofs.Common.{◌≡◌, ◌-◌, ◌^◌, ℤ, pos, negsuc, List, [], ◌∷◌, Some, None, refl}
use Rattle.std.specs.Fmt.{digits}
use Rattle.std.specs.Global.{Vec}
use Rattle.std.specs.List.{range_with_len}
use Rattle.std.specs.Option.{option_map}
use Rattle.std.specs.Prelude.{codes, filter, is_some, map}
use Rattle.csv.specs.Writing.{escaped, fields_text, is_blank}
use Rattle.exact_num.specs.Formed.{product_formed, quotient_formed}
use Rattle.exact_num.specs.Gcd.{gcd_of, gcd_within}
use Rattle.exact_num.specs.Range.{all_fit, in_range}
use Rattle.exact_num.specs.Rational.{divided, lowest, pair, times, whole}
use Rattle.model_sets.specs.Members.{SetLists}
use Rattle.row_core.specs.declared.Row.{Row}
use Rattle.row_core.specs.declared.Var.{Var}
use Rattle.row_core.specs.declared.equation_numbers.TheConstants as equation
use Rattle.row_core.specs.Kinds.{word_of_kind}
use Rattle.scaled_decimals.specs.PrintedFraction.{fraction_text}
use Rattle.scaled_decimals.specs.PrintedPlaces.{millionths, millionths_text}
use Rattle.plan_tables.specs.declared.shown.NumberForm.TheVariants.{Decimals, Fractions}
use Rattle.price_tables.specs.declared.shown.PriceTable.TheVariants.{Fuels, Limits}
use Rattle.price_tables.specs.PricedRows.{fuel_kind, limited_kind, price_table_named}
use Rattle.price_tables.specs.PriceTables.{price_text}
use Rattle.price_tables.proofs.AmountExamples.{Multiplied, another_most, at_row, balance, half_most, margin, renewables, ten_least}

-- ---- names

limits_named : price_table_named (codes "limits") ≡ Some Limits
limits_named = refl

prices_named : price_table_named (codes "prices") ≡ Some Fuels
prices_named = refl

-- words are compared by their bytes, and values have tables of their own
no_other : price_table_named (codes "limit") ≡ None
no_other = refl

no_values : price_table_named (codes "all") ≡ None
no_values = refl

-- ---- kinds

-- the equations that are limits, of all from number 1 to 64, and the kinds of variables that they limit
limiting : filter (λ eq. is_some (limited_kind eq)) (range_with_len 1 64)
    ≡ equation.TCC1 ∷ equation.TCC2 ∷ equation.NCC1 ∷ equation.NCC2 ∷ equation.AAC2 ∷ equation.AAC3 ∷ equation.TAC2 ∷ equation.TAC3 ∷ equation.RM3 ∷ equation.RE4 ∷ equation.E8 ∷ equation.E9 ∷ []
limiting = refl

limited_kinds : map (λ eq. option_map word_of_kind (limited_kind eq)) (equation.TCC1 ∷ equation.TCC2 ∷ equation.NCC1 ∷ equation.NCC2 ∷ equation.AAC2 ∷ equation.AAC3 ∷ [])
    ≡ Some (codes "TotalCapacityAnnual") ∷ Some (codes "TotalCapacityAnnual") ∷ Some (codes "NewCapacity") ∷ Some (codes "NewCapacity")
    ∷ Some (codes "TotalTechnologyAnnualActivity") ∷ Some (codes "TotalTechnologyAnnualActivity") ∷ []
limited_kinds = refl

later_limited_kinds : map (λ eq. option_map word_of_kind (limited_kind eq)) (equation.TAC2 ∷ equation.TAC3 ∷ equation.RM3 ∷ equation.RE4 ∷ equation.E8 ∷ equation.E9 ∷ [])
    ≡ Some (codes "TotalTechnologyModelPeriodActivity") ∷ Some (codes "TotalTechnologyModelPeriodActivity") ∷ Some (codes "TotalCapacityInReserveMargin")
    ∷ Some (codes "TotalREProductionAnnual") ∷ Some (codes "AnnualEmissions") ∷ Some (codes "ModelPeriodEmissions") ∷ []
later_limited_kinds = refl

fuel_kinds : map (λ eq. option_map word_of_kind (fuel_kind eq)) (filter (λ eq. is_some (fuel_kind eq)) (range_with_len 1 64)) ≡ Some (codes "Production") ∷ Some (codes "ProductionAnnual") ∷ []
fuel_kinds = refl

-- ---- a model with a region, a technology with a comma, two fuels, two timeslices and three years

abbrev sets : SetLists
sets =
    (codes "R" ∷ []) ∷ (codes "T,2" ∷ []) ∷ (codes "F" ∷ codes "G" ∷ []) ∷ (codes "E" ∷ []) ∷ (codes "1" ∷ []) ∷ (codes "D" ∷ codes "N" ∷ [])
    ∷ (codes "2020" ∷ codes "2030" ∷ codes "2040" ∷ []) ∷ [] ∷ [] ∷ [] ∷ [] ∷ []

module _ (v : Vec (Var × ℤ)) where
  abbrev rows : List Row
  rows = balance v ∷ half_most v ∷ ten_least v ∷ margin v ∷ renewables v ∷ []

  abbrev multiplied : Multiplied
  multiplied =
      ((balance v).name, pair (pos 31) (pos 32)) ∷ ((half_most v).name, whole (negsuc 2)) ∷ ((ten_least v).name, pair (pos 1) (pos 3)) ∷ ((margin v).name, whole (negsuc 1))
      ∷ ((renewables v).name, pair (negsuc 0) (pos 2)) ∷ []

  -- a limit that is met from below saves, one that is met from above costs; two have no limit of their own; and the balance isn't a limit
  limits : price_text sets Decimals rows multiplied Limits
      ≡ codes "EQUATION,REGION,TIMESLICE,TECHNOLOGY,EMISSION,YEAR,LIMIT,PRICE,PERCENT\nTCC1,R,,\"T,2\",,2030,0.500000,-6.000000,0.030000\nNCC2,R,,\"T,2\",,2030,10.000000,0.333333,-0.033333\nRM3,R,N,,,2040,,10.000000,\nRE4,R,,,,2020,,2.000000,\n"
  unfolding escaped fields_text is_blank fraction_text millionths millionths_text digits product_formed quotient_formed all_fit in_range times divided lowest gcd_of gcd_within
  limits = refl

  as_fractions : price_text sets Fractions rows multiplied Limits
      ≡ codes "EQUATION,REGION,TIMESLICE,TECHNOLOGY,EMISSION,YEAR,LIMIT,PRICE,PERCENT\nTCC1,R,,\"T,2\",,2030,1/2,-6,3/100\nNCC2,R,,\"T,2\",,2030,10,1/3,-1/30\nRM3,R,N,,,2040,,10,\nRE4,R,,,,2020,,2,\n"
  unfolding escaped fields_text is_blank fraction_text millionths millionths_text digits product_formed quotient_formed all_fit in_range times divided lowest gcd_of gcd_within
  as_fractions = refl

  -- 31/32 of 8
  prices : price_text sets Decimals rows multiplied Fuels ≡ codes "EQUATION,REGION,TIMESLICE,FUEL,YEAR,PRICE\nEBa11,R,D,G,2020,7.750000\n"
  unfolding escaped fields_text is_blank fraction_text millionths millionths_text digits product_formed quotient_formed all_fit in_range times divided lowest gcd_of gcd_within
  prices = refl

  -- without a multiplier that isn't 0 there is a header alone
  none : price_text sets Decimals rows (at_row (half_most v).name (whole (pos 0))) Limits ≡ codes "EQUATION,REGION,TIMESLICE,TECHNOLOGY,EMISSION,YEAR,LIMIT,PRICE,PERCENT\n"
  unfolding escaped fields_text is_blank fraction_text millionths millionths_text digits product_formed quotient_formed all_fit in_range times divided lowest gcd_of gcd_within
  none = refl

  -- a row without its variable has the price 0 and no limit
  without_entry : price_text sets Decimals (another_most v ∷ []) multiplied Limits
      ≡ codes "EQUATION,REGION,TIMESLICE,TECHNOLOGY,EMISSION,YEAR,LIMIT,PRICE,PERCENT\nTCC1,R,,\"T,2\",,2030,,0.000000,\n"
  unfolding escaped fields_text is_blank fraction_text millionths millionths_text digits product_formed quotient_formed all_fit in_range times divided lowest gcd_of gcd_within
  without_entry = refl

  -- a price that doesn't fit is left out, and what one per cent saves at it
  too_wide : price_text sets Decimals rows (at_row (half_most v).name (whole (pos (2 ^ 127 - 1)))) Limits
      ≡ codes "EQUATION,REGION,TIMESLICE,TECHNOLOGY,EMISSION,YEAR,LIMIT,PRICE,PERCENT\nTCC1,R,,\"T,2\",,2030,0.500000,,\n"
  unfolding escaped fields_text is_blank fraction_text millionths millionths_text digits product_formed quotient_formed all_fit in_range times divided lowest gcd_of gcd_within
  too_wide = refl
