-- The tables of data, computed on a small model, and on near misses.
use Rattle.std.proofs.Common.{◌≡◌, pos, negsuc, [], ◌∷◌, None, Some, false, true, refl, map}
use Rattle.std.specs.Fmt.{digits}
use Rattle.std.specs.Prelude.{codes}
use Rattle.csv.specs.Writing.{escaped, fields_text, is_blank}
use Rattle.discount_factors.specs.Factors.{discounted, half_year_root, operating_factor, root_from}
use Rattle.exact_num.specs.Gcd.{gcd_of, gcd_within}
use Rattle.exact_num.specs.Rational.{Rational, lowest}
use Rattle.model_sets.specs.declared.param_numbers.TheConstants as param
use Rattle.model_sets.specs.Data.{Data}
use Rattle.scaled_decimals.specs.PrintedFraction.{fraction_text}
use Rattle.scaled_decimals.specs.PrintedPlaces.{millionths, millionths_text}
use Rattle.plan_tables.specs.declared.shown.NumberForm.TheVariants.{Decimals, Fractions}
use Rattle.data_tables.specs.declared.names.DataTable.TheVariants.{Param, Sets, Worth}
use Rattle.data_tables.specs.DataNames.{data_table_named}
use Rattle.data_tables.specs.DataTexts.{data_text}
use Rattle.data_tables.specs.ParamTables.{param_header, says}
use Rattle.data_tables.specs.WorthTables.{factor_text}

-- ---- names

named_sets : data_table_named false (codes "sets") ≡ Some Sets
named_sets = refl

named_worth : data_table_named false (codes "worth") ≡ Some Worth
named_worth = refl

named_first : data_table_named false (codes "YearSplit") ≡ Some (Param param.YEAR_SPLIT)
named_first = refl

-- words are compared by their bytes
capitals : data_table_named false (codes "Sets") ≡ None
capitals = refl

-- what is read and not used has no table, and DiscountRateIdv has one where the text has a statement for it
unused : data_table_named true (codes "Conversionls") ≡ None
unused = refl

own_rates : data_table_named true (codes "DiscountRateIdv") ≡ Some (Param param.DISCOUNT_RATE_IDV)
own_rates = refl

no_own_rates : data_table_named false (codes "DiscountRateIdv") ≡ None
no_own_rates = refl

-- ---- columns

of_routes : param_header param.TRADE_ROUTE ≡ codes "REGION" ∷ codes "_REGION" ∷ codes "FUEL" ∷ codes "YEAR" ∷ codes "VALUE" ∷ []
of_routes = refl

of_splits : param_header param.YEAR_SPLIT ≡ codes "TIMESLICE" ∷ codes "YEAR" ∷ codes "VALUE" ∷ []
of_splits = refl

of_emissions : param_header param.EMISSION_ACTIVITY_RATIO ≡ codes "REGION" ∷ codes "TECHNOLOGY" ∷ codes "EMISSION" ∷ codes "MODE_OF_OPERATION" ∷ codes "YEAR" ∷ codes "VALUE" ∷ []
of_emissions = refl

-- ---- values that say something

abbrev zero : Rational
zero = record { top = pos 0; bottom = pos 1 }

abbrev minus_one : Rational
minus_one = record { top = negsuc 0; bottom = pos 1 }

abbrev minus_half : Rational
minus_half = record { top = negsuc 0; bottom = pos 2 }

abbrev half : Rational
half = record { top = pos 1; bottom = pos 2 }

-- of a cost 0 says nothing, and any other number does
of_cost : map (says param.VARIABLE_COST) (zero ∷ minus_one ∷ minus_half ∷ half ∷ []) ≡ false ∷ true ∷ true ∷ true ∷ []
of_cost = refl

-- of a greatest capacity -1 says that there is none, and 0 is one; so it is of the other four
of_capacity : map (says param.TOTAL_ANNUAL_MAX_CAPACITY) (zero ∷ minus_one ∷ half ∷ []) ≡ true ∷ false ∷ true ∷ []
of_capacity = refl

of_investment : map (says param.TOTAL_ANNUAL_MAX_CAPACITY_INVESTMENT) (zero ∷ minus_one ∷ []) ≡ true ∷ false ∷ []
of_investment = refl

of_activity : map (says param.TOTAL_TECHNOLOGY_ANNUAL_ACTIVITY_UPPER_LIMIT) (zero ∷ minus_one ∷ []) ≡ true ∷ false ∷ []
of_activity = refl

-- an emission limit may be below 0, and any number but -1 is one
of_year : map (says param.ANNUAL_EMISSION_LIMIT) (zero ∷ minus_one ∷ minus_half ∷ []) ≡ true ∷ false ∷ true ∷ []
of_year = refl

of_period : map (says param.MODEL_PERIOD_EMISSION_LIMIT) (zero ∷ minus_one ∷ minus_half ∷ []) ≡ true ∷ false ∷ true ∷ []
of_period = refl

-- of a period's greatest activity only a number above 0 is one
of_period_activity : map (says param.TOTAL_TECHNOLOGY_MODEL_PERIOD_ACTIVITY_UPPER_LIMIT) (zero ∷ minus_one ∷ half ∷ []) ≡ false ∷ false ∷ true ∷ []
of_period_activity = refl

-- a least capacity is none at 0
of_least : map (says param.TOTAL_ANNUAL_MIN_CAPACITY) (zero ∷ half ∷ []) ≡ false ∷ true ∷ []
of_least = refl

-- ---- a model of two regions, the second with a comma in its name, and of two years with a gap between them

abbrev d : Data
d = record {
  sets =
      (codes "R" ∷ codes "S,1" ∷ []) ∷ (codes "T" ∷ codes "U" ∷ []) ∷ (codes "F" ∷ []) ∷ (codes "E" ∷ []) ∷ (codes "1" ∷ []) ∷ (codes "L" ∷ []) ∷ (codes "2020" ∷ codes "2022" ∷ [])
      ∷ [] ∷ [] ∷ [] ∷ [] ∷ [];
  given =
      record { param = param.CAPITAL_COST; index = codes "R" ∷ codes "U" ∷ codes "2020" ∷ []; value = pos 2500000000 }
      ∷ record { param = param.CAPITAL_COST; index = codes "S,1" ∷ codes "T" ∷ codes "2022" ∷ []; value = pos 333333333 }
      ∷ record { param = param.TOTAL_ANNUAL_MAX_CAPACITY; index = codes "S,1" ∷ codes "T" ∷ codes "2020" ∷ []; value = pos 0 }
      ∷ record { param = param.TOTAL_ANNUAL_MAX_CAPACITY; index = codes "R" ∷ codes "T" ∷ codes "2022" ∷ []; value = negsuc 999999999 } ∷ [];
  defaults =
      record { param = param.CAPITAL_COST; value = pos 0 } ∷ record { param = param.TOTAL_ANNUAL_MAX_CAPACITY; value = negsuc 999999999 } ∷ record { param = param.DISCOUNT_RATE; value = pos 50000000 } ∷ [];
  second = false;
}

members : data_text Decimals 6 d Sets
    ≡ codes "SET,MEMBER\nREGION,R\nREGION,\"S,1\"\nTECHNOLOGY,T\nTECHNOLOGY,U\nFUEL,F\nEMISSION,E\nMODE_OF_OPERATION,1\nTIMESLICE,L\nYEAR,2020\nYEAR,2022\n"
unfolding escaped fields_text is_blank
members = refl

-- the indices in the order of the members, the last subscript running fastest, where the value isn't 0
costs : data_text Decimals 6 d (Param param.CAPITAL_COST) ≡ codes "REGION,TECHNOLOGY,YEAR,VALUE\nR,U,2020,2.500000\n\"S,1\",T,2022,0.333333\n"
unfolding escaped fields_text is_blank millionths millionths_text digits gcd_of gcd_within lowest
costs = refl

exact_costs : data_text Fractions 6 d (Param param.CAPITAL_COST) ≡ codes "REGION,TECHNOLOGY,YEAR,VALUE\nR,U,2020,5/2\n\"S,1\",T,2022,333333333/1000000000\n"
unfolding escaped fields_text is_blank fraction_text digits gcd_of gcd_within lowest
exact_costs = refl

-- the one greatest capacity that is none, given or by default, has no record, and one of 0 has
limits : data_text Decimals 6 d (Param param.TOTAL_ANNUAL_MAX_CAPACITY) ≡ codes "REGION,TECHNOLOGY,YEAR,VALUE\n\"S,1\",T,2020,0.000000\n"
unfolding escaped fields_text is_blank millionths millionths_text digits gcd_of gcd_within lowest
limits = refl

-- ---- what money is worth: at 5 per cent the square root of 1 / 1.05 in the first year, and that over 1.05 twice two years later

worths : data_text Decimals 6 d Worth ≡ codes "REGION,YEAR,VALUE\nR,2020,0.975900\nR,2022,0.885170\n\"S,1\",2020,0.975900\n\"S,1\",2022,0.885170\n"
unfolding escaped fields_text is_blank digits discounted half_year_root operating_factor root_from
worths = refl

-- with nine places all of them
nine : data_text Decimals 9 d Worth ≡ codes "REGION,YEAR,VALUE\nR,2020,0.975900072\nR,2022,0.885170134\n\"S,1\",2020,0.975900072\n\"S,1\",2022,0.885170134\n"
unfolding escaped fields_text is_blank digits discounted half_year_root operating_factor root_from
nine = refl

-- zeros after the point are digits
small : factor_text Decimals 6 1002 ≡ codes "0.001002"
unfolding digits
small = refl

one : factor_text Decimals 9 1000000000 ≡ codes "1.000000000"
unfolding digits
one = refl

half_of_one : factor_text Fractions 6 500000 ≡ codes "1/2"
unfolding digits fraction_text gcd_of gcd_within lowest
half_of_one = refl
