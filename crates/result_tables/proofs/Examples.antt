-- The definitions, computed on small models, and on near misses.
use Rattle.result_tables.proofs.Common.{◌≡◌, ℕ, ◌^◌, ◌-◌, ℤ, pos, negsuc, true, false, List, [], ◌∷◌, map, refl, ap, escaped, fields_text, is_blank, all_fit, in_range, Rational, lowest, pair, times, whole, SetLists, Row, RowName, Var, EBA11, amount_line, priced, production_of, infeasible_text, report_text, summary_text, unbounded_text, kind_table, nonzero, price_record, price_table, table_text, number_at}
use Rattle.std.specs.Prelude.{codes}
use Rattle.std.specs.Fmt.{digits}
use Rattle.exact_num.specs.Formed.{product_formed}
use Rattle.exact_num.specs.Gcd.{gcd_of, gcd_within}
use Rattle.row_core.specs.declared.Index.{Index}
use Rattle.row_core.specs.declared.kind_numbers.TheConstants.{DEMAND, NEW_CAPACITY, PRODUCTION, RATE_OF_ACTIVITY, TOTAL_DISCOUNTED_COST}
use Rattle.scaled_decimals.specs.PrintedFraction.{fraction_text}
use Rattle.scaled_decimals.specs.PrintedPlaces.{millionths, millionths_text}
use Rattle.result_tables.specs.declared.attempts.Begun.TheVariants.{FromNothing, FromValues, WithoutStart}
use Rattle.result_tables.specs.declared.attempts.FoundBy.TheVariants.{ByGuesses, ByMethod, OnGrid}

-- ---- a model with one member in each set, the technology's with a comma

abbrev sets : SetLists
sets = (codes "R" ∷ []) ∷ (codes "T,1" ∷ codes "U" ∷ []) ∷ (codes "F" ∷ []) ∷ [] ∷ (codes "1" ∷ []) ∷ (codes "D" ∷ []) ∷ (codes "2020" ∷ []) ∷ [] ∷ [] ∷ [] ∷ [] ∷ []

abbrev at : Index
at = record { region = 0; other = 0; slice = 0; tech = 0; fuel = 0; emission = 0; mode = 0; year = 0 }

abbrev at_second : Index
at_second = record { region = 0; other = 0; slice = 0; tech = 1; fuel = 0; emission = 0; mode = 0; year = 0 }

abbrev capacity : Var
capacity = record { kind = NEW_CAPACITY; index = at }

abbrev second : Var
second = record { kind = NEW_CAPACITY; index = at_second }

abbrev activity : Var
activity = record { kind = RATE_OF_ACTIVITY; index = at }

abbrev cost : Var
cost = record { kind = TOTAL_DISCOUNTED_COST; index = at }

abbrev vars : List Var
vars = capacity ∷ second ∷ cost ∷ []

abbrev balance : RowName
balance = record { eq = EBA11; index = at }

abbrev production : Var
production = record { kind = PRODUCTION; index = at }

abbrev demand : Var
demand = record { kind = DEMAND; index = at }

-- ---- lines

cost_line : amount_line (codes "cost") (whole (pos 80)) ≡ codes "cost 80 80.000000\n"
unfolding fraction_text millionths millionths_text digits
cost_line = refl

-- two thirds of a millionth below 0, rounded away from 0
negative_line : amount_line (codes "bound") (pair (negsuc 1) (pos 3000000)) ≡ codes "bound -2/3000000 -0.000001\n"
unfolding fraction_text millionths millionths_text digits
negative_line = refl

no_plan : infeasible_text 3 0 6 ByMethod ≡ codes "status infeasible\npivots 3\nrounded 0\nend\n"
unfolding digits
no_plan = refl

-- written factors of nine decimal places are told, those of six aren't
nine_places : infeasible_text 3 0 9 ByMethod ≡ codes "status infeasible\npivots 3\nrounded 0\nplaces 9\nend\n"
unfolding digits
nine_places = refl

-- a later attempt is told, the first isn't; its line stands after that of the decimal places
third_attempt : infeasible_text 3 0 9 (ByGuesses FromNothing) ≡ codes "status infeasible\npivots 3\nrounded 0\nplaces 9\nattempt 3\nend\n"
unfolding digits
third_attempt = refl

second_attempt : summary_text (whole (pos 80)) (whole (pos 79)) 3 1 6 OnGrid ≡ codes "status solved\ncost 80 80.000000\nbound 79 79.000000\npivots 3\nrounded 1\nattempt 2\n"
unfolding fraction_text millionths millionths_text digits
second_attempt = refl

-- what guesses began from is told after their number
from_values : infeasible_text 3 0 9 (ByGuesses (FromValues 217 4)) ≡ codes "status infeasible\npivots 3\nrounded 0\nplaces 9\nattempt 3\nstart 217 passed 4\nend\n"
unfolding digits
from_values = refl

without_start : infeasible_text 3 0 6 (ByGuesses WithoutStart) ≡ codes "status infeasible\npivots 3\nrounded 0\nattempt 3\nstart none\nend\n"
unfolding digits
without_start = refl

-- ---- tables

-- a value of 0 has no record, and a member with a comma stands in quotes
quoted : table_text (kind_table sets vars ((capacity, pair (pos 21) (pos 2)) ∷ (second, whole (pos 0)) ∷ (cost, whole (pos 80)) ∷ []) NEW_CAPACITY) ≡ codes "table NewCapacity\nR,\"T,1\",2020,21/2,10.500000\n"
unfolding escaped fields_text is_blank fraction_text millionths millionths_text digits
quoted = refl

-- a variable without a value has the value 0
none_given : table_text (kind_table sets vars ((second, pair (negsuc 0) (pos 3)) ∷ []) NEW_CAPACITY) ≡ codes "table NewCapacity\nR,U,2020,-1/3,-0.333333\n"
unfolding fields_text is_blank fraction_text millionths millionths_text digits
none_given = refl

-- ---- reports

-- the cost before the bound, all tables in their order, and a kind without a table, which isn't shown
whole_report : report_text sets (activity ∷ vars) ((activity, whole (pos 4)) ∷ (second, whole (pos 10)) ∷ (cost, whole (pos 80)) ∷ []) [] [] (whole (pos 80)) (whole (pos 79)) 3 1 6 ByMethod
    ≡ codes "status solved\ncost 80 80.000000\nbound 79 79.000000\npivots 3\nrounded 1\ntable NewCapacity\nR,U,2020,10,10.000000\ntable TotalCapacityAnnual\ntable TotalTechnologyAnnualActivity\ntable ProductionByTechnologyAnnual\ntable UseByTechnologyAnnual\ntable TradeAnnual\ntable AnnualEmissions\ntable DiscountedCapitalInvestment\ntable DiscountedOperatingCost\ntable DiscountedTechnologyEmissionsPenalty\ntable DiscountedSalvageValue\ntable TotalDiscountedCost\nR,2020,80,80.000000\ntable FuelPrice\nend\n"
unfolding escaped fields_text is_blank fraction_text millionths millionths_text digits
whole_report = refl

-- ---- directions

-- the cost isn't chosen
direction_shown : unbounded_text sets ((activity, whole (pos 1)) ∷ (capacity, whole (pos 0)) ∷ (second, whole (pos 2)) ∷ (cost, whole (negsuc 0)) ∷ []) 3 0 6
    ≡ codes "status unbounded\npivots 3\nrounded 0\ntable Direction\nRateOfActivity,R,D,\"T,1\",1,2020,1,1.000000\nNewCapacity,R,U,2020,2,2.000000\nend\n"
unfolding escaped fields_text is_blank fraction_text millionths millionths_text digits
direction_shown = refl

-- ---- prices

-- half of 8 times what the row has at its own Production, and not at its Demand
price : priced ((balance, pair (pos 1) (pos 2)) ∷ []) balance (number_at ((production, pos 8) ∷ (demand, negsuc 0) ∷ []) (production_of balance)) ≡ whole (pos 4)
unfolding times lowest gcd_of gcd_within
price = refl

-- a row without a multiplier has the price 0
unpriced : priced [] balance (pos 8) ≡ whole (pos 0)
unfolding times lowest gcd_of gcd_within
unpriced = refl

-- the record of a price with its value: the region, the timeslice, the fuel and the year of its row, 31/32 times 8 as a fraction, and rounded
abbrev with_price : List (RowName × Rational) → List (Var × ℤ) → List ℕ
with_price multipliers es =
    table_text (record { name = codes "FuelPrice"; records = map (price_record sets) (nonzero ((balance, priced multipliers balance (number_at es production)) ∷ [])) })

price_shown : (row : Row) → row.entries.items ≡ (production, pos 8) ∷ (demand, negsuc 0) ∷ []
    → table_text (price_table sets (record row { name = balance } ∷ []) ((balance, pair (pos 31) (pos 32)) ∷ [])) ≡ codes "table FuelPrice\nR,D,F,2020,31/4,7.750000\n"
unfolding times lowest gcd_of gcd_within fields_text is_blank fraction_text millionths millionths_text digits
price_shown row entries = ap (with_price ((balance, pair (pos 31) (pos 32)) ∷ [])) entries

-- a price of 0 has none
no_price_shown : (row : Row) → row.entries.items ≡ (production, pos 8) ∷ (demand, negsuc 0) ∷ [] → table_text (price_table sets (record row { name = balance } ∷ []) []) ≡ codes "table FuelPrice\n"
unfolding times lowest gcd_of gcd_within fields_text is_blank fraction_text millionths millionths_text digits
no_price_shown row entries = ap (with_price []) entries

-- the greatest number that fits, once and twice
fitting : all_fit (product_formed (whole (pos (2 ^ 127 - 1))) (whole (pos 1))) ≡ true
unfolding product_formed all_fit in_range gcd_of gcd_within
fitting = refl

wide : all_fit (product_formed (whole (pos (2 ^ 127 - 1))) (whole (pos 2))) ≡ false
unfolding product_formed all_fit in_range gcd_of gcd_within
wide = refl
