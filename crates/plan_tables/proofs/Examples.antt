-- The definitions, computed on small examples, and on near misses.
use Rattle.plan_tables.proofs.Common.{◌≡◌, ℕ, pos, negsuc, List, [], ◌∷◌, None, Some, false, refl, codes, flat_map, escaped, fields_text, is_blank, Rational, pair, whole, SetLists, Index, Var, columns, header_of, all_kinds, table_named, kind_text, table_text}
use Rattle.std.specs.Str.{bytes_eq}
use Rattle.std.specs.Fmt.{digits}
use Rattle.row_core.specs.declared.kind_numbers.TheConstants as k
use Rattle.scaled_decimals.specs.PrintedFraction.{fraction_text}
use Rattle.scaled_decimals.specs.PrintedPlaces.{millionths, millionths_text}
use Rattle.plan_tables.specs.declared.shown.NumberForm.TheVariants.{Decimals, Fractions}
use Rattle.plan_tables.specs.declared.shown.Table.TheVariants.{AllValues, Values}

-- ---- a model with two regions, two technologies, the second with a comma, two fuels, two modes, and three years

abbrev sets : SetLists
sets =
    (codes "R" ∷ codes "Q" ∷ []) ∷ (codes "T" ∷ codes "T,2" ∷ []) ∷ (codes "F" ∷ codes "G" ∷ []) ∷ (codes "E" ∷ []) ∷ (codes "1" ∷ codes "2" ∷ []) ∷ (codes "D" ∷ codes "N" ∷ [])
    ∷ (codes "2020" ∷ codes "2030" ∷ codes "2040" ∷ []) ∷ [] ∷ [] ∷ [] ∷ [] ∷ []

abbrev at : ℕ → ℕ → ℕ → ℕ → ℕ → Index
at slice tech fuel mode year = record { region = 0; other = 1; slice = slice; tech = tech; fuel = fuel; emission = 0; mode = mode; year = year }

abbrev built : ℕ → ℕ → Var
built tech year = record { kind = k.NEW_CAPACITY; index = at 0 tech 0 0 year }

-- ---- columns

of_capacity : header_of (columns k.NEW_CAPACITY) ≡ codes "REGION" ∷ codes "TECHNOLOGY" ∷ codes "YEAR" ∷ codes "VALUE" ∷ []
of_capacity = refl

of_trade : header_of (columns k.TRADE) ≡ codes "REGION" ∷ codes "_REGION" ∷ codes "TIMESLICE" ∷ codes "FUEL" ∷ codes "YEAR" ∷ codes "VALUE" ∷ []
of_trade = refl

of_emission : header_of (columns k.ANNUAL_TECHNOLOGY_EMISSION_BY_MODE) ≡ codes "REGION" ∷ codes "TECHNOLOGY" ∷ codes "EMISSION" ∷ codes "MODE_OF_OPERATION" ∷ codes "YEAR" ∷ codes "VALUE" ∷ []
of_emission = refl

of_cost_of_region : header_of (columns k.MODEL_PERIOD_COST_BY_REGION) ≡ codes "REGION" ∷ codes "VALUE" ∷ []
of_cost_of_region = refl

-- of three kinds the long code's order isn't that of `Index`: the mode before the fuel, the technology before the timeslice
of_production_by_mode : header_of (columns k.RATE_OF_PRODUCTION_BY_TECHNOLOGY_BY_MODE)
    ≡ codes "REGION" ∷ codes "TIMESLICE" ∷ codes "TECHNOLOGY" ∷ codes "MODE_OF_OPERATION" ∷ codes "FUEL" ∷ codes "YEAR" ∷ codes "VALUE" ∷ []
of_production_by_mode = refl

of_use_by_mode : columns k.RATE_OF_USE_BY_TECHNOLOGY_BY_MODE ≡ 0 ∷ 2 ∷ 3 ∷ 6 ∷ 4 ∷ 7 ∷ []
of_use_by_mode = refl

of_total_activity : header_of (columns k.RATE_OF_TOTAL_ACTIVITY) ≡ codes "REGION" ∷ codes "TECHNOLOGY" ∷ codes "TIMESLICE" ∷ codes "YEAR" ∷ codes "VALUE" ∷ []
of_total_activity = refl

-- and the production of a technology, over all modes, has the usual one
of_production : columns k.RATE_OF_PRODUCTION_BY_TECHNOLOGY ≡ 0 ∷ 2 ∷ 3 ∷ 4 ∷ 7 ∷ []
of_production = refl

-- ---- names

named_capacity : table_named (codes "NewCapacity") ≡ Some (Values k.NEW_CAPACITY)
named_capacity = refl

named_last : table_named (codes "ModelPeriodEmissions") ≡ Some (Values k.MODEL_PERIOD_EMISSIONS)
named_last = refl

named_all : table_named (codes "all") ≡ Some AllValues
named_all = refl

-- otoole's words for two of them, and the words here
named_cost : table_named (codes "DiscountedCostByTechnology") ≡ Some (Values k.TOTAL_DISCOUNTED_COST_BY_TECHNOLOGY)
named_cost = refl

named_operation : table_named (codes "DiscountedOperationalCost") ≡ Some (Values k.DISCOUNTED_OPERATING_COST)
named_operation = refl

named_operating : table_named (codes "DiscountedOperatingCost") ≡ Some (Values k.DISCOUNTED_OPERATING_COST)
named_operating = refl

-- words are compared by their bytes, and storage isn't part of the model
small_letters : table_named (codes "newcapacity") ≡ None
small_letters = refl

of_storage : table_named (codes "NewStorageCapacity") ≡ None
of_storage = refl

no_word : table_named [] ≡ None
no_word = refl

-- ---- records

-- each value that isn't 0, the last year's too, in order; a member with a comma stands in quotes
abbrev plan : List (Var × Rational)
plan =
    (built 0 0, pair (pos 21) (pos 2)) ∷ (built 0 1, whole (pos 0)) ∷ (built 1 1, pair (negsuc 1) (pos 3)) ∷ (built 1 2, whole (pos 4))
    ∷ (record { kind = k.TRADE; index = at 1 0 1 0 2 }, whole (negsuc 4)) ∷ []

capacities : table_text sets Decimals plan (Values k.NEW_CAPACITY) ≡ codes "REGION,TECHNOLOGY,YEAR,VALUE\nR,T,2020,10.500000\nR,\"T,2\",2030,-0.666667\nR,\"T,2\",2040,4.000000\n"
unfolding escaped fields_text is_blank fraction_text millionths millionths_text digits
capacities = refl

as_fractions : table_text sets Fractions plan (Values k.NEW_CAPACITY) ≡ codes "REGION,TECHNOLOGY,YEAR,VALUE\nR,T,2020,21/2\nR,\"T,2\",2030,-2/3\nR,\"T,2\",2040,4\n"
unfolding escaped fields_text is_blank fraction_text millionths millionths_text digits
as_fractions = refl

trades : table_text sets Decimals plan (Values k.TRADE) ≡ codes "REGION,_REGION,TIMESLICE,FUEL,YEAR,VALUE\nR,Q,N,G,2040,-5.000000\n"
unfolding escaped fields_text is_blank fraction_text millionths millionths_text digits
trades = refl

-- the members stand in the order of the columns
by_mode : table_text sets Decimals ((record { kind = k.RATE_OF_USE_BY_TECHNOLOGY_BY_MODE; index = at 1 0 1 1 2 }, whole (pos 7)) ∷ []) (Values k.RATE_OF_USE_BY_TECHNOLOGY_BY_MODE)
    ≡ codes "REGION,TIMESLICE,TECHNOLOGY,MODE_OF_OPERATION,FUEL,YEAR,VALUE\nR,N,T,2,G,2040,7.000000\n"
unfolding escaped fields_text is_blank fraction_text millionths millionths_text digits
by_mode = refl

abbrev total : ℕ → ℕ → Var
total slice tech = record { kind = k.RATE_OF_TOTAL_ACTIVITY; index = at slice tech 0 0 0 }

-- in the order of the plan, which is that of the long code too: the second timeslice of a technology before the next technology
total_activities : table_text sets Decimals ((total 0 0, whole (pos 3)) ∷ (total 1 0, whole (pos 4)) ∷ (total 0 1, whole (pos 5)) ∷ (total 1 1, whole (pos 6)) ∷ []) (Values k.RATE_OF_TOTAL_ACTIVITY)
    ≡ codes "REGION,TECHNOLOGY,TIMESLICE,YEAR,VALUE\nR,T,D,2020,3.000000\nR,T,N,2020,4.000000\nR,\"T,2\",D,2020,5.000000\nR,\"T,2\",N,2020,6.000000\n"
unfolding escaped fields_text is_blank fraction_text millionths millionths_text digits
total_activities = refl

-- one subscript
cost_of_region : table_text sets Decimals ((record { kind = k.MODEL_PERIOD_COST_BY_REGION; index = at 0 0 0 0 0 }, pair (pos 5) (pos 2)) ∷ []) (Values k.MODEL_PERIOD_COST_BY_REGION) ≡ codes "REGION,VALUE\nR,2.500000\n"
unfolding escaped fields_text is_blank fraction_text millionths millionths_text digits
cost_of_region = refl

-- a value that rounds to 0 isn't 0
least : table_text sets Decimals ((built 0 0, pair (pos 1) (pos 3000000)) ∷ []) (Values k.NEW_CAPACITY) ≡ codes "REGION,TECHNOLOGY,YEAR,VALUE\nR,T,2020,0.000000\n"
unfolding escaped fields_text is_blank fraction_text millionths millionths_text digits
least = refl

-- and one below 0 that rounds to 0 has no sign
least_below : table_text sets Decimals ((built 0 0, pair (negsuc 0) (pos 3000000)) ∷ []) (Values k.NEW_CAPACITY) ≡ codes "REGION,TECHNOLOGY,YEAR,VALUE\nR,T,2020,0.000000\n"
unfolding escaped fields_text is_blank fraction_text millionths millionths_text digits
least_below = refl

first_below : table_text sets Decimals ((built 0 0, pair (negsuc 0) (pos 2000000)) ∷ []) (Values k.NEW_CAPACITY) ≡ codes "REGION,TECHNOLOGY,YEAR,VALUE\nR,T,2020,-0.000001\n"
unfolding escaped fields_text is_blank fraction_text millionths millionths_text digits
first_below = refl

-- a plan without such a value has a header alone
none : table_text sets Decimals ((built 0 0, whole (pos 0)) ∷ []) (Values k.NEW_CAPACITY) ≡ codes "REGION,TECHNOLOGY,YEAR,VALUE\n"
unfolding escaped fields_text is_blank fraction_text millionths millionths_text digits
none = refl

-- ---- all tables

-- a value each of five kinds; the two costs that otoole names otherwise among them
abbrev few : List (Var × Rational)
few =
    (built 0 0, whole (pos 9)) ∷ (record { kind = k.TRADE; index = at 0 0 1 0 0 }, whole (negsuc 0)) ∷ (record { kind = k.DISCOUNTED_OPERATING_COST; index = at 0 0 0 0 0 }, whole (pos 2))
    ∷ (record { kind = k.TOTAL_DISCOUNTED_COST_BY_TECHNOLOGY; index = at 0 1 0 0 0 }, whole (pos 8)) ∷ (record { kind = k.MODEL_PERIOD_EMISSIONS; index = at 0 0 0 0 0 }, whole (pos 7)) ∷ []

-- the kinds in the order of their numbers, each by its own word in a line, its header, and its records
abbrev all_lines : List (List ℕ)
all_lines =
    codes "RateOfActivity\nREGION,TIMESLICE,TECHNOLOGY,MODE_OF_OPERATION,YEAR,VALUE\n"
    ∷ codes "NewCapacity\nREGION,TECHNOLOGY,YEAR,VALUE\nR,T,2020,9.000000\n"
    ∷ codes "Trade\nREGION,_REGION,TIMESLICE,FUEL,YEAR,VALUE\nR,Q,D,G,2020,-1.000000\n"
    ∷ codes "RateOfDemand\nREGION,TIMESLICE,FUEL,YEAR,VALUE\n"
    ∷ codes "AccumulatedNewCapacity\nREGION,TECHNOLOGY,YEAR,VALUE\n"
    ∷ codes "TotalCapacityAnnual\nREGION,TECHNOLOGY,YEAR,VALUE\n"
    ∷ codes "RateOfTotalActivity\nREGION,TECHNOLOGY,TIMESLICE,YEAR,VALUE\n"
    ∷ codes "RateOfProductionByTechnologyByMode\nREGION,TIMESLICE,TECHNOLOGY,MODE_OF_OPERATION,FUEL,YEAR,VALUE\n"
    ∷ codes "RateOfProductionByTechnology\nREGION,TIMESLICE,TECHNOLOGY,FUEL,YEAR,VALUE\n"
    ∷ codes "RateOfProduction\nREGION,TIMESLICE,FUEL,YEAR,VALUE\n"
    ∷ codes "RateOfUseByTechnologyByMode\nREGION,TIMESLICE,TECHNOLOGY,MODE_OF_OPERATION,FUEL,YEAR,VALUE\n"
    ∷ codes "RateOfUseByTechnology\nREGION,TIMESLICE,TECHNOLOGY,FUEL,YEAR,VALUE\n"
    ∷ codes "RateOfUse\nREGION,TIMESLICE,FUEL,YEAR,VALUE\n"
    ∷ codes "Production\nREGION,TIMESLICE,FUEL,YEAR,VALUE\n"
    ∷ codes "Use\nREGION,TIMESLICE,FUEL,YEAR,VALUE\n"
    ∷ codes "Demand\nREGION,TIMESLICE,FUEL,YEAR,VALUE\n"
    ∷ codes "ProductionAnnual\nREGION,FUEL,YEAR,VALUE\n"
    ∷ codes "UseAnnual\nREGION,FUEL,YEAR,VALUE\n"
    ∷ codes "TradeAnnual\nREGION,_REGION,FUEL,YEAR,VALUE\n"
    ∷ codes "ProductionByTechnology\nREGION,TIMESLICE,TECHNOLOGY,FUEL,YEAR,VALUE\n"
    ∷ codes "UseByTechnology\nREGION,TIMESLICE,TECHNOLOGY,FUEL,YEAR,VALUE\n"
    ∷ codes "TotalAnnualTechnologyActivityByMode\nREGION,TECHNOLOGY,MODE_OF_OPERATION,YEAR,VALUE\n"
    ∷ codes "CapitalInvestment\nREGION,TECHNOLOGY,YEAR,VALUE\n"
    ∷ codes "DiscountedCapitalInvestment\nREGION,TECHNOLOGY,YEAR,VALUE\n"
    ∷ codes "SalvageValue\nREGION,TECHNOLOGY,YEAR,VALUE\n"
    ∷ codes "DiscountedSalvageValue\nREGION,TECHNOLOGY,YEAR,VALUE\n"
    ∷ codes "AnnualVariableOperatingCost\nREGION,TECHNOLOGY,YEAR,VALUE\n"
    ∷ codes "AnnualFixedOperatingCost\nREGION,TECHNOLOGY,YEAR,VALUE\n"
    ∷ codes "OperatingCost\nREGION,TECHNOLOGY,YEAR,VALUE\n"
    ∷ codes "DiscountedOperatingCost\nREGION,TECHNOLOGY,YEAR,VALUE\nR,T,2020,2.000000\n"
    ∷ codes "AnnualTechnologyEmissionByMode\nREGION,TECHNOLOGY,EMISSION,MODE_OF_OPERATION,YEAR,VALUE\n"
    ∷ codes "AnnualTechnologyEmission\nREGION,TECHNOLOGY,EMISSION,YEAR,VALUE\n"
    ∷ codes "AnnualTechnologyEmissionPenaltyByEmission\nREGION,TECHNOLOGY,EMISSION,YEAR,VALUE\n"
    ∷ codes "AnnualTechnologyEmissionsPenalty\nREGION,TECHNOLOGY,YEAR,VALUE\n"
    ∷ codes "DiscountedTechnologyEmissionsPenalty\nREGION,TECHNOLOGY,YEAR,VALUE\n"
    ∷ codes "TotalDiscountedCostByTechnology\nREGION,TECHNOLOGY,YEAR,VALUE\nR,\"T,2\",2020,8.000000\n"
    ∷ codes "TotalDiscountedCost\nREGION,YEAR,VALUE\n"
    ∷ codes "ModelPeriodCostByRegion\nREGION,VALUE\n"
    ∷ codes "TotalTechnologyAnnualActivity\nREGION,TECHNOLOGY,YEAR,VALUE\n"
    ∷ codes "TotalTechnologyModelPeriodActivity\nREGION,TECHNOLOGY,VALUE\n"
    ∷ codes "TotalCapacityInReserveMargin\nREGION,YEAR,VALUE\n"
    ∷ codes "DemandNeedingReserveMargin\nREGION,TIMESLICE,YEAR,VALUE\n"
    ∷ codes "ProductionByTechnologyAnnual\nREGION,TECHNOLOGY,FUEL,YEAR,VALUE\n"
    ∷ codes "TotalREProductionAnnual\nREGION,YEAR,VALUE\n"
    ∷ codes "RETotalProductionOfTargetFuelAnnual\nREGION,YEAR,VALUE\n"
    ∷ codes "UseByTechnologyAnnual\nREGION,TECHNOLOGY,FUEL,YEAR,VALUE\n"
    ∷ codes "AnnualEmissions\nREGION,EMISSION,YEAR,VALUE\n"
    ∷ codes "ModelPeriodEmissions\nREGION,EMISSION,VALUE\nR,E,7.000000\n" ∷ []

whole_text : table_text sets Decimals few AllValues ≡ flat_map (λ line. line) all_lines
unfolding escaped fields_text is_blank fraction_text millionths millionths_text digits
whole_text = refl

-- the words belong to it
without_words : bytes_eq (table_text sets Decimals few AllValues) (flat_map (kind_text sets Decimals few) all_kinds) ≡ false
unfolding escaped fields_text is_blank fraction_text millionths millionths_text digits
without_words = refl
