-- The lines of findings, computed over the sets of the small model.
use Rattle.data_warnings.proofs.Common.{◌≡◌, ◌++◌, [], refl, pos, negsuc, digits, decimal_text, part_digits, above_line, asked_start, asked_text, bare_number, beside_text, both_ways_line, both_ways_text, crossed_line, default_line, default_text, first_names, for_first, last_line, line, lines_text, loose_line, members_line, members_text, more_members, more_years, names_text, nearest_text, number_text, of_names, outlier_line, plain_line, subject_line, subject_text, unmade_line, unmade_text, years_text, whole}
use Rattle.std.specs.Prelude.{codes}
use Rattle.data_warnings.proofs.Examples.{small_sets, told, two_regions}
use Rattle.data_warnings.specs.declared.rules.Ceiling.TheVariants as ceiling
use Rattle.data_warnings.specs.declared.rules.Cost.TheVariants as cost
use Rattle.data_warnings.specs.declared.rules.EmissionLimit.TheVariants as emission_limit
use Rattle.data_warnings.specs.declared.rules.Enabler.TheVariants as enabler
use Rattle.data_warnings.specs.declared.rules.Limit.TheVariants as limit
use Rattle.data_warnings.specs.declared.rules.Pair.TheVariants as pair
use Rattle.data_warnings.specs.declared.rules.Rule.TheVariants as rule
use Rattle.data_warnings.specs.declared.rules.Series.TheVariants as series

decimals : decimal_text (pos 1999999999) ++ codes " " ++ decimal_text (negsuc 499999999) ++ codes " " ++ decimal_text (pos 0) ++ codes " " ++ decimal_text (whole 12800) ++ codes " " ++ decimal_text (pos 10) ≡ codes "1.999999999 -0.5 0 12800 0.00000001"
unfolding decimal_text part_digits digits
decimals = refl

crossed_told : line small_sets (told (rule.Crossed pair.Residual) 0 0 0 1 0 (whole 2) (pos 1999999999)) ≡ codes "warning ResidualCapacity of R,T is 2 and TotalAnnualMaxCapacity 1.999999999 in 2021: no plan\n"
unfolding small_sets told line crossed_line number_text subject_text of_names names_text beside_text years_text more_years decimal_text part_digits digits
crossed_told = refl

unmade_told : line small_sets (told rule.UnmadeDemand 0 1 0 0 2 (pos 0) (pos 0)) ≡ codes "warning G is asked for in R and nothing makes it in 2020 and 2 more years: no plan\n"
unfolding small_sets told line unmade_line unmade_text asked_text asked_start names_text years_text more_years decimal_text part_digits digits
unmade_told = refl

one_more_year : line small_sets (told rule.LargeFactor 0 1 0 1 1 (pos 0) (pos 0)) ≡ codes "warning CapacityFactor of R,U is above 1 in 2021 and 1 more year\n"
unfolding small_sets told line above_line subject_text of_names names_text years_text more_years decimal_text part_digits digits
one_more_year = refl

short_life_told : line small_sets (told rule.ShortLives 0 0 0 1 0 (whole 1) (pos 0)) ≡ codes "warning OperationalLife is 1 by default for R,U: each is bought anew each year\n"
unfolding small_sets told line default_line default_text bare_number for_first first_names more_members decimal_text part_digits digits
short_life_told = refl

zero_limit_told : line small_sets (told (rule.ZeroLimits limit.Investment) 0 0 0 0 3 (pos 0) (pos 0)) ≡ codes "warning TotalAnnualMaxCapacityInvestment is 0 by default for R,T and 3 more: 0 is a limit, -1 is none\n"
unfolding small_sets told line default_line default_text bare_number for_first first_names more_members decimal_text part_digits digits
zero_limit_told = refl

zero_emissions_told : line small_sets (told (rule.ZeroEmissions emission_limit.Annual) 0 0 0 0 0 (pos 0) (pos 0)) ≡ codes "warning AnnualEmissionLimit is 0 by default for R,E: 0 is a limit, -1 is none\n"
unfolding small_sets told line default_line default_text bare_number for_first first_names more_members decimal_text part_digits digits
zero_emissions_told = refl

equal_route_told : line two_regions (told rule.EqualRoute 0 1 0 1 0 (pos 900000000) (pos 0)) ≡ codes "warning TradeRoute of R,S,F is 0.9 in 2021: equal both ways, it loses nothing; use a technology\n"
unfolding two_regions small_sets told line plain_line number_text subject_text of_names names_text years_text more_years decimal_text part_digits digits
equal_route_told = refl

unequal_route_told : line two_regions (told rule.UnequalRoute 0 1 0 1 1 (pos 900000000) (pos 800000000)) ≡ codes "warning TradeRoute of R,S,F is 0.9 and back 0.8 in 2021 and 1 more year: one way makes energy, the other destroys it; use a technology\n"
unfolding two_regions small_sets told line both_ways_line both_ways_text number_text subject_text of_names names_text years_text more_years decimal_text part_digits digits
unequal_route_told = refl

coarse_told : line small_sets (told rule.CoarseRates 0 0 0 1 3 (pos 0) (pos 0)) ≡ codes "warning DiscountRateIdv for R,U and 3 more: investments are more than a millionth off; use --places 9\n"
unfolding small_sets told line members_line members_text for_first first_names more_members digits
coarse_told = refl

none : lines_text small_sets [] [] ≡ codes "warnings 0\n"
unfolding small_sets last_line digits
none = refl

-- ---- each series has a name of its own, and the frame of its parameter

-- the first year stands beside the second
capital_series : line small_sets (told (rule.Outlier series.CapitalCost) 0 0 0 0 0 (whole 8) (whole 1)) ≡ codes "warning CapitalCost of R,T is 8 in 2020 beside 1 in 2021\n"
unfolding small_sets told line outlier_line nearest_text number_text subject_text of_names names_text years_text more_years decimal_text part_digits digits
capital_series = refl

-- any other beside the one before
fixed_series : line small_sets (told (rule.Outlier series.FixedCost) 0 1 0 1 1 (pos 125000000) (whole 1)) ≡ codes "warning FixedCost of R,U is 0.125 in 2021 and 1 more year beside 1 in 2020\n"
unfolding small_sets told line outlier_line nearest_text number_text subject_text of_names names_text years_text more_years decimal_text part_digits digits
fixed_series = refl

variable_series : line small_sets (told (rule.Outlier series.VariableCost) 0 1 0 2 0 (whole 8) (pos 500000000)) ≡ codes "warning VariableCost of R,U,1 is 8 in 2023 beside 0.5 in 2021\n"
unfolding small_sets told line outlier_line nearest_text number_text subject_text of_names names_text years_text more_years decimal_text part_digits digits
variable_series = refl

specified_series : line small_sets (told (rule.Outlier series.SpecifiedAnnualDemand) 0 1 0 1 0 (whole 8) (whole 1)) ≡ codes "warning SpecifiedAnnualDemand of R,G is 8 in 2021 beside 1 in 2020\n"
unfolding small_sets told line outlier_line nearest_text number_text subject_text of_names names_text years_text more_years decimal_text part_digits digits
specified_series = refl

accumulated_series : line small_sets (told (rule.Outlier series.AccumulatedAnnualDemand) 0 0 0 1 0 (whole 8) (whole 1)) ≡ codes "warning AccumulatedAnnualDemand of R,F is 8 in 2021 beside 1 in 2020\n"
unfolding small_sets told line outlier_line nearest_text number_text subject_text of_names names_text years_text more_years decimal_text part_digits digits
accumulated_series = refl

residual_series : line small_sets (told (rule.Outlier series.ResidualCapacity) 0 0 0 1 0 (whole 8) (whole 1)) ≡ codes "warning ResidualCapacity of R,T is 8 in 2021 beside 1 in 2020\n"
unfolding small_sets told line outlier_line nearest_text number_text subject_text of_names names_text years_text more_years decimal_text part_digits digits
residual_series = refl

-- ---- each cost, what a technology needs, and each limit

loose_capital : line small_sets (told (rule.NegativeCost cost.Capital) 0 1 0 2 0 (negsuc 999999999) (pos 0)) ≡ codes "warning CapitalCost of R,U is -1 and no limit holds it in 2023\n"
unfolding small_sets told line loose_line number_text subject_text of_names names_text years_text more_years decimal_text part_digits digits
loose_capital = refl

loose_fixed : line small_sets (told (rule.NegativeCost cost.Fixed) 0 1 0 2 0 (negsuc 0) (pos 0)) ≡ codes "warning FixedCost of R,U is -0.000000001 and no limit holds it in 2023\n"
unfolding small_sets told line loose_line number_text subject_text of_names names_text years_text more_years decimal_text part_digits digits
loose_fixed = refl

loose_variable : line small_sets (told (rule.NegativeCost cost.Variable) 0 0 0 0 2 (negsuc 999999999) (pos 0)) ≡ codes "warning VariableCost of R,T,1 is -1 and no limit holds it in 2020 and 2 more years\n"
unfolding small_sets told line loose_line number_text subject_text of_names names_text years_text more_years decimal_text part_digits digits
loose_variable = refl

without_unit_told : line small_sets (told (rule.Disabled enabler.Unit) 0 1 0 0 0 (pos 0) (pos 0)) ≡ codes "warning CapacityToActivityUnit of R,U is 0: it makes something and can't run\n"
unfolding small_sets told line plain_line number_text subject_text of_names names_text years_text more_years decimal_text part_digits digits
without_unit_told = refl

unavailable_told : line small_sets (told (rule.Disabled enabler.Availability) 0 0 0 0 0 (pos 0) (pos 0)) ≡ codes "warning AvailabilityFactor of R,T is 0: it makes something and can't run\n"
unfolding small_sets told line plain_line number_text subject_text of_names names_text years_text more_years decimal_text part_digits digits
unavailable_told = refl

without_factors_told : line small_sets (told (rule.Disabled enabler.Factors) 0 1 0 0 0 (pos 0) (pos 0)) ≡ codes "warning CapacityFactor of R,U is 0: it makes something and can't run\n"
unfolding small_sets told line plain_line number_text subject_text of_names names_text years_text more_years decimal_text part_digits digits
without_factors_told = refl

crossed_capacity : line small_sets (told (rule.Crossed pair.Capacity) 0 0 0 0 0 (whole 3) (whole 2)) ≡ codes "warning TotalAnnualMinCapacity of R,T is 3 and TotalAnnualMaxCapacity 2 in 2020: no plan\n"
unfolding small_sets told line crossed_line beside_text number_text subject_text of_names names_text years_text more_years decimal_text part_digits digits
crossed_capacity = refl

crossed_investment : line small_sets (told (rule.Crossed pair.Investment) 0 0 0 0 0 (whole 3) (whole 2)) ≡ codes "warning TotalAnnualMinCapacityInvestment of R,T is 3 and TotalAnnualMaxCapacityInvestment 2 in 2020: no plan\n"
unfolding small_sets told line crossed_line beside_text number_text subject_text of_names names_text years_text more_years decimal_text part_digits digits
crossed_investment = refl

crossed_activity : line small_sets (told (rule.Crossed pair.Activity) 0 0 0 0 0 (whole 3) (whole 2)) ≡ codes "warning TotalTechnologyAnnualActivityLowerLimit of R,T is 3 and TotalTechnologyAnnualActivityUpperLimit 2 in 2020: no plan\n"
unfolding small_sets told line crossed_line beside_text number_text subject_text of_names names_text years_text more_years decimal_text part_digits digits
crossed_activity = refl

high_capacity : line small_sets (told (rule.HighLimits (ceiling.Technology limit.Capacity)) 0 0 0 0 0 (pos 0) (pos 0)) ≡ codes "warning TotalAnnualMaxCapacity of R has values of 99999 and more: -1 is no limit, and quicker\n"
unfolding small_sets told line subject_line subject_text of_names names_text
high_capacity = refl

high_investment : line small_sets (told (rule.HighLimits (ceiling.Technology limit.Investment)) 0 0 0 0 0 (pos 0) (pos 0)) ≡ codes "warning TotalAnnualMaxCapacityInvestment of R has values of 99999 and more: -1 is no limit, and quicker\n"
unfolding small_sets told line subject_line subject_text of_names names_text
high_investment = refl

high_activity : line small_sets (told (rule.HighLimits (ceiling.Technology limit.Activity)) 0 0 0 0 0 (pos 0) (pos 0)) ≡ codes "warning TotalTechnologyAnnualActivityUpperLimit of R has values of 99999 and more: -1 is no limit, and quicker\n"
unfolding small_sets told line subject_line subject_text of_names names_text
high_activity = refl

high_period : line small_sets (told (rule.HighLimits (ceiling.Period)) 0 0 0 0 0 (pos 0) (pos 0)) ≡ codes "warning TotalTechnologyModelPeriodActivityUpperLimit of R has values of 99999 and more: -1 is no limit, and quicker\n"
unfolding small_sets told line subject_line subject_text of_names names_text
high_period = refl

high_annual : line small_sets (told (rule.HighLimits (ceiling.Emission emission_limit.Annual)) 0 0 0 0 0 (pos 0) (pos 0)) ≡ codes "warning AnnualEmissionLimit of R has values of 99999 and more: -1 is no limit, and quicker\n"
unfolding small_sets told line subject_line subject_text of_names names_text
high_annual = refl

high_emissions : line small_sets (told (rule.HighLimits (ceiling.Emission emission_limit.ModelPeriod)) 0 0 0 0 0 (pos 0) (pos 0)) ≡ codes "warning ModelPeriodEmissionLimit of R has values of 99999 and more: -1 is no limit, and quicker\n"
unfolding small_sets told line subject_line subject_text of_names names_text
high_emissions = refl
