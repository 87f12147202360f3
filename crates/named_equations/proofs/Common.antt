-- The names that most proofs here cite, passed on from one place. Declares nothing.
unfoldable pub use Rattle.discount_factors.specs.Factors.{annuity, capital_factor, discounted, half_year_root, operating_factor, recovery_factor, root_from, salvage_fraction}
pub use Rattle.exact_num.proofs.Ring.{*ℤ-+ℤ, *ℤ-one, *ℤ-zero, *ℤ_comm, +ℤ-zero, +ℤ_assoc, neg_ℤ-*ℤ, neg_ℤ-+ℤ, one-*ℤ, zero-*ℤ, zero-+ℤ}
pub use Rattle.model_sets.specs.Data.{AreSameData, Data, Default, Given, IsUsedParam, indices_of, indices_over, value_at}
pub use Rattle.model_sets.specs.Members.{SetLists, last_year, members}
pub use Rattle.model_sets.specs.Names.{fuel, mode, technology, year}
pub use Rattle.model_sets.specs.Params.{is_used, param_at, param_word, subscript_sets}
pub use Rattle.model_sets.specs.declared.param_numbers.TheConstants.{ACCUMULATED_ANNUAL_DEMAND, ANNUAL_EMISSION_LIMIT, ANNUAL_EXOGENOUS_EMISSION, AVAILABILITY_FACTOR, CAPACITY_FACTOR, CAPACITY_OF_ONE_TECHNOLOGY_UNIT, CAPACITY_TO_ACTIVITY_UNIT, CAPITAL_COST, DEPRECIATION_METHOD, DISCOUNT_RATE, DISCOUNT_RATE_IDV, EMISSIONS_PENALTY, EMISSION_ACTIVITY_RATIO, FIXED_COST, INPUT_ACTIVITY_RATIO, MODEL_PERIOD_EMISSION_LIMIT, MODEL_PERIOD_EXOGENOUS_EMISSION, OPERATIONAL_LIFE, OUTPUT_ACTIVITY_RATIO, PARAM_COUNT, RESERVE_MARGIN, RESERVE_MARGIN_TAG_FUEL, RESERVE_MARGIN_TAG_TECHNOLOGY, RESIDUAL_CAPACITY, RE_MIN_PRODUCTION_TARGET, RE_TAG_FUEL, RE_TAG_TECHNOLOGY, SPECIFIED_ANNUAL_DEMAND, SPECIFIED_DEMAND_PROFILE, TOTAL_ANNUAL_MAX_CAPACITY, TOTAL_ANNUAL_MAX_CAPACITY_INVESTMENT, TOTAL_ANNUAL_MIN_CAPACITY, TOTAL_ANNUAL_MIN_CAPACITY_INVESTMENT, TOTAL_TECHNOLOGY_ANNUAL_ACTIVITY_LOWER_LIMIT, TOTAL_TECHNOLOGY_ANNUAL_ACTIVITY_UPPER_LIMIT, TOTAL_TECHNOLOGY_MODEL_PERIOD_ACTIVITY_LOWER_LIMIT, TOTAL_TECHNOLOGY_MODEL_PERIOD_ACTIVITY_UPPER_LIMIT, TRADE_ROUTE, USED_PARAM_COUNT, VARIABLE_COST, YEAR_SPLIT}
pub use Rattle.named_equations.specs.Capacity.{still_counts, years_counting}
pub use Rattle.named_equations.specs.Existence.{all_variables, definers, defines_kind, exists, exists_at, exists_everywhere, kind_numbers, subscripts_of_kind, variables_of_kind}
pub use Rattle.named_equations.specs.Indices.{at_rrrlfy, index}
pub use Rattle.named_equations.specs.Instances.{each, equation_numbers, equation_of, indices, instances, instances_of, is_index, is_instance, is_one_of, is_value_at, name_at, set_at, stands_at, subscripts_of, values_at, variable_of}
pub use Rattle.named_equations.specs.Notation.{factor_scale, scale_of, sum_over, ◌at_least◌, ◌at_most◌, ◌equals◌}
pub use Rattle.named_equations.specs.Parameters.{accumulated_annual_demand, annual_emission_limit, annual_exogenous_emission, availability_factor, capacity_factor, capacity_of_one_technology_unit, capacity_to_activity_unit, capital_cost, depreciation_method, discount_rate, discount_rate_idv, emission_activity_ratio, emissions_penalty, fixed_cost, input_activity_ratio, model_period_emission_limit, model_period_exogenous_emission, operational_life, output_activity_ratio, re_min_production_target, re_tag_fuel, re_tag_technology, reserve_margin, reserve_margin_tag_fuel, reserve_margin_tag_technology, residual_capacity, specified_annual_demand, specified_demand_profile, total_annual_max_capacity, total_annual_max_capacity_investment, total_annual_min_capacity, total_annual_min_capacity_investment, total_technology_annual_activity_lower_limit, total_technology_annual_activity_upper_limit, total_technology_model_period_activity_lower_limit, total_technology_model_period_activity_upper_limit, trade_route, value_of, variable_cost, year_split}
pub use Rattle.named_equations.specs.Plans.{Feasible, MeetsEach, Value, common_denominator, cost, meets, says, whole_at}
pub use Rattle.named_equations.specs.Positions.{all_years, count_of, fuels, number_of_year, years_in_all, years_left, years_since_first}
pub use Rattle.named_equations.specs.Salvage.{by_sinking_fund, by_straight_line, has_sv1, has_sv2, has_sv3, outlasts}
pub use Rattle.named_equations.specs.TermShapes.{for_each, is_covered, is_made_of, is_times, products_away}
pub use Rattle.named_equations.specs.Variables.{accumulated_new_capacity, annual_emissions, annual_fixed_operating_cost, annual_technology_emission, annual_technology_emission_by_mode, annual_technology_emission_penalty_by_emission, annual_technology_emissions_penalty, annual_variable_operating_cost, capital_investment, demand, demand_needing_reserve_margin, discounted_capital_investment, discounted_operating_cost, discounted_salvage_value, discounted_technology_emissions_penalty, model_period_cost_by_region, model_period_emissions, new_capacity, operating_cost, production, production_annual, production_by_technology, production_by_technology_annual, rate_of_activity, rate_of_demand, rate_of_production, rate_of_production_by_technology, rate_of_production_by_technology_by_mode, rate_of_total_activity, rate_of_use, rate_of_use_by_technology, rate_of_use_by_technology_by_mode, re_total_production_of_target_fuel_annual, salvage_value, total_annual_technology_activity_by_mode, total_capacity_annual, total_capacity_in_reserve_margin, total_discounted_cost, total_discounted_cost_by_technology, total_re_production_annual, total_technology_annual_activity, total_technology_model_period_activity, trade, trade_annual, use_annual, use_by_technology, use_by_technology_annual, use_of_fuel, variable}
pub use Rattle.named_equations.specs.Where.{emits_in_mode, emitting_modes, is_limit, is_not_zero, is_positive, produced_fuels, produces, produces_in_mode, producing_modes, producing_technologies, uses, uses_in_mode, using_modes, using_technologies}
pub use Rattle.named_equations.specs.Within.{IsEmission, IsFuel, IsMode, IsRegion, IsSlice, IsTechnology, IsYear}
pub use Rattle.named_equations.specs.WrittenFactors.{annuity_of, capital_factor_of, life_of, method_of, operating_factor_of, rate_of, recovery_factor_of, salvage_fraction_of}
pub use Rattle.row_core.proofs.Members.{Contains-from_Has, Has, Has-filter, Has-flat_map, Has-from_Contains, Has-map, filter_parts, flat_map_parts, map_parts}
pub use Rattle.row_core.proofs.SumLaws.{IsOver-negated, IsOver-plus, IsOver-ratio, IsOver-times, IsSumOver-gathered}
pub use Rattle.row_core.specs.Amounts.{Amount, Billionths, Factor, Negative, Product, Total, Whole, total_from, total_over, value_of_amount}
pub use Rattle.row_core.specs.EquationTerms.{EquationTerms, coefficients_of, less}
pub use Rattle.row_core.specs.Kinds.{kind_has, kind_is_free, word_of_kind}
pub use Rattle.row_core.specs.Numbers.{ascends, before_first}
pub use Rattle.row_core.specs.Statements.{Holds, Stands, Statement}
pub use Rattle.row_core.specs.Values.{IsOver, IsSumOver, alone}
pub use Rattle.row_core.specs.declared.Index.{Index}
pub use Rattle.row_core.specs.declared.RowName.{RowName}
pub use Rattle.row_core.specs.declared.Sense.{Sense}
pub use Rattle.row_core.specs.declared.Sense.TheVariants.{Equal, Least, Most}
pub use Rattle.row_core.specs.declared.Var.{Var}
pub use Rattle.row_core.specs.declared.equation_numbers.TheConstants.{AAC1, AAC2, AAC3, ACC1, ACC2, ACC3, ACC4, CAA1, CAA2, CAA3, CAA4, CAB1, CC1, CC2, E1, E2, E3, E4, E5, E6, E7, E8, E9, EBA1, EBA10, EBA11, EBA2, EBA3, EBA4, EBA5, EBA6, EBA7, EBA8, EBA9, EBB1, EBB2, EBB3, EBB4, EQUATION_COUNT, EQ_SPECIFIED_DEMAND, NCC1, NCC2, OC1, OC2, OC3, OC4, RE1, RE2, RE3, RE4, RE5, RM1, RM2, RM3, SV1, SV2, SV3, SV4, TAC1, TAC2, TAC3, TCC1, TCC2, TDC1, TDC2}
pub use Rattle.row_core.specs.declared.kind_numbers.TheConstants.{NEW_CAPACITY, RATE_OF_ACTIVITY}
pub use Rattle.std.proofs.Common.{Bool, List, [], ap, ap₂, arith, cond, eq-eqb, eq-or-lt_of_le, eqb-true, false, filter, inl, inr, le-ltb, length, lt-ltb, ltb-true, map, neg_ℤ, negsuc, not, pos, refl, subst, suc, sym, true, true≢false, zero, ℕ, ℤ, ◌*ℤ◌, ◌*◌, ◌++◌, ◌+ℤ◌, ◌+◌, ◌-◌, ◌<◌, ◌^◌, ◌||◌, ◌∙◌, ◌∷◌, ◌≡◌, ◌≤◌}
pub use Rattle.std.proofs.Math.Nat.{one-le-pow}
pub use Rattle.std.proofs.lemmas.Bool.{and_parts, or_cases}
pub use Rattle.std.proofs.lemmas.Int.{ints}
pub use Rattle.std.specs.List.{enumerate_from, flat_map, list_all, list_any, range_with_len, zip}
pub use Rattle.std.specs.Ordering.{int_cmp, is_eq, is_lt, nat_cmp, ordering_then}
pub use Rattle.std.specs.Prelude.{Option, Some, codes, find, fold, if◌then◌else◌, int_le, nat_eq, slice_get, slice_index_or, ◌&&◌, ◌<ℤ◌, ◌==◌, ◌↔◌, ◌≤ℤ◌}
pub use Rattle.std.specs.declared.cmp.Ordering.{Ordering}
pub use Rattle.std.specs.declared.cmp.Ordering.TheVariants.{Greater, Less}
