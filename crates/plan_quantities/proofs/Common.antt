-- The names that most proofs here cite, passed on from one place. Declares nothing.
pub use Rattle.certificate_checker.proofs.NamedSums.{at_name, fractions, name-itself, same-name, weighted-one, weighted-plus}
pub use Rattle.certificate_checker.specs.Certificates.{AreMultipliersOver, Proves, bound_of}
pub use Rattle.certificate_checker.specs.Costs.{cost_of, model_cost}
unfoldable pub use Rattle.discount_factors.specs.Factors.{annuity, capital_factor, discounted, half_year_root, operating_factor, recovery_factor, root_from, salvage_fraction}
pub use Rattle.exact_num.proofs.Integers.{*ℤ_nonnegative, ≤ℤ-*ℤ}
pub use Rattle.exact_num.proofs.Ring.{*ℤ-+ℤ, *ℤ-one, *ℤ-zero, *ℤ_assoc, +ℤ-*ℤ, +ℤ-zero, one-*ℤ, products, ring, zero-*ℤ, zero-+ℤ}
pub use Rattle.exact_num.specs.Rational.{Rational, pair, whole}
pub use Rattle.model_sets.specs.Data.{Data, Default, Given}
pub use Rattle.model_sets.specs.declared.param_numbers.TheConstants.{ANNUAL_EMISSION_LIMIT, AVAILABILITY_FACTOR, CAPACITY_FACTOR, CAPACITY_TO_ACTIVITY_UNIT, CAPITAL_COST, DEPRECIATION_METHOD, DISCOUNT_RATE, DISCOUNT_RATE_IDV, EMISSIONS_PENALTY, EMISSION_ACTIVITY_RATIO, FIXED_COST, INPUT_ACTIVITY_RATIO, MODEL_PERIOD_EMISSION_LIMIT, OPERATIONAL_LIFE, OUTPUT_ACTIVITY_RATIO, RESIDUAL_CAPACITY, SPECIFIED_ANNUAL_DEMAND, SPECIFIED_DEMAND_PROFILE, TOTAL_ANNUAL_MAX_CAPACITY, TOTAL_ANNUAL_MAX_CAPACITY_INVESTMENT, TOTAL_TECHNOLOGY_ANNUAL_ACTIVITY_UPPER_LIMIT, VARIABLE_COST, YEAR_SPLIT}
pub use Rattle.named_equations.proofs.InstanceTests.{Contains-variables, Has-indices, Has-instances, Has-variables}
pub use Rattle.named_equations.proofs.TermMeaning.{alone-self, sum_over-same, sum_over-times, sum_over-zero}
pub use Rattle.named_equations.specs.Existence.{all_variables, exists, subscripts_of_kind}
pub use Rattle.named_equations.specs.Indices.{at_rey, at_rlfy, at_rltfmy, at_rltfy, at_rlty, at_rrrfy, at_rtemy, at_rtey, at_rtfy, at_rtmy, at_rty, at_ry}
pub use Rattle.named_equations.specs.Instances.{equation_numbers, indices, instances, is_index, is_instance, name_at, stands_at, subscripts_of}
pub use Rattle.named_equations.specs.Notation.{factor_scale, scale_of, sum_over}
pub use Rattle.named_equations.specs.Parameters.{capital_cost, emission_activity_ratio, emissions_penalty, fixed_cost, input_activity_ratio, output_activity_ratio, residual_capacity, trade_route, variable_cost, year_split}
pub use Rattle.named_equations.specs.Plans.{Feasible, Meets, MeetsEach, cost, meets, says}
pub use Rattle.named_equations.specs.Positions.{all_years, emissions, modes, regions, technologies, timeslices, years_in_all, years_since_first}
pub use Rattle.named_equations.specs.Variables.{accumulated_new_capacity, annual_emissions, annual_fixed_operating_cost, annual_technology_emission, annual_technology_emission_by_mode, annual_technology_emission_penalty_by_emission, annual_technology_emissions_penalty, annual_variable_operating_cost, capital_investment, demand, discounted_capital_investment, discounted_operating_cost, discounted_salvage_value, discounted_technology_emissions_penalty, new_capacity, operating_cost, production, production_by_technology, production_by_technology_annual, rate_of_activity, rate_of_production_by_technology, rate_of_production_by_technology_by_mode, rate_of_total_activity, rate_of_use_by_technology, rate_of_use_by_technology_by_mode, salvage_value, total_annual_technology_activity_by_mode, total_capacity_annual, total_discounted_cost, total_discounted_cost_by_technology, total_technology_annual_activity, trade, trade_annual, use_by_technology, use_by_technology_annual, use_of_fuel, variable}
pub use Rattle.named_equations.specs.Where.{emits_in_mode, emitting_modes, is_not_zero, produces, produces_in_mode, producing_modes, uses, uses_in_mode, using_modes}
pub use Rattle.named_equations.specs.WrittenFactors.{annuity_of, capital_factor_of, operating_factor_of, recovery_factor_of, salvage_fraction_of}
pub use Rattle.plan_quantities.specs.CostSums.{cost_of_year, investment, operation, paid_for_one, part_left, penalty, salvage, three_factors, two_factors}
pub use Rattle.plan_quantities.specs.Prices.{CostsAtLeast, FeasibleWithMore, IsPromised, balance_at, price_of, price_over, production_entry, says_more}
pub use Rattle.plan_quantities.specs.Quantities.{AreQuantities, AreSums, IsSum, Quantity, quantities}
pub use Rattle.plan_quantities.specs.RowPrices.{FeasibleWithLess, IsRowPromised, row_price_over}
pub use Rattle.plan_quantities.specs.Sums.{activity_in, activity_of_year, capacity_in_all, emissions_of_year, over_slices_and_modes, production_of_year, trade_of_year, use_of_year}
pub use Rattle.price_tables.specs.PriceAmounts.{row_price}
pub use Rattle.row_book.proofs.Subscripts.{AreValues, In, index-from_values, index-tidied, positions-in, values-from_index, values-rey, values-rltfmy, values-rltfy, values-rlty, values-rrrfy, values-rtemy, values-rtey, values-rtfy, values-rtmy, values-rty, values-ry}
pub use Rattle.row_book.specs.Books.{AreRowsOf}
pub use Rattle.row_core.proofs.Members.{Contains-from_Has, Has, Has-from_Contains, Has-map}
pub use Rattle.row_core.specs.Kinds.{kind_is_free}
pub use Rattle.row_core.specs.Numbers.{ascends, is_zero}
pub use Rattle.row_core.specs.Order.{row_name_cmp}
pub use Rattle.row_core.specs.Plans.{value_in}
pub use Rattle.row_core.specs.Rows.{number_at, row_sum}
pub use Rattle.row_core.specs.Statements.{Holds, Stands, holds}
pub use Rattle.row_core.specs.Values.{IsOver, alone}
pub use Rattle.row_core.specs.declared.Index.{Index}
pub use Rattle.row_core.specs.declared.Row.{Row}
pub use Rattle.row_core.specs.declared.RowName.{RowName}
pub use Rattle.row_core.specs.declared.Var.{Var}
pub use Rattle.row_core.specs.declared.equation_numbers.TheConstants.{AAC1, ACC1, ACC2, ACC3, CAA1, CAA2, CAA3, CAA4, CC1, CC2, E1, E2, E3, E4, E5, E6, EBA1, EBA11, EBA2, EBA3, EBA4, EBA5, EBA6, EBA7, EBA8, EBA9, EBB3, EQ_SPECIFIED_DEMAND, OC1, OC2, OC3, OC4, RE1, RE5, SV1, SV2, SV3, SV4, TDC1, TDC2}
pub use Rattle.row_core.specs.declared.kind_numbers.TheConstants.{DEMAND, NEW_CAPACITY, PRODUCTION, RATE_OF_ACTIVITY, RATE_OF_DEMAND, TRADE, TRADE_ANNUAL}
pub use Rattle.std.proofs.Common.{Bool, List, [], ap, ap₂, arith, eq-eqb, false, filter, inl, inr, map, neg_ℤ, negsuc, pos, refl, subst, sym, true, true≢false, ℕ, ℤ, ◌*ℤ◌, ◌*◌, ◌++◌, ◌+ℤ◌, ◌+◌, ◌-ℤ◌, ◌-◌, ◌<◌, ◌^◌, ◌∙◌, ◌∷◌, ◌≡◌, ◌≢◌}
pub use Rattle.std.proofs.lemmas.Bool.{and_parts}
pub use Rattle.std.proofs.lemmas.Bool.Decides.{Decides-int_eq}
pub use Rattle.std.proofs.lemmas.Int.{ints}
pub use Rattle.std.specs.List.{AllByRecursion, list_all, list_any}
pub use Rattle.std.specs.Ordering.{int_eq, is_eq}
pub use Rattle.std.specs.Prelude.{codes, if◌then◌else◌, int_le, nat_eq, not, slice_index_or, ◌&&◌, ◌||◌, ◌≤ℤ◌}
