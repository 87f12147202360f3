-- The names that most proofs here cite, passed on from one place. Declares nothing.
pub use Rattle.discount_factors.specs.Known.{Discounting}
pub use Rattle.exact_num.proofs.Integers.{*ℤ-≤ℤ, *ℤ_nonnegative, *ℤ_pos, nonzero_of_pos, ≤ℤ_cancel, ≤ℤ_or_<ℤ}
pub use Rattle.exact_num.proofs.OrderLaws.{int_cmp-equal, int_cmp-greater, int_cmp-less, nat_cmp-equal, nat_cmp-greater, nat_cmp-less}
pub use Rattle.exact_num.proofs.RationalLaws.{lowest-IsLowest, lowest-cross, negated-IsLowest, plus-IsLowest, plus-cross, times-IsLowest, times-cross, whole-IsLowest}
unfoldable pub use Rattle.exact_num.specs.Gcd.{gcd_of, gcd_within}
unfoldable pub use Rattle.exact_num.specs.Range.{all_fit, in_range}
pub use Rattle.exact_num.specs.Rational.{IsLowest, Rational, whole}
unfoldable pub use Rattle.exact_num.specs.Rational.{lowest, plus, times}
pub use Rattle.limit_rows.specs.RenewableTarget.{part_for_target, renewable_production, target_production}
pub use Rattle.limit_rows.specs.ReserveMargin.{unit_in_margin}
pub use Rattle.named_equations.proofs.Common.{AAC1, AAC2, AAC3, ACC1, ACC2, ACC3, ACC4, Amount, AreSameData, Billionths, Bool, CAA1, CAA2, CAA3, CAA4, CAB1, CAPACITY_TO_ACTIVITY_UNIT, CC1, CC2, Contains-from_Has, DISCOUNT_RATE_IDV, Data, Default, E1, E2, E3, E4, E5, E6, E7, E8, E9, EBA1, EBA10, EBA11, EBA2, EBA3, EBA4, EBA5, EBA6, EBA7, EBA8, EBA9, EBB1, EBB2, EBB3, EBB4, EQUATION_COUNT, EQ_SPECIFIED_DEMAND, EquationTerms, Factor, Given, Greater, Has, Has-flat_map, Has-from_Contains, INPUT_ACTIVITY_RATIO, Index, IsOver, IsSumOver, IsUsedParam, Less, List, Most, NCC1, NCC2, Negative, OC1, OC2, OC3, OC4, OPERATIONAL_LIFE, OUTPUT_ACTIVITY_RATIO, Ordering, Product, RE1, RE2, RE3, RE4, RE5, RESERVE_MARGIN_TAG_FUEL, RESERVE_MARGIN_TAG_TECHNOLOGY, RESIDUAL_CAPACITY, RE_TAG_FUEL, RE_TAG_TECHNOLOGY, RM1, RM2, RM3, RowName, SPECIFIED_ANNUAL_DEMAND, SPECIFIED_DEMAND_PROFILE, SV1, SV2, SV3, SV4, Sense, SetLists, TAC1, TAC2, TAC3, TCC1, TCC2, TDC1, TDC2, Total, Var, Whole, YEAR_SPLIT, [], accumulated_new_capacity, all_years, alone, and_parts, annual_emissions, annual_fixed_operating_cost, annual_technology_emission, annual_technology_emission_by_mode, annual_technology_emission_penalty_by_emission, annual_technology_emissions_penalty, annual_variable_operating_cost, ap, ap₂, arith, ascends, at_rrrlfy, before_first, by_sinking_fund, by_straight_line, capacity_factor, capacity_to_activity_unit, capital_cost, capital_investment, coefficients_of, cond, count_of, definers, defines_kind, demand, demand_needing_reserve_margin, discounted_capital_investment, discounted_operating_cost, discounted_salvage_value, discounted_technology_emissions_penalty, emits_in_mode, emitting_modes, enumerate_from, eq-eqb, eqb-true, equation_numbers, equation_of, exists, exists_at, exists_everywhere, false, flat_map, flat_map_parts, for_each, fuels, has_sv1, has_sv2, if◌then◌else◌, index, indices, indices_over, inl, input_activity_ratio, inr, instances, instances_of, int_cmp, ints, is_eq, is_index, is_instance, is_lt, is_made_of, is_one_of, is_times, is_value_at, kind_is_free, kind_numbers, length, less, life_of, list_all, list_any, lt-ltb, ltb-true, map, members, method_of, model_period_cost_by_region, model_period_emissions, name_at, nat_cmp, neg_ℤ, negsuc, new_capacity, not, number_of_year, operating_cost, or_cases, ordering_then, outlasts, output_activity_ratio, pos, produces, produces_in_mode, producing_modes, producing_technologies, production, production_annual, production_by_technology, production_by_technology_annual, products_away, range_with_len, rate_of, rate_of_activity, rate_of_demand, rate_of_production, rate_of_production_by_technology, rate_of_production_by_technology_by_mode, rate_of_total_activity, rate_of_use, rate_of_use_by_technology, rate_of_use_by_technology_by_mode, re_tag_fuel, re_tag_technology, re_total_production_of_target_fuel_annual, refl, reserve_margin_tag_fuel, reserve_margin_tag_technology, residual_capacity, salvage_value, slice_get, slice_index_or, specified_annual_demand, specified_demand_profile, stands_at, still_counts, subscripts_of, subscripts_of_kind, subst, suc, sym, total_annual_technology_activity_by_mode, total_capacity_annual, total_capacity_in_reserve_margin, total_discounted_cost, total_discounted_cost_by_technology, total_from, total_over, total_re_production_annual, total_technology_annual_activity, total_technology_model_period_activity, trade, trade_annual, trade_route, true, true≢false, use_annual, use_by_technology, use_by_technology_annual, use_of_fuel, uses, uses_in_mode, using_modes, using_technologies, value_at, value_of, value_of_amount, values_at, variable, variable_cost, variable_of, year_split, years_counting, years_in_all, years_since_first, zero, ℕ, ℤ, ◌*ℤ◌, ◌*◌, ◌++◌, ◌+ℤ◌, ◌+◌, ◌-◌, ◌<ℤ◌, ◌<◌, ◌^◌, ◌||◌, ◌∙◌, ◌∷◌, ◌≡◌, ◌≤ℤ◌, ◌≤◌}
pub use Rattle.named_equations.proofs.InstanceOrder.{Sorted-instances, from_e, from_f, from_m, from_y, instances-ascend, less_then, sorted_t}
pub use Rattle.named_equations.proofs.InstanceTests.{Has-instances, indices-pass}
pub use Rattle.named_equations.proofs.PositionsInSets.{AreInSets, are_in_sets}
pub use Rattle.named_equations.proofs.SameConditions.{annuity_of-same, capital_factor_of-same, emitting_modes-same, operating_factor_of-same, producing_modes-same, producing_technologies-same, recovery_factor_of-same, salvage_fraction_of-same, using_modes-same, using_technologies-same, years_counting-same}
pub use Rattle.named_equations.proofs.SameParameters.{accumulated_annual_demand-same, annual_emission_limit-same, annual_exogenous_emission-same, availability_factor-same, capacity_factor-same, capacity_to_activity_unit-same, capital_cost-same, emission_activity_ratio-same, emissions_penalty-same, fixed_cost-same, input_activity_ratio-same, model_period_emission_limit-same, model_period_exogenous_emission-same, output_activity_ratio-same, re_min_production_target-same, re_tag_fuel-same, re_tag_technology-same, reserve_margin-same, reserve_margin_tag_fuel-same, reserve_margin_tag_technology-same, residual_capacity-same, specified_annual_demand-same, specified_demand_profile-same, total_annual_max_capacity-same, total_annual_max_capacity_investment-same, total_annual_min_capacity-same, total_annual_min_capacity_investment-same, total_technology_annual_activity_lower_limit-same, total_technology_annual_activity_upper_limit-same, total_technology_model_period_activity_lower_limit-same, total_technology_model_period_activity_upper_limit-same, trade_route-same, variable_cost-same, year_split-same}
pub use Rattle.named_equations.proofs.SameValues.{AgreeInAll, agree-but, lists-same, map-same, with_values, ◌also◌}
pub use Rattle.named_equations.proofs.SortedLists.{Every, Sorted, Sorted-filter}
pub use Rattle.named_equations.proofs.TermMeaning.{EachFrom, alone-self, at_number}
pub use Rattle.named_equations.specs.Indices.{at_r, at_re, at_rey, at_rfy, at_rlfy, at_rltfmy, at_rltfy, at_rltmy, at_rlty, at_rly, at_rrrfy, at_rt, at_rtemy, at_rtey, at_rtfy, at_rtmy, at_rty, at_ry, by_rltfmy, by_rtemy}
pub use Rattle.named_equations.specs.Instances.{no_equation}
pub use Rattle.named_equations.specs.Parameters.{fuel_name, mode_name, region_name, slice_name, technology_name, year_name}
pub use Rattle.named_equations.specs.Positions.{emissions, modes, positions, regions, technologies, timeslices}
pub use Rattle.named_equations.specs.RegionFactors.{AreFactorsOf, AreRegionFactors, places_of}
pub use Rattle.named_equations.specs.RowMeaning.{IsNamedRow}
pub use Rattle.named_equations.specs.Table.{named_equations, other_trade}
pub use Rattle.named_equations.specs.TermShapes.{sum_away}
pub use Rattle.param_tables.specs.Built.{AreComplete, IsValueIn}
pub use Rattle.param_tables.specs.Ratios.{is_nonzero_in, nonzero_indices, ratio_index, ratio_indices}
pub use Rattle.param_tables.specs.declared.ratios.ActivityRatio.{ActivityRatio}
pub use Rattle.param_tables.specs.declared.ratios.ActivityRatio.TheVariants.{Emission, Input, Output}
pub use Rattle.param_tables.specs.declared.ratios.RatioIndex.{RatioIndex}
pub use Rattle.row_book.specs.Books.{AreRowsOf, Book, CanBeMade, HasNameWithin, HasStopped, HasTooMany, IsTooWide, IsWithinSets, NamesRowWithin, StopsAt, entries_in, entry_count, entry_limit, row_fits}
pub use Rattle.row_book.specs.Definitions.{AreTriangular, Defines, IsAt, IsChosen, IsDefinedIn, IsRepeatedIn, cost_of}
pub use Rattle.row_book.specs.EquationRows.{is_from, terms_at}
pub use Rattle.row_book.specs.FeedStates.{IsFeed}
pub use Rattle.row_book.specs.Feeds.{AreContentsOf, HasContentsWithin, ahead_after, ahead_at, contents_written}
unfoldable pub use Rattle.row_book.specs.Feeds.{all_contents, contents_at, equation_contents}
pub use Rattle.row_book.specs.Held.{AreHeld, KeepsRows, held_variables}
pub use Rattle.row_book.specs.Kept.{IsBook, IsDefinedAt}
pub use Rattle.row_book.specs.KindVariables.{is_before_kind, is_of_kind, lesser_kind, next_kind}
pub use Rattle.row_book.specs.Kinds.{defined_kinds, tidied, variable_by_kind}
pub use Rattle.row_book.specs.Ratios.{cell_at, cells_of_ratio, cells_of_some_mode, has_ratio, has_some_ratio, ratio_subscripts, subscripts_but_mode, with_mode}
pub use Rattle.row_book.specs.Replaced.{AreTwins, IsReplaced, same_variables}
pub use Rattle.row_book.specs.RowsAdded.{AddsRows}
pub use Rattle.row_book.specs.Signs.{HaveSigns, IsBounded, IsMadeOfParts}
pub use Rattle.row_book.specs.Tallies.{AreSameVariables, AreSortedVariables, AreTallied, Counts, Marks, MarksMore, TalliesMore, found_variables, kind_room, marked, names_to, rows_before, table_room}
pub use Rattle.row_book.specs.Walks.{AreAsked, AreFirstAsked, HaveRows, inner_subscripts, inners_of, instance_at, instances_in, instances_with, joined, moved, outer_subscripts, outers_of, place_of, walk}
pub use Rattle.row_book.specs.declared.fail.BookFail.{BookFail}
pub use Rattle.row_book.specs.declared.fail.BookFail.TheVariants.{Memory, TooManyEntries, Width}
pub use Rattle.row_book.specs.declared.held_rows.HeldRows.{HeldRows}
pub use Rattle.row_book.specs.declared.made_rows.MadeRows.{MadeRows}
pub use Rattle.row_book.specs.declared.tally.Tally.{Tally}
pub use Rattle.row_core.proofs.MeaningLaws.{multiple-sign, written-IsMultiple}
pub use Rattle.row_core.proofs.Members.{Has-append_left, Has-append_right}
pub use Rattle.row_core.proofs.Orders.{index_cmp_exact, row_name_cmp_total, var_cmp_exact, var_cmp_total}
pub use Rattle.row_core.specs.Contents.{RowContents, contents_of}
pub use Rattle.row_core.specs.EquationTerms.{IsRowOf, each, equation_formed, right_of, terms_of}
pub use Rattle.row_core.specs.Equations.{IsEquation}
pub use Rattle.row_core.specs.Kinds.{IsKind}
pub use Rattle.row_core.specs.Numbers.{is_zero, variables_of}
pub use Rattle.row_core.specs.Order.{index_cmp, row_name_cmp, var_cmp}
pub use Rattle.row_core.specs.RowLists.{AreVariablesOf, entry_variables, names_of}
pub use Rattle.row_core.specs.Rows.{RowHolds, number_at, row_sum}
pub use Rattle.row_core.specs.Sources.{Answers, AreInOrder, has_entry_of, has_kind, is_of_equation, rows_of_equation}
pub use Rattle.row_core.specs.Stops.{IsStop}
pub use Rattle.row_core.specs.Terms.{gathered, gathered_onto, with_term}
pub use Rattle.row_core.specs.Written.{cleared_entries, common_denominator, entries_divided, entries_over, kept, written_divisor, written_entries, written_right}
pub use Rattle.row_core.specs.declared.Row.{Row}
pub use Rattle.row_core.specs.declared.place.Place.{Place}
pub use Rattle.row_core.specs.declared.place.Stopped.{Stopped}
pub use Rattle.std.proofs.Common.{None, Option, Some, append_assoc, drop, get_or, le-leb, leb-true, length-append, nat_eq, nat_le, nat_lt, rules, take, ◌&&◌, ◌/◌, ◌≢◌, ◌⊎◌}
pub use Rattle.std.proofs.Math.ListN.{get_or-append, get_or-eq_default, replicate}
pub use Rattle.std.proofs.Math.Nat.{eq-or-lt_of_le, mul-div_cancel}
pub use Rattle.std.proofs.lemmas.Bool.{cases_lt, cases_order, ne_eqb}
pub use Rattle.std.proofs.lemmas.Cmp.{eq_by_cmp_equiv, nat_cmp_total}
pub use Rattle.std.proofs.lemmas.Grind.{flat_map-append}
pub use Rattle.std.proofs.lemmas.List.{append-nil, drop-map, drop_all, drop_more, get_or-replicate, get_or_at, length-map, length-replicate, length-take-le, map-append, reverse-append, reverse-reverse, take-append-drop, take-map}
pub use Rattle.std.proofs.lemmas.List.Elements.{Contains-append_cases, Contains-append_left, Contains-append_right, filter-append, recursion_from_All}
pub use Rattle.std.proofs.lemmas.List.Filters.{dedup_is}
pub use Rattle.std.proofs.lemmas.List.Folds.{list_all-append, list_any-append}
pub use Rattle.std.proofs.lemmas.List.FromFn.{get_or-map-range_with_len, length-map-range_with_len, map-range_with_len_more}
pub use Rattle.std.proofs.lemmas.List.Kept.{Contains-dedup, Contains-from_dedup, IsStrictlySortedBy-dedup}
pub use Rattle.std.proofs.lemmas.List.Sorted.{Contains-permutation, IsPermutation-append, IsPermutation-refl, IsPermutation-sym, IsPermutation-trans, length_permutation}
pub use Rattle.std.proofs.lemmas.List.Sums.{sum_by-append, sum_by-cons}
pub use Rattle.std.proofs.lemmas.Result.{IfErr-weaker, IfOk-weaker, on_ok_weaker}
pub use Rattle.std.specs.Cmp.{IsEquivalence}
pub use Rattle.std.specs.Cmp.Derive.{both_true}
pub use Rattle.std.specs.List.{AllByRecursion, dedup}
pub use Rattle.std.specs.List.Sorted.{IsPermutation, IsSorted}
unfoldable pub use Rattle.std.specs.List.Sorted.{IsStrictlySortedBy}
pub use Rattle.std.specs.Ordering.{eq_by_cmp, ord_max, ordering_reverse}
pub use Rattle.std.specs.Prelude.{All, Contains, IfSome, IsSomeAnd, OnOk, filter, slice_set, unsigned_abs, unwrap_or, ⊤}
pub use Rattle.std.specs.Str.{bytes_eq}
pub use Rattle.std.specs.declared.cmp.Ordering.TheVariants.{Equal}
