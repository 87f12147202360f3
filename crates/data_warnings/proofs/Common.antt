-- The names that most proofs here cite, passed on from one place. Declares nothing.
pub use Rattle.data_warnings.specs.Decimals.{after_first, billion, first_digit}
unfoldable pub use Rattle.data_warnings.specs.Decimals.{decimal_text, part_digits}
pub use Rattle.data_warnings.specs.Findings.{findings, found, found_at, found_in, found_of_one, found_of_two, last_members, place_at, rules_in_order}
pub use Rattle.data_warnings.specs.Frames.{frame_of}
pub use Rattle.data_warnings.specs.Lines.{gap_text, lines_text, pair_text, route_start, said, starved_text}
unfoldable pub use Rattle.data_warnings.specs.Lines.{above_line, asked_start, asked_text, bare_number, beside_text, both_ways_line, both_ways_text, crossed_line, default_line, default_text, first_names, for_first, gap_line, last_line, line, loose_line, member_line, members_line, members_text, more_members, more_years, names_text, nearest_text, number_text, of_names, outlier_line, pair_line, plain_line, rounded_line, route_line, route_remark, starved_line, storage_line, storage_text, subject_line, subject_text, sum_line, unmade_line, unmade_text, years_text}
pub use Rattle.data_warnings.specs.NoPlan.{EndsIn, excludes_plans, no_plan_ending}
pub use Rattle.data_warnings.specs.Questions.{is_so, is_so_somewhere, is_within, over}
pub use Rattle.data_warnings.specs.Speaking.{speaks}
pub use Rattle.data_warnings.specs.Sums.{effort, part, sum_of}
pub use Rattle.data_warnings.specs.Values.{IsPlace, count, is_above_zero, is_nonzero, name, positions, whole}
pub use Rattle.data_warnings.specs.Wide.{is_so_of, is_so_of_some, is_used, wide_over}
pub use Rattle.data_warnings.specs.Yearly.{is_ever_so, is_so_in}
pub use Rattle.data_warnings.specs.declared.places.Finding.{Finding}
pub use Rattle.data_warnings.specs.declared.places.Place.{Place}
pub use Rattle.data_warnings.specs.declared.questions.Question.TheVariants.{Profile, Route, WideSlice}
pub use Rattle.data_warnings.specs.declared.rules.Rule.{Rule}
pub use Rattle.data_warnings.specs.declared.rules.Rule.TheVariants.{CoarseRates, Crossed, CrossedPeriod, Disabled, DiscountRate, HighLimits, IdleLimit, IdleTechnology, LargeAvailability, LargeFactor, LargeTarget, EqualRoute, NegativeCost, OneWayRoute, Outlier, ProfileSum, Rounded, ShortLives, SmallMargin, StarvedTechnology, UnequalRoute, UnmadeDemand, UnprofiledDemand, Unreachable, UnusedFuel, YearGap, YearSplitSum, ZeroEmissions, ZeroLimits}
pub use Rattle.data_warnings.specs.declared.wide.Wide.TheVariants.{MakesOrTakes}
pub use Rattle.exact_num.proofs.Integers.{*ℤ-<ℤ, *ℤ-≤ℤ, *ℤ_cancel, *ℤ_nonnegative, *ℤ_pos, <ℤ_cancel, nonzero_of_pos, pos-unsigned_abs, ≤ℤ-*ℤ, ≤ℤ_cancel, ≤ℤ_or_<ℤ}
pub use Rattle.exact_num.proofs.RangeLaws.{FitsSigned-from_InRange, back_in_range}
pub use Rattle.exact_num.proofs.Ring.{*ℤ-zero, *ℤ_assoc, *ℤ_comm, +ℤ_assoc, products, zero-*ℤ}
pub use Rattle.exact_num.specs.Range.{InRange}
pub use Rattle.mathprog_data.specs.WellFormed.{IsWithinLimit}
pub use Rattle.model_sets.specs.Data.{Data, Default, Given, value_at}
pub use Rattle.model_sets.specs.Members.{AreSets, SetLists, members}
pub use Rattle.model_sets.specs.Names.{region, timeslice, year}
pub use Rattle.named_equations.proofs.InstanceTests.{Has-instances, range_parts}
pub use Rattle.named_equations.proofs.SomePosition.{any-begin, any-end, any-here, any-later, any_from}
pub use Rattle.named_equations.specs.Existence.{exists}
pub use Rattle.named_equations.specs.Indices.{at_rfy, at_rlfy, at_rrrfy, at_rrrlfy, at_rt, at_rty}
pub use Rattle.named_equations.specs.Notation.{scale_of, sum_over}
pub use Rattle.named_equations.specs.Parameters.{accumulated_annual_demand, capacity_factor, specified_annual_demand, specified_demand_profile, trade_route, year_split}
pub use Rattle.named_equations.specs.Plans.{Feasible, Meets, MeetsEach}
pub use Rattle.named_equations.specs.Positions.{count_of, regions, timeslices}
pub use Rattle.named_equations.specs.Variables.{accumulated_new_capacity, demand, new_capacity, production, production_annual, rate_of_demand, rate_of_production, rate_of_production_by_technology, rate_of_total_activity, total_capacity_annual, total_technology_annual_activity, total_technology_model_period_activity, trade, trade_annual, use_annual, use_of_fuel}
pub use Rattle.named_equations.specs.Where.{is_limit, is_positive, producing_technologies}
pub use Rattle.param_tables.specs.Built.{Built, IsValueIn}
pub use Rattle.row_core.proofs.Members.{Has, Has-from_Contains, flat_map_parts}
pub use Rattle.row_core.specs.declared.Var.{Var}
pub use Rattle.row_core.specs.declared.equation_numbers.TheConstants.{AAC1, AAC2, AAC3, CAA2, CAB1, EBA10, EBA11, EBA3, EBA7, EBA9, EBB1, EBB3, EBB4, EQ_SPECIFIED_DEMAND, NCC1, NCC2, TAC2, TAC3, TCC1, TCC2}
pub use Rattle.std.proofs.Common.{Bool, FitsSigned, List, None, Option, Some, T, [], ap, append-nil, append_assoc, ap₂, arith, cond, eqb-true, false, if◌then◌else◌, inl, inr, length, lt-ltb, ltb-true, nat_eq, negsuc, not, of_z, pos, refl, set, subst, suc, sym, take, to_z, true, true≢false, zero, ℕ, ℤ, ◌%◌, ◌*ℤ◌, ◌*◌, ◌++◌, ◌+ℤ◌, ◌+◌, ◌-◌, ◌/◌, ◌<ℤ◌, ◌<◌, ◌^◌, ◌||◌, ◌∙◌, ◌∷◌, ◌≡◌, ◌≢◌, ◌≤ℤ◌, ◌≤◌, ◌⊎◌}
pub use Rattle.std.proofs.Math.Nat.{mod-add-div', mod-lt, mul-div_cancel_left, mul-le-mul_right, mul_comm, mul_right_comm}
pub use Rattle.std.proofs.lemmas.Bool.{ne_eqb}
pub use Rattle.std.proofs.lemmas.Int.{ints}
pub use Rattle.std.proofs.lemmas.List.{flat_map_more, map-id}
pub use Rattle.std.specs.Cmp.Derive.{both_true}
pub use Rattle.std.specs.Fmt.{decimal}
unfoldable pub use Rattle.std.specs.Fmt.{digits}
pub use Rattle.std.specs.Int.{w128}
pub use Rattle.std.specs.List.{flat_map, list_all, list_any, range_with_len}
pub use Rattle.std.specs.Prelude.{Contains, codes, filter, int_le, int_lt, unsigned_abs, unwrap_or, ◌&&◌}
