-- The names that most proofs here cite, passed on from one place. Declares nothing.
pub use Rattle.mathprog_data.specs.BlocksView.{blocks_told, param_told, params_told, sets_told}
pub use Rattle.mathprog_data.specs.Meaning.{Blocks, GivenValue, ParamBlock, SetBlock}
pub use Rattle.mathprog_data.specs.WellFormed.{AreParamBlocks, IsParamBlock, IsWithinLimit}
pub use Rattle.mathprog_data.specs.declared.blocks.Mark.{Mark}
pub use Rattle.model_sets.proofs.ParamLaws.{subscripts_are_sets}
pub use Rattle.model_sets.specs.Data.{AreSameData, Data, Default, Given, IsUsedParam, default_of, given_at, indices_of, indices_over, is_given_at, unit_capacity, used_params, value_at, value_of_none}
pub use Rattle.model_sets.specs.Members.{AreSets, SetLists, empty_set, index_of, is_among, members, no_members}
pub use Rattle.model_sets.specs.Names.{IsSet, emission, fuel, limit_of, limits, mode, region, required_sets, set_count, set_word, technology, year}
pub use Rattle.model_sets.specs.Params.{IsParam, is_used, param_at, param_count, param_word, range_of, subscript_count, subscript_sets}
pub use Rattle.model_sets.specs.Refusals.{IsDueTo}
pub use Rattle.model_sets.specs.Years.{is_year}
pub use Rattle.model_sets.specs.declared.fault.SetFail.TheVariants.{Fault, Memory}
pub use Rattle.model_sets.specs.declared.fault.SetFault.{SetFault}
pub use Rattle.model_sets.specs.declared.param_numbers.TheConstants.{CONVERSIONLS, DISCOUNT_RATE_IDV, MODEL_PERIOD_EMISSION_LIMIT, TRADE_ROUTE}
pub use Rattle.model_sets.specs.declared.params.Range.{Range}
pub use Rattle.model_sets.specs.declared.params.Range.TheVariants.{AboveZero, Any, AtLeastZero, Lifetime, MinusOneOrAtLeastZero, OneOrTwo, ZeroOnly, ZeroToOne}
pub use Rattle.param_tables.specs.BlockData.{data_of, data_told, given_of, givens_of, has_second, members_told, set_lists, stated_default}
pub use Rattle.param_tables.specs.Built.{AreComplete, Built, IsValueIn, is_given}
pub use Rattle.param_tables.specs.Canonical.{canonical, given_value, values_for, with_given, with_value_at}
unfoldable pub use Rattle.param_tables.specs.Canonical.{defaults_in_order, given_in_order}
pub use Rattle.param_tables.specs.Changed.{AreDataWith}
pub use Rattle.param_tables.specs.ChangedTables.{AreTablesWith, IsCopyOf, IsTableWith}
pub use Rattle.param_tables.specs.InTurn.{first_of, in_turn}
pub use Rattle.param_tables.specs.Places.{IsPlaceOf, are_members}
pub use Rattle.param_tables.specs.Positions.{ArePositions, IsIndexOf, names_at, names_over}
pub use Rattle.param_tables.specs.Ranges.{IsInRange, RangesAreTold, billion, is_whole, life_fault, minus_one, range_fault, unless, whole}
pub use Rattle.param_tables.specs.RatioPlaces.{AreAllPlaces, AreBlocks, AreGrouped, AreIndicesAt, AreKeptWith, ArePlacesOf, IsPartBetween, IsWithin, commodity_size, group_of, group_size, grouped_place, index_at_offset, is_given_nonzero, is_nonzero_value, offset_of, places_of, ratio_place, ratio_sizes, region_size, regrouped, technology_size}
pub use Rattle.param_tables.specs.Ratios.{AreMembersFor, IsRegion, IsTechnology, commodity, count_in, has_nonzero_mode, is_nonzero_in, is_ratio_nonzero, nonzero_indices, nonzero_modes, nonzero_technologies, positions_in, ratio_index, ratio_indices, ratio_param}
pub use Rattle.param_tables.specs.Refusals.{AtIndex, GivenBefore, Refusal, StorageMember, UnknownName, fault_at, first_refusal, is_given_among, names_members, param_refusals, storage, storage_refusals, value_fault, value_refusal, value_refusals}
pub use Rattle.param_tables.specs.SameData.{GiveTheSame}
pub use Rattle.param_tables.specs.SetRefusals.{IsSetFailDue, fault_in, first_set_refusal, member_refusals, only, refusal_after, set_refusals}
pub use Rattle.param_tables.specs.Stops.{IsStopDue}
pub use Rattle.param_tables.specs.Tables.{AreGiven, AreTablesFor, HaveShapes, IsFirstFault, IsTable, IsTableFor, IsTableOf, IsUsable, entries_of, fault_before, given_among, given_in, place_fault, table_value, value_else}
pub use Rattle.param_tables.specs.Told.{NamesCell, refusal_told}
pub use Rattle.param_tables.specs.View.{AreKept, data_by, default_by, facts_of, given_by}
pub use Rattle.param_tables.specs.declared.fault.CellFault.{CellFault}
pub use Rattle.param_tables.specs.declared.fault.CellFault.TheVariants.{Negative, NoValue, NotPositive, NotWhole, OutOfRange, WholeUnits}
pub use Rattle.param_tables.specs.declared.fault.Stop.{Stop}
pub use Rattle.param_tables.specs.declared.first_fault.PlaceFault.{PlaceFault}
pub use Rattle.param_tables.specs.declared.param_table.ParamTable.{ParamTable}
pub use Rattle.param_tables.specs.declared.ratio_sizes.RatioSizes.{RatioSizes}
pub use Rattle.param_tables.specs.declared.ratios.ActivityRatio.{ActivityRatio}
pub use Rattle.param_tables.specs.declared.ratios.ActivityRatio.TheVariants.{Emission, Input, Output}
pub use Rattle.param_tables.specs.declared.ratios.RatioIndex.{RatioIndex}
pub use Rattle.std.proofs.Common.{All, Bool, List, None, Option, Some, [], add-one, ap, ap₂, arith, cond, drop, false, get_or, inl, inr, length, map, nat_eq, negsuc, not, of_z, pos, refl, rules, set, subst, suc, sym, take, to_z, true, true≢false, zero, ℕ, ◌%◌, ◌&&◌, ◌*◌, ◌++◌, ◌+◌, ◌-◌, ◌/◌, ◌<◌, ◌^◌, ◌||◌, ◌∙◌, ◌∷◌, ◌≡◌, ◌≢◌, ◌≤◌}
pub use Rattle.std.proofs.lemmas.Bool.{cases_eq, cases_lt, eq-eqb, eqb-false, eqb-true, false≢true, le-leb, le-ltb, leb-true, lt-leb, lt-ltb, ltb-true, ne_eqb}
pub use Rattle.std.proofs.lemmas.List.{append-nil, append_assoc, at_drop_all, at_drop_more, drop_all, drop_more, get_or-append_right, get_or-map, get_or-replicate, get_or-set_other, get_or-set_same, get_or-take, get_or_append_left, get_or_default, get_or_past, length-append, length-map, length-set, length-take, length-take-le, map-append, map-id, nil_from_length, same_lists, set-set, take-append-drop, take_all, take_at, take_more}
pub use Rattle.std.proofs.lemmas.List.Concat.{flat_map-append, flat_map_single}
pub use Rattle.std.proofs.lemmas.List.Elements.{All-contains, Contains-get_or, filter-append, filter_map-append, filter_more}
pub use Rattle.std.proofs.lemmas.List.Filters.{dedup_is}
pub use Rattle.std.proofs.lemmas.List.Folds.{Any-from_list_any, find-append, flat_map-map, list_any_at, list_any_none}
pub use Rattle.std.proofs.lemmas.List.FromFn.{fill_by_all, filter_of_map_range_with_len_more, get_or-enumerate_from, get_or-map-range_with_len, get_or-range_with_len, length-enumerate_from, length-map-range_with_len, length-range_with_len, map-range_with_len_more, take-map-range_with_len}
pub use Rattle.std.proofs.lemmas.List.Kept.{Contains-dedup_nat, Contains-from_dedup, IsStrictlyIncreasing-filter}
pub use Rattle.std.proofs.lemmas.List.Sorted.{Contains-permutation, IsPermutation-sym, searched}
pub use Rattle.std.proofs.lemmas.Map.Keys.{IsDistinct-from_apart, IsStrictlyIncreasing-dedup, IsStrictlyIncreasing-from_sorted, apart_from_distinct, below_from_sorted, sorted_from_strictly_increasing}
pub use Rattle.std.proofs.lemmas.Option.{slice_get-get_or, slice_get_past}
pub use Rattle.std.proofs.lemmas.Result.{IfOk-from_err, IfOk-weaker, err_from_is_err_and}
pub use Rattle.std.proofs.lemmas.Slice.Eq.{bytes_eq-Decides}
pub use Rattle.std.proofs.lemmas.Slice.Zip.{AllZip-long, all_zipped_more, get_or-zip, length-zip}
pub use Rattle.std.specs.BTreeMap.{BTreeMap, get, keys, values}
pub use Rattle.std.specs.Cmp.Lexicographic.{pointwise, pointwise_decides}
pub use Rattle.std.specs.Int.{w128}
pub use Rattle.std.specs.List.{AllByRecursion, IsDistinct, between, cons_option, dedup, enumerate_from, filter_map, find, flat_map, list_any, position_or_len, range_with_len, slice_get, zip}
pub use Rattle.std.specs.List.Sorted.{IsBinarySearchResult, IsPermutation, IsSorted, IsStrictlyIncreasing}
pub use Rattle.std.specs.Map.{lookup}
pub use Rattle.std.specs.Option.{option_and_then, option_copied, option_map, option_or}
pub use Rattle.std.specs.Ordering.{int_eq, is_eq, is_lt, nat_cmp}
pub use Rattle.std.specs.Prelude.{Contains, Err, IfSome, IsSomeAnd, Ok, codes, filter, if◌then◌else◌, int_le, int_lt, is_some, nat_le, nat_lt, slice_index_or, ℤ, ◌<ℤ◌, ◌≤ℤ◌, ◌⊎◌}
pub use Rattle.std.specs.Str.{bytes_eq}
pub use Rattle.std.specs.declared.cmp.Ordering.TheVariants.{Equal, Greater, Less}
