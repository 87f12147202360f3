-- The names that most proofs here cite, passed on from one place. Declares nothing.
pub use Rattle.exact_num.proofs.GcdLaws.{gcd_of-dvd_left, gcd_of-dvd_right, gcd_of-one}
pub use Rattle.exact_num.proofs.Integers.{*ℤ-≤ℤ, *ℤ_cancel, *ℤ_nonnegative, *ℤ_pos, int_div-mul, nonzero_of_pos, ≤ℤ_cancel}
pub use Rattle.exact_num.proofs.RangeLaws.{back_in_range, is_ok-false}
pub use Rattle.exact_num.proofs.RationalLaws.{minus-is_plus, times-IsLowest, times-cross}
pub use Rattle.exact_num.proofs.Ring.{*ℤ-one, *ℤ-zero, *ℤ_comm, +ℤ-zero, neg_ℤ-*ℤ, one-*ℤ, products, ring, zero-*ℤ, zero-+ℤ}
pub use Rattle.exact_num.proofs.StepLaws.{all_fit-append, all_fit-cons, all_fit-nil, first_wide-append, first_wide-fits, first_wide-nil, first_wide-stops}
pub use Rattle.exact_num.specs.Formed.{common, difference_formed, product_formed, quotient_formed}
pub use Rattle.exact_num.specs.Range.{InRange, all_fit, in_range}
pub use Rattle.exact_num.specs.Rational.{Rational, minus, negated, plus, times, whole}
unfoldable pub use Rattle.exact_num.specs.Rational.{divided}
pub use Rattle.exact_num.specs.Steps.{Step, first_wide}
pub use Rattle.exact_num.specs.Value.{value_of}
pub use Rattle.exact_num.specs.declared.fraction.Frac.{Frac}
pub use Rattle.row_core.proofs.AscendingLaws.{Less-from_test, ascends-first, ascends-skip, both_passed, test-from_Less}
pub use Rattle.row_core.proofs.CombinedLaws.{and_false, between, rhs_fits, row_fits}
pub use Rattle.row_core.proofs.DivisionLaws.{factor_pos}
pub use Rattle.row_core.proofs.MeaningLaws.{Stands-times, row_sum-alone}
pub use Rattle.row_core.proofs.Orders.{row_name_cmp_exact, row_name_cmp_total, var_cmp_exact, var_cmp_total}
pub use Rattle.row_core.proofs.PlanValueLaws.{number_at-fits, worth}
pub use Rattle.row_core.proofs.SumLaws.{IsOver-agree, IsOver-lowest, IsOver-negated, IsOver-own, IsOver-plus, IsOver-times, IsOver-whole, IsOver-zero}
pub use Rattle.row_core.proofs.WritingSteps.{IsStop-more, item_fits, no_entry}
pub use Rattle.row_core.specs.Columns.{column_of, row_in_column}
pub use Rattle.row_core.specs.Combined.{Beside, all_right_only, beside, combined, combined_formed, combined_scale, def_factor, divisor_by, first_beside, left_only, less, lessened, right_only, row_factor, undivided_entries, undivided_right}
pub use Rattle.row_core.specs.Evaluated.{AreOver, sum_from, sum_from_formed, term_formed}
pub use Rattle.row_core.specs.Forms.{Form, form_of}
pub use Rattle.row_core.specs.Kinds.{kind_is_free}
pub use Rattle.row_core.specs.Numbers.{IsLowest, all_in_range, ascends, before_first, is_zero, keys_of, none_zero, numbers_of, variables_of}
pub use Rattle.row_core.specs.Order.{index_cmp, row_name_cmp, var_cmp}
pub use Rattle.row_core.specs.Plans.{or_zero, value_in, valued}
pub use Rattle.row_core.specs.RowLists.{names_of}
pub use Rattle.row_core.specs.Rows.{RowHolds, number_at, row_sum}
pub use Rattle.row_core.specs.Statements.{Stands, stands}
pub use Rattle.row_core.specs.Values.{IsOver, alone}
pub use Rattle.row_core.specs.declared.Row.{Row}
pub use Rattle.row_core.specs.declared.RowName.{RowName}
pub use Rattle.row_core.specs.declared.Sense.{Sense}
pub use Rattle.row_core.specs.declared.Sense.TheVariants.{Equal, Least, Most}
pub use Rattle.row_core.specs.declared.Var.{Var}
pub use Rattle.row_core.specs.declared.kind_numbers.TheConstants.{NEW_CAPACITY, RATE_OF_ACTIVITY, TOTAL_DISCOUNTED_COST, TRADE}
pub use Rattle.row_core.specs.declared.place.Place.{Place}
pub use Rattle.row_core.specs.declared.place.Place.TheVariants.{CostRow, Expand, LiftMultiplier}
pub use Rattle.row_core.specs.declared.place.Stopped.{Stopped}
pub use Rattle.row_core.specs.declared.place.Stopped.TheVariants.{Memory, Width}
pub use Rattle.std.proofs.Common.{Bool, Global, List, Vec, [], add-one, ap, ap₂, arith, cond, drop, false, filter, get_or, if◌then◌else◌, inl, inr, length, map, neg_ℤ, negsuc, not, of_z, pos, refl, rules, subst, suc, sym, take, to_z, true, zero, ℕ, ℤ, ◌&&◌, ◌*ℤ◌, ◌++◌, ◌+ℤ◌, ◌+◌, ◌-ℤ◌, ◌-◌, ◌<◌, ◌^◌, ◌||◌, ◌∙◌, ◌∷◌, ◌≡◌, ◌≢◌, ◌≤◌, ◌⊎◌}
pub use Rattle.std.proofs.lemmas.Bool.{eqb-true}
pub use Rattle.std.proofs.lemmas.Bool.Decides.{nat_tests}
pub use Rattle.std.proofs.lemmas.Int.{ints, to_z-of_z}
pub use Rattle.std.proofs.lemmas.List.{at_drop_all, drop_more, take_all, take_more}
pub use Rattle.std.proofs.lemmas.List.Concat.{flat_map-cons}
pub use Rattle.std.proofs.lemmas.List.Sorted.{Contains-permutation, IsPermutation-sym, searchable_from_sorted}
pub use Rattle.std.proofs.lemmas.Result.{IfOk-weaker, err_from_is_err_and}
pub use Rattle.std.specs.BTreeMap.{BTreeMap, get, insert_entry}
pub use Rattle.std.specs.Cmp.{IsEquivalence, IsTotalOrder}
pub use Rattle.std.specs.Cmp.Derive.{both_true}
pub use Rattle.std.specs.Int.{w128}
pub use Rattle.std.specs.List.{AllByRecursion, Contains, dedup, insert}
pub use Rattle.std.specs.List.Sorted.{IsNonDecreasingBy, IsPermutation, IsSorted, IsSortedBy}
unfoldable pub use Rattle.std.specs.List.Sorted.{IsStrictlySortedBy}
pub use Rattle.std.specs.Map.{lookup}
pub use Rattle.std.specs.Option.{option_or}
pub use Rattle.std.specs.Ordering.{eq_by_cmp, int_eq, is_eq, is_lt, match_ordering, nat_cmp, ordering_index, ordering_reverse, ordering_then}
pub use Rattle.std.specs.Prelude.{IfOk, IfSome, None, Option, Some, int_le, is_some, nat_lt, unsigned_abs, ⊤, ◌<ℤ◌, ◌==◌, ◌↔◌, ◌≤ℤ◌}
pub use Rattle.std.specs.declared.cmp.Ordering.{Ordering}
pub use Rattle.variable_elimination.specs.Cells.{AreEmpty, AreFollowed, HaveColumns, IsNextEmpty, cell_in, cells_at, is_given, items_of}
pub use Rattle.variable_elimination.specs.Certified.{AreNamedOver, AreSigned, CarriesBound, CarriesSum, IsKnown, KeepBound, KeepSum, ProvesBound, RefutesRows, bound_of, column_sum, weighted}
pub use Rattle.variable_elimination.specs.Columns.{AreChosen, AreColumns}
pub use Rattle.variable_elimination.specs.CostRows.{AllAreCosts, IsCostOf, IsCostReduced, IsCostRow}
pub use Rattle.variable_elimination.specs.Eliminations.{AreAmongReductions, IsPartOf, IsWhole}
pub use Rattle.variable_elimination.specs.Expansions.{IsExpansion, scale_value, scaled_of}
pub use Rattle.variable_elimination.specs.Kept.{AreReduced, form_entry, forms_in}
pub use Rattle.variable_elimination.specs.Left.{AreKnown, AvoidAll, are_known}
pub use Rattle.variable_elimination.specs.Lifting.{IsLifting, definition_by, place_by, right_by}
pub use Rattle.variable_elimination.specs.Lifts.{AllStand, CarriesDirection, CarriesPlan, KeepsOthers, MakesRight, right_times, right_zero}
pub use Rattle.variable_elimination.specs.Meaning.{AreMet, KeepSigns, KeepsSign, excess, only_raises}
pub use Rattle.variable_elimination.specs.Multiplying.{AreDone, AreScaling}
pub use Rattle.variable_elimination.specs.ReducedRows.{AreReductions, AreSoFar, AreThese, IsDropped, IsNextRow, IsReduction, Shape, scale_in, scale_worth, shape, shape_of, stays}
pub use Rattle.variable_elimination.specs.Reductions.{IsReduced, IsReducedBy, IsReducedOne, IsReducedOver, multiples_of}
pub use Rattle.variable_elimination.specs.SoFar.{HaveForms, HaveNone, IsFirst, IsPushed, IsSoFar}
pub use Rattle.variable_elimination.specs.Valued.{values_in}
pub use Rattle.written_method.specs.Certificates.{AreOverFrom, Bounds, HasSign, HaveSigns, IsWithin, Refutes, number_sum, right_sum}
pub use Rattle.written_method.specs.Definitions.{AreTriangular, Definition, IsDefinition, avoids, defined, definitions_of, is_among, others_of, own_of, rows_of}
pub use Rattle.written_method.specs.Eliminated.{ReducedRow, at_first, column_entries, cost_form, cost_row, cost_variable, cost_variables, definition_steps, expanded_all, has_entries, is_column, is_kept, minus_one_at, other_entries, placed, reduced_row, reduced_rows, row_steps, unscaled, with_cost_variable}
pub use Rattle.written_method.specs.Expanded.{Scaled, definition_among, expanded, expanded_formed, scaled_by, scaled_by_formed, without, without_all, without_all_formed, without_formed}
pub use Rattle.written_method.specs.Lifted.{lifted, lifted_formed, lifted_steps, lifted_value, no_right_side, right_side}
pub use Rattle.written_method.specs.Multiplied.{coefficient, defined_multipliers, defined_steps, multiplier_formed, multiplier_of, multiplier_steps, named_multipliers, scaled_multipliers, scaled_steps}
pub use Rattle.written_method.specs.Programs.{inequality_of, is_split, program_of}
pub use Rattle.written_method.specs.Ready.{AreAmong, IsAmong, IsReady, RowsAreAmong}
pub use Rattle.written_method.specs.SolvedFor.{other_sum, other_sum_formed, solved_for, solved_formed}
pub use Rattle.written_method.specs.declared.reduced.Reduced.{Reduced}
