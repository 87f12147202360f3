-- The names that most proofs cite, here and in the crates above, passed on from one place. Declares nothing.
pub use Rattle.std.specs.Cmp.Derive.{both_true}
pub use Rattle.std.specs.Global.{Vec}
pub use Rattle.std.specs.Int.{w128}
pub use Rattle.std.specs.Option.{option_or}
pub use Rattle.std.specs.declared.cmp.Ordering.{Ordering}
pub use Rattle.std.specs.declared.cmp.Ordering.TheVariants.{Less, Greater}
pub use Rattle.std.proofs.Common.{◌≡◌, pos, true, List, refl, ap, ◌∙◌, subst, Option, ℕ, suc, ◌<◌, ℤ, neg_ℤ, ◌+ℤ◌, ◌*ℤ◌, Bool, false, [], ◌∷◌, inl, inr, length, map, filter, sym, arith, ◌<ℤ◌, ◌≤ℤ◌, Result, Ok, Err, IfOk, Some, if◌then◌else◌, is_eq, ◌⊎◌, None, not, ◌&&◌, ◌||◌, ap₂, ◌==◌, nat_lt, negsuc, ◌*◌, zero, unsigned_abs, ◌≢◌, ◌-ℤ◌, ◌+◌, cond, IfErr, OnOk, ◌≤◌, take, ◌-◌, ◌^◌, ◌++◌, is_none, replicate, slice_set, get_or, drop, fold, to_z, of_z, set, zero-add, IsTrue, slice_index_or, append-nil, rules, int_lt, Contains, append_assoc, flat_map, int_le, int_eq, is_lt, IfSome, ◌↔◌, is_ok}
pub use Rattle.std.proofs.lemmas.Bool.{eqb-true}
pub use Rattle.std.proofs.lemmas.Bool.Decides.{nat_tests}
pub use Rattle.std.proofs.lemmas.Int.{ints, to_z-of_z, to_z_pos}
pub use Rattle.std.proofs.lemmas.List.{length-map, map-set, set_past, drop_all, drop_more, length-drop, drop-set-lt, length-set, length-take-le, map-append, take-append-le, take_all, take_more_set, length-append, at_drop_all, get_or_default, get_or-map}
pub use Rattle.std.proofs.lemmas.Result.{err_from_is_err_and}
pub use Rattle.row_problem.specs.Prelude.{Values, Multipliers, InRange, Row, Var, ascends, numbers_of, variables_of, keys_of, is_zero, var_cmp, row_name_cmp, LinearProgram, inequality_of, is_split, program_of, Inequality, IsPosed, IsReady, Cost, Model, One, Least, Greatest, Rational, whole, IsLowest, value_of, Frac, RowName, Equal, Most, Stopped, TRADE, RATE_OF_ACTIVITY, NEW_CAPACITY, TOTAL_DISCOUNTED_COST, MODEL_PERIOD_EMISSIONS, value_at, value_in, valued, number_at, RowHolds, Reduced, defined, definitions_of, is_among, Definition, others_of, rows_of, AreTriangular, is_column, expanded_all, reduced_rows, cost_variable, ReducedRow, elimination_steps, cost_of, model_cost, is_model, weight_of, sign_of, names_of, AreVariablesOf, entry_variables, AreNamedIn, IsProved, IsComplete, IsProvedFor, Goal, AreMultipliersOver, bound_of, AdmitsNone, Refutes, Proves, AreOverSome, Step, Place, width_of, as_most, IsFirst, HaveNone, LiftDirection, LiftPlan, Price, Within, gap_condition, Budget, Width, Nothing, Memory, NoAnswer, IsWidthAt, passes, IsClosed, IsDescentFor, IsPlan, multiplier_bound, plan_cost, IsRefutation, IsBound, direction_conditions, plan_conditions, absolute, AllStand, MeetsAll, AreValuesOver, HaveRightSigns, contents_of, SPAN, span_name, IsStop}
unfoldable pub use Rattle.row_problem.specs.Prelude.{all_fit, in_range, times, minus, lowest, order_of, plus, first_wide, difference_formed, product_formed, sum_formed}
unfoldable pub use Rattle.exact_num.specs.Formed.{quotient_formed}
unfoldable pub use Rattle.exact_num.specs.Gcd.{gcd_of, gcd_within}
pub use Rattle.exact_num.specs.Rational.{pair}
unfoldable pub use Rattle.exact_num.specs.Rational.{divided}
pub use Rattle.exact_num.proofs.Integers.{*ℤ_cancel, *ℤ_nonnegative, nonzero_of_pos, ≤ℤ_cancel, *ℤ_pos, pos-unsigned_abs, <ℤ_cancel}
pub use Rattle.exact_num.proofs.RangeLaws.{back_in_range, is_ok-false}
pub use Rattle.exact_num.proofs.Ring.{*ℤ-one, *ℤ-zero, *ℤ_comm, ring, zero-*ℤ, neg_ℤ-*ℤ, one-*ℤ, products}
pub use Rattle.exact_num.proofs.StepLaws.{first_wide-append, all_fit-append, all_fit-nil}
pub use Rattle.row_core.specs.Contents.{RowContents}
pub use Rattle.row_core.specs.Evaluated.{AreOver, evaluated, evaluated_formed}
pub use Rattle.row_core.specs.Forms.{Form}
pub use Rattle.row_core.specs.Kinds.{kind_is_free}
pub use Rattle.row_core.specs.Numbers.{none_zero, before_first}
pub use Rattle.row_core.specs.Order.{index_cmp}
pub use Rattle.row_core.specs.Plans.{or_zero}
pub use Rattle.row_core.specs.Rows.{row_sum}
pub use Rattle.row_core.specs.Statements.{Stands, stands}
pub use Rattle.row_core.specs.Terms.{gathered, gathered_onto, with_term, gathered_formed, gathered_formed_onto, term_formed}
pub use Rattle.row_core.specs.Values.{IsOver, alone, IsSumOver, SaysTheSame}
pub use Rattle.row_core.specs.Written.{written_entries, written_right, kept, written_formed}
pub use Rattle.row_core.specs.declared.Sense.{Sense}
pub use Rattle.row_core.specs.declared.equation_numbers.TheConstants.{CAA2, CAA4, CAA3, EBA11, TCC1, TDC2, E9, NCC1, NCC2}
pub use Rattle.row_core.specs.declared.kind_numbers.TheConstants.{ACCUMULATED_NEW_CAPACITY, TOTAL_CAPACITY_ANNUAL, ANNUAL_EMISSIONS}
pub use Rattle.row_core.specs.declared.place.Place.TheVariants.{Check, Column, LiftMultiplier, SumGap, CostRow, Expand}
pub use Rattle.row_core.proofs.AscendingLaws.{ascends-tail, both_passed, ascends-first, test-from_Less, ascends-skip}
pub use Rattle.row_core.proofs.CombinedLaws.{row_fits, rhs_fits}
pub use Rattle.row_core.proofs.Members.{Has-from_Contains, Has, Contains-from_Has, Has-flat_map, filter_parts, flat_map_parts, Has-filter, Has-map, map_parts, Has-append_left, Has-append_right, append_parts}
pub use Rattle.row_core.proofs.Orders.{var_cmp_exact, var_cmp_total, row_name_cmp_exact, row_name_cmp_total}
pub use Rattle.row_core.proofs.SumLaws.{IsOver-agree, IsOver-multiplied, IsOver-own, IsOver-times, IsOver-one, IsSumOver-gathered, IsOver-plus, IsOver-ratio}
pub use Rattle.row_core.proofs.WritingSteps.{drop_at, entries_fit-at, no_entry}
pub use Rattle.written_method.specs.Certificates.{AreOverFrom, Meets, ValuesAreOver, right_sum}
pub use Rattle.written_method.specs.Definitions.{avoids, own_of}
pub use Rattle.written_method.specs.Eliminated.{is_kept, reduced_row, cost_variables, placed, with_cost_variable, has_entries, column_entries, definition_steps, minus_one_at, row_steps, unscaled}
pub use Rattle.written_method.specs.FirstTableau.{first_state}
pub use Rattle.written_method.specs.Lifted.{lifted, lifted_value, no_right_side, right_side}
pub use Rattle.written_method.specs.Multiplied.{defined_multipliers, multiplier_of, scaled_multipliers, multiplier_steps, named_multipliers}
pub use Rattle.written_method.specs.Ready.{AreAmong, IsAmong, ArePosed, RowsAreAmong}
pub use Rattle.written_method.specs.Runs.{Answer, Ended, RanOut, End, Infeasible, PivotDue}
unfoldable pub use Rattle.written_method.specs.Runs.{answer, answer_of, run}
pub use Rattle.written_method.specs.Solved.{IsInfeasible, IsOptimal, IsUnbounded, checked_end, direction_of, end_steps, optimal_multipliers, outcome_of, refuting_multipliers, solved, values_of, IsOutOfPivots, IsTooWide, Outcome}
pub use Rattle.written_method.proofs.MadeRows.{made_row}
pub use Rattle.certificate_checker.specs.Certificates.{AreSigned, AreWithin, IsWithin, BoundsAll}
pub use Rattle.certificate_checker.specs.Conditions.{steps, AllPass, Condition, first_failing, formed_at}
pub use Rattle.certificate_checker.specs.Costs.{no_cost}
pub use Rattle.certificate_checker.specs.MultiplierChecks.{bound_conditions}
pub use Rattle.certificate_checker.specs.Plans.{IsRight}
pub use Rattle.certificate_checker.specs.Sums.{sum_over, HasVariablesOf, column_sum, weighted}
pub use Rattle.certificate_checker.proofs.DualityLaws.{Refutes-none, weak_duality, weighted-right}
pub use Rattle.variable_elimination.specs.Columns.{AreChosen, AreColumns}
pub use Rattle.variable_elimination.specs.Eliminations.{IsPartOf, IsWhole, AreAmongReductions}
pub use Rattle.variable_elimination.specs.Left.{AvoidAll, AreKnown, are_known, IsWithout}
pub use Rattle.variable_elimination.specs.Meaning.{AreMet, excess, KeepSigns, only_raises}
pub use Rattle.variable_elimination.specs.ReducedRows.{AreReductions, shape, shape_of, stays, AreThese, Shape, scale_in, scale_worth, IsReduction}
pub use Rattle.variable_elimination.proofs.LiftLaws.{neither, alike, met_by_some, row_sum-avoids, row_sum-times, at_most, product_down}
pub use Rattle.variable_elimination.proofs.LiftedLaws.{direction_met, lifted-others, lifted_meet, plan_met, plan_right, reduced_hold}
pub use Rattle.variable_elimination.proofs.ReductionLaws.{IsReduced-met, reduced_says}
pub use Rattle.variable_elimination.proofs.VariableLaws.{turned, itself}
pub use Rattle.certified_answers.specs.Answers.{IsDescentAt, IsOptimumFor, IsProvedWithin}
pub use Rattle.certified_answers.specs.Found.{IsFoundPlan, IsFoundRefutation, IsFoundDescentFor, IsFoundOptimumFor}
pub use Rattle.certified_answers.specs.Refusals.{stop_of, IsRefused}
pub use Rattle.certified_answers.specs.Worth.{IsBoundFor}
pub use Rattle.certified_answers.specs.declared.answers.Certified.{Certified}
pub use Rattle.certified_answers.specs.declared.answers.Certified.TheVariants.{Optimal, Unbounded}
pub use Rattle.row_problem.specs.CarriedBack.{BecomesPlan, BecomesDirection, BecomesProof, BecomesRefutation}
pub use Rattle.row_problem.specs.Problems.{IsProblem, IsRepeatedBy}
pub use Rattle.row_problem.specs.Programs.{aim_entries, name_left, rows_left, scale_left, cost_entries_left, cost_own_left, cost_right_left, cost_left, kept_scale, inequality_in}
unfoldable pub use Rattle.row_problem.specs.Programs.{program_left, carried_direction, carried_multipliers, carried_plan, carrying_steps, direction_steps, plan_steps}
pub use Rattle.row_problem.specs.ProgramsOf.{MayAim, IsProgramOf, IsPosedProblem}
pub use Rattle.row_problem.specs.Sizes.{column_count, columns_at, inequality_count, is_unequal}
pub use Rattle.row_problem.specs.declared.problem.Problem.{Problem}
pub use Rattle.row_problem.proofs.Tests.{by_test}
