-- The names that most proofs here cite, passed on from one place. Declares nothing.
pub use Rattle.conflict_sets.specs.Conflicts.{AreNeeded, AreRefuted, IsConflict, IsWholePlan, inequalities, is_member, is_other_member}
pub use Rattle.conflict_sets.specs.Pieces.{AreWithin, IsFinding, IsTriedOf, end_found, is_outside, is_taken, listed_by, selected, tests_of}
pub use Rattle.conflict_sets.specs.Searches.{IsSearched, SearchIs, all_needed, list_after, member_named, names_known, needed_after, needed_name, paired, walk_from}
pub use Rattle.conflict_sets.specs.Trials.{HasPlan, IsPivotDue, IsWide, StopsTrial, TrialEnd, carried_trial, rows_tried, rows_with}
unfoldable pub use Rattle.conflict_sets.specs.Trials.{trial_end, trial_program, tried_multipliers, tried_steps}
pub use Rattle.conflict_sets.specs.Walks.{Explanation, IsConflicting, IsFirstFail, IsStopped, IsTrialFail, Needed, Stops, every, explanation_seen, found, is_listed, is_other, listed_names, member_of, plan_of, still_needed}
unfoldable pub use Rattle.conflict_sets.specs.Walks.{explained, walk}
pub use Rattle.conflict_sets.specs.declared.conflict.Conflict.{Conflict}
pub use Rattle.conflict_sets.specs.declared.trial.Finding.{Finding}
pub use Rattle.conflict_sets.specs.declared.trial.Finding.TheVariants.{Plan, Refutation}
pub use Rattle.exact_solver.proofs.StepEnds.{of-part}
pub use Rattle.row_core.specs.declared.Sense.TheVariants.{Least}
pub use Rattle.row_problem.proofs.CarriedWords.{as_many, becomes_plan, becomes_refutation}
pub use Rattle.row_problem.proofs.Common.{*ℤ_cancel, AdmitsNone, AreAmongReductions, AreMet, AreMultipliersOver, AreOverSome, ArePosed, AreReductions, AreTriangular, AvoidAll, BecomesPlan, Bool, CAA3, CAA4, Contains, Contains-from_Has, CostRow, Definition, EBA11, Equal, Frac, Has, Has-filter, Has-from_Contains, Has-map, HasVariablesOf, Inequality, IsFoundPlan, IsFoundRefutation, IsOver, IsPartOf, IsPlan, IsPosed, IsPosedProblem, IsProblem, IsReady, IsReduction, IsRefutation, LinearProgram, List, MeetsAll, Most, Multipliers, NEW_CAPACITY, NoAnswer, None, Option, Outcome, RATE_OF_ACTIVITY, Rational, Reduced, ReducedRow, Refutes, Refutes-none, Row, RowContents, RowHolds, RowName, RowsAreAmong, Sense, Some, TCC1, TDC2, TOTAL_DISCOUNTED_COST, Values, Var, Vec, [], ap, append-nil, append_assoc, append_parts, ap₂, arith, ascends, ascends-skip, ascends-tail, at_drop_all, both_passed, both_true, by_test, contents_of, defined, definitions_of, drop, drop_all, drop_more, eqb-true, err_from_is_err_and, false, filter, filter_parts, first_wide-append, get_or, if◌then◌else◌, inequality_in, inequality_of, inl, inr, ints, is_column, is_eq, is_lt, is_unequal, is_zero, keys_of, length, length-map, lifted, lifted-others, lifted_meet, made_row, map, map-append, map_parts, model_cost, multiplier_steps, name_left, named_multipliers, names_of, negsuc, nonzero_of_pos, not, others_of, plan_cost, plan_met, plan_right, pos, program_of, reduced_hold, reduced_says, refl, right_side, row_name_cmp, row_name_cmp_total, rows_left, rows_of, scale_left, scaled_multipliers, solved, stop_of, subst, suc, sym, take, true, unsigned_abs, value_in, value_of, valued, var_cmp, whole, width_of, zero, zero-*ℤ, ℕ, ℤ, ◌&&◌, ◌*ℤ◌, ◌++◌, ◌+◌, ◌<ℤ◌, ◌<◌, ◌^◌, ◌||◌, ◌∙◌, ◌∷◌, ◌≡◌, ◌≢◌, ◌≤◌}
unfoldable pub use Rattle.row_problem.proofs.Common.{all_fit, answer, answer_of, carried_plan, difference_formed, divided, first_wide, gcd_of, gcd_within, in_range, lowest, minus, order_of, plan_steps, plus, product_formed, program_left, quotient_formed, run, sum_formed, times}
pub use Rattle.row_problem.proofs.CompletePlans.{definition_names, multiplied-has, plan-complete, scaled-has}
pub use Rattle.row_problem.proofs.OverLaws.{IsOverSome, some-over}
pub use Rattle.row_problem.proofs.SameLists.{filter-ascends, filter-names, not-again}
pub use Rattle.row_problem.specs.declared.problem.Problem.{Problem}
pub use Rattle.simplex_core.specs.Outcomes.{IsHalt, MeetAll, RefuteAll, outcome_seen}
pub use Rattle.simplex_core.specs.declared.stops.Stop.TheVariants.{Budget, Trial}
pub use Rattle.variable_elimination.proofs.RowNameLaws.{name_itself, same_name}
