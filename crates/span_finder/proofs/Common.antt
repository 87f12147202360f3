-- The names that most proofs here cite, passed on from one place. Declares nothing.
pub use Rattle.exact_solver.specs.MethodEnds.{HasNoBound, HasNoPlan, HasOptimum, IsPivotDue, IsWide, MethodEnd, end_seen, optimal_end, unbounded_end}
unfoldable pub use Rattle.exact_solver.specs.MethodEnds.{solved_end}
pub use Rattle.row_problem.proofs.Common.{*ℤ-one, *ℤ_comm, *ℤ_nonnegative, *ℤ_pos, AllStand, AreTriangular, AreVariablesOf, Bool, BoundsAll, CAA2, CAA4, Certified, Check, Column, Contains, Contains-from_Has, Cost, CostRow, Definition, Equal, Err, Expand, Form, Frac, Goal, Greater, Greatest, Has, Has-append_left, Has-filter, Has-from_Contains, Has-map, HaveNone, HaveRightSigns, IfErr, IfOk, InRange, IsComplete, IsDescentFor, IsFirst, IsOver, IsOver-multiplied, IsOver-one, IsOver-own, IsOver-plus, IsOver-ratio, IsOver-times, IsPlan, IsProblem, IsProgramOf, IsProvedFor, IsRepeatedBy, IsRight, IsStop, IsSumOver, IsSumOver-gathered, IsTrue, KeepSigns, Least, Less, LiftDirection, LiftMultiplier, LiftPlan, List, MeetsAll, Model, Most, Multipliers, NCC1, NCC2, NEW_CAPACITY, None, Ok, OnOk, One, Optimal, Option, Ordering, Place, RATE_OF_ACTIVITY, Rational, Reduced, Result, Row, RowContents, RowHolds, RowName, SPAN, SaysTheSame, Some, Stands, Step, Stopped, TOTAL_CAPACITY_ANNUAL, TOTAL_DISCOUNTED_COST, TRADE, Unbounded, Values, Var, Vec, [], absolute, all_fit-append, all_fit-nil, ap, append-nil, append_parts, ap₂, arith, ascends, at_drop_all, avoids, back_in_range, both_passed, by_test, contents_of, cost_of, cost_variable, cost_variables, defined, definition_steps, definitions_of, drop, drop_more, elimination_steps, entry_variables, err_from_is_err_and, expanded_all, false, filter, first_wide-append, flat_map, gathered, gathered_formed, gathered_formed_onto, gathered_onto, get_or, if◌then◌else◌, index_cmp, inl, inr, int_lt, ints, is_among, is_column, is_lt, is_ok, is_ok-false, is_zero, kept, keys_of, kind_is_free, length, length-append, length-map, made_row, map, map-append, map_parts, minus_one_at, model_cost, names_of, nat_lt, neg_ℤ, neg_ℤ-*ℤ, negsuc, not, number_at, of_z, one-*ℤ, only_raises, option_or, others_of, pair, pos, products, refl, ring, row_name_cmp, row_steps, rows_of, span_name, subst, sym, term_formed, to_z, true, unscaled, unsigned_abs, value_in, value_of, var_cmp, variables_of, w128, weight_of, whole, with_cost_variable, with_term, written_entries, written_formed, written_right, zero-*ℤ, ℕ, ℤ, ≤ℤ_cancel, ◌&&◌, ◌*ℤ◌, ◌++◌, ◌+ℤ◌, ◌+◌, ◌-◌, ◌<ℤ◌, ◌<◌, ◌==◌, ◌^◌, ◌||◌, ◌↔◌, ◌∙◌, ◌∷◌, ◌≡◌, ◌≤ℤ◌, ◌≤◌, ◌⊎◌}
unfoldable pub use Rattle.row_problem.proofs.Common.{all_fit, answer, answer_of, carried_direction, carried_multipliers, carried_plan, carrying_steps, difference_formed, direction_steps, divided, first_wide, gcd_of, gcd_within, in_range, lowest, minus, order_of, plan_steps, plus, product_formed, program_left, quotient_formed, run, sum_formed, times}
pub use Rattle.simplex_core.specs.declared.stops.Stop.TheVariants.{Budget, Trial, Width}
pub use Rattle.span_finder.specs.LimitRows.{CostsAtMost, HasLimitRow, IsLimitRow, cost_term, cost_terms, is_cost, limit_formed}
pub use Rattle.span_finder.specs.RoundedSpans.{IsRoundedSpan, LieWithin, measure_of}
pub use Rattle.span_finder.specs.RoundedTrials.{AreRoundedEnds, IsClose, IsEndNear, end_of}
pub use Rattle.span_finder.specs.Slacks.{slack_formed, slack_limit, slack_of}
pub use Rattle.span_finder.specs.SpanEnds.{EndsSo, IsBounded, IsNothing, IsPlainStop, IsRising, IsStopped, SpanEnd, Stops, StopsAt, greatest_end, least_end, plain_fail, span_seen, unless_stopped}
unfoldable pub use Rattle.span_finder.specs.SpanEnds.{both_trials, spanned}
pub use Rattle.span_finder.specs.Spans.{HasNearBest, HasPlan, IsHighEnd, IsNearBest, IsNearPlan, IsSpan}
pub use Rattle.span_finder.specs.Trials.{AreFound, IsCapacityOf, IsExtreme, IsHighFound, IsRise, IsTrial, NonePasses}
pub use Rattle.span_finder.specs.declared.found.Span.{Span}
pub use Rattle.span_finder.specs.declared.found.SpanFail.{SpanFail}
