-- The names that definitions and contracts cite most, here and in the crates above, passed on from one place: those of the crates below, and lists. Declares nothing.
pub use Rattle.std.specs.List.{fold, list_any, AllByRecursion}
pub use Rattle.std.specs.Ordering.{is_eq, is_lt, is_le}
unfoldable pub use Rattle.exact_num.specs.Formed.{difference_formed, product_formed, sum_formed}
pub use Rattle.exact_num.specs.Range.{InRange}
unfoldable pub use Rattle.exact_num.specs.Range.{all_fit, in_range}
pub use Rattle.exact_num.specs.Rational.{Rational, whole, signed_by, IsLowest, negated}
unfoldable pub use Rattle.exact_num.specs.Rational.{lowest, minus, order_of, times, plus}
pub use Rattle.exact_num.specs.Steps.{Step}
unfoldable pub use Rattle.exact_num.specs.Steps.{first_wide}
pub use Rattle.exact_num.specs.Value.{value_of}
pub use Rattle.exact_num.specs.declared.fraction.Frac.{Frac}
pub use Rattle.row_core.specs.Contents.{contents_of}
pub use Rattle.row_core.specs.CostLimits.{span_name}
pub use Rattle.row_core.specs.LookUps.{value_at}
pub use Rattle.row_core.specs.Numbers.{keys_of, ascends, is_zero, numbers_of, variables_of}
pub use Rattle.row_core.specs.Order.{row_name_cmp, var_cmp}
pub use Rattle.row_core.specs.Plans.{value_in, valued}
pub use Rattle.row_core.specs.RowLists.{entry_variables, names_of, AreVariablesOf}
pub use Rattle.row_core.specs.Rows.{number_at, RowHolds}
pub use Rattle.row_core.specs.Stops.{IsStop}
pub use Rattle.row_core.specs.declared.Row.{Row}
pub use Rattle.row_core.specs.declared.RowName.{RowName}
pub use Rattle.row_core.specs.declared.Sense.TheVariants.{Equal, Most}
pub use Rattle.row_core.specs.declared.Var.{Var}
pub use Rattle.row_core.specs.declared.cost_limit.TheConstants.{SPAN}
pub use Rattle.row_core.specs.declared.kind_numbers.TheConstants.{RATE_OF_ACTIVITY, NEW_CAPACITY, TRADE, MODEL_PERIOD_EMISSIONS, TOTAL_DISCOUNTED_COST}
pub use Rattle.row_core.specs.declared.place.Place.{Place}
pub use Rattle.row_core.specs.declared.place.Place.TheVariants.{LiftPlan, LiftDirection, Price}
pub use Rattle.row_core.specs.declared.place.Stopped.{Stopped}
pub use Rattle.written_method.specs.Choices.{rank_of}
pub use Rattle.written_method.specs.Definitions.{Definition, AreTriangular, defined, definitions_of, is_among, others_of, rows_of}
pub use Rattle.written_method.specs.Eliminated.{cost_variable, is_column, ReducedRow, cost_row, expanded_all, other_entries, reduced_rows, elimination_steps}
pub use Rattle.written_method.specs.FirstTableau.{as_most, width_of}
pub use Rattle.written_method.specs.Programs.{program_of, Inequality, LinearProgram, is_split, inequality_of}
pub use Rattle.written_method.specs.Ready.{IsPosed, IsReady}
pub use Rattle.written_method.specs.declared.reduced.Reduced.{Reduced}
pub use Rattle.certificate_checker.specs.Certificates.{AreMultipliersOver, Proves, Refutes, bound_of, AdmitsNone, CostsLess}
pub use Rattle.certificate_checker.specs.Costs.{model_cost, cost_of}
pub use Rattle.certificate_checker.specs.Denominators.{AreOverSome}
pub use Rattle.certificate_checker.specs.Gaps.{gap_condition, Within}
pub use Rattle.certificate_checker.specs.PlanChecks.{direction_conditions, plan_conditions, absolute}
pub use Rattle.certificate_checker.specs.Plans.{AllStand, AreValuesOver, HaveRightSigns, MeetsAll}
pub use Rattle.variable_elimination.specs.SoFar.{HaveNone, IsFirst}
pub use Rattle.certified_answers.specs.Answers.{IsComplete, IsNamed, IsProvedFor, AreNamedIn, IsProved}
pub use Rattle.certified_answers.specs.Costs.{sign_of, is_model, weight_of}
pub use Rattle.certified_answers.specs.Refusals.{IsWidthAt, passes}
pub use Rattle.certified_answers.specs.Worth.{multiplier_bound, plan_cost, IsClosed, IsBound, IsNear, IsPlan, IsRefutation, IsDescentFor}
pub use Rattle.certified_answers.specs.declared.answers.NoAnswer.{NoAnswer}
pub use Rattle.certified_answers.specs.declared.answers.NoAnswer.TheVariants.{Nothing, Budget, Width, Memory}
pub use Rattle.certified_answers.specs.declared.costs.Cost.{Cost}
pub use Rattle.certified_answers.specs.declared.costs.Cost.TheVariants.{Model, One}
pub use Rattle.certified_answers.specs.declared.costs.Goal.{Goal}
pub use Rattle.certified_answers.specs.declared.costs.Goal.TheVariants.{Least, Greatest}
pub use Rattle.row_problem.specs.Lists.{Values, Multipliers}
