-- The names that most proofs here cite, passed on from one place. Declares nothing.
pub use Rattle.certificate_checker.specs.Certificates.{AdmitsNone, BoundsAll, CostsLess}
pub use Rattle.certificate_checker.specs.Costs.{cost_of, model_cost}
pub use Rattle.certified_answers.specs.Answers.{AreNamedIn}
pub use Rattle.certified_answers.specs.Worth.{IsBound, IsClosed, IsDescent, IsNear, IsPlan, IsRefutation, multiplier_bound, plan_cost}
pub use Rattle.certified_answers.specs.declared.costs.Cost.TheVariants.{Model, One}
pub use Rattle.command_answers.specs.Accepted.{Accepted, SaysData, Source, built_of, changed_by, plain, source_of}
pub use Rattle.command_answers.specs.CheckedPlans.{AreFeasible, BoundsFeasible, IsBookOf, IsListedBook, NoneIsFeasible}
pub use Rattle.command_answers.specs.Definers.{definer, definers}
pub use Rattle.command_answers.specs.Limits.{IsWithinLimits, PassesLimits}
pub use Rattle.command_answers.specs.MadeBooks.{DueBySize, DueForProgram, IsMadeBook}
pub use Rattle.command_answers.specs.PlacesWithin.{IsRowOfSets, IsVariableOfSets, PlaceIsWithin, PlaceKeeps}
pub use Rattle.command_answers.specs.RefusalLines.{data_line, no_such_line, set_line, text_line}
pub use Rattle.command_answers.specs.declared.status.Status.{Status}
unfoldable pub use Rattle.exact_num.specs.Rational.{minus}
pub use Rattle.exact_num.specs.Steps.{Step}
unfoldable pub use Rattle.exact_num.specs.Steps.{first_wide}
pub use Rattle.exact_solver.specs.MethodEnds.{HasNoBound, HasNoPlan, HasOptimum, IsWide, MethodEnd, carried_end, closing_checks, optimal_end, refutation_checks, unbounded_end, unless_wide}
unfoldable pub use Rattle.exact_solver.specs.MethodEnds.{method_end, solved_end}
pub use Rattle.mathprog_data.specs.BlocksView.{blocks_told}
pub use Rattle.mathprog_data.specs.Meaning.{Blocks, IsLoose, Means, blocks_of}
unfoldable pub use Rattle.mathprog_data.specs.NumberReading.{reading}
pub use Rattle.mathprog_data.specs.Verdicts.{FaultAt, Says}
pub use Rattle.model_sets.specs.Members.{index_of}
pub use Rattle.model_sets.specs.Names.{set_number, set_word}
pub use Rattle.model_sets.specs.Params.{param_number}
pub use Rattle.named_equations.proofs.Common.{Feasible, MeetsEach, all_variables, codes, cost, filter, param_word, subscript_sets, ◌↔◌}
pub use Rattle.param_tables.specs.BlockData.{data_told, set_lists}
pub use Rattle.param_tables.specs.Canonical.{canonical}
unfoldable pub use Rattle.param_tables.specs.Canonical.{defaults_in_order, given_in_order}
pub use Rattle.param_tables.specs.Positions.{ArePositions, names_at, names_over}
pub use Rattle.param_tables.specs.Refusals.{AtIndex, GivenBefore, StorageMember, UnknownName, first_refusal}
pub use Rattle.param_tables.specs.SetRefusals.{fault_in, first_set_refusal, member_refusals, only, refusal_after}
pub use Rattle.plan_files.specs.Listed.{HasUnusedZero, IsListedRow, IsListedVariable, name_of_row}
pub use Rattle.row_book.proofs.Common.{AllByRecursion, AreRowsOf, Book, Bool, CanBeMade, Contains, Contains-from_Has, Data, Has, Has-flat_map, Has-from_Contains, HasNameWithin, HasStopped, IfOk-weaker, IsBook, IsEquation, IsKind, IsWithinSets, List, None, Option, Place, Rational, Row, RowName, SetLists, Some, Var, [], all_fit, ap, append_assoc, ap₂, arith, ascends, drop, drop_more, entry_variables, enumerate_from, eq-eqb, eqb-true, equation_numbers, exists, false, flat_map, get_or, inl, inr, instances, ints, is_index, is_one_of, is_value_at, kind_is_free, length, length-take-le, list_all, map, map-append, members, names_of, nat_eq, nat_le, neg_ℤ, new_capacity, not, number_at, or_cases, pos, refl, subscripts_of, subscripts_of_kind, subst, suc, sym, take, trade, true, var_cmp, var_cmp_exact, var_cmp_total, variable, variable_of, variables_of, zero, ℕ, ℤ, ⊤, ◌&&◌, ◌*ℤ◌, ◌*◌, ◌++◌, ◌+◌, ◌<◌, ◌^◌, ◌||◌, ◌∙◌, ◌∷◌, ◌≡◌, ◌≢◌, ◌⊎◌}
pub use Rattle.row_book.proofs.Definers.{chosen-some, exists-within}
pub use Rattle.row_book.proofs.Lists.{AllByRecursion-append, AllByRecursion-filter, AllByRecursion-map, AllByRecursion-weaker, all-from, all-has}
pub use Rattle.row_core.specs.Numbers.{keys_of}
pub use Rattle.row_core.specs.declared.place.Place.TheVariants.{LiftDirection, LiftPlan, SumCost}
pub use Rattle.std.proofs.Common.{if◌then◌else◌, ltb, ◌-ℤ◌, ◌<ℤ◌}
pub use Rattle.std.proofs.lemmas.Bool.{cases_Bool, false_from_ne_true, le-ltb, leb-true, lt-ltb, ltb-false, ltb-true, or_from, or_left, or_parts, or_right}
pub use Rattle.std.proofs.lemmas.List.{get_or_default, take_more}
pub use Rattle.std.proofs.lemmas.Result.{MatchResult-at_err, MatchResult-at_ok, MatchResult-weaker}
unfoldable pub use Rattle.std.specs.Fmt.{digits}
pub use Rattle.std.specs.List.{join_with_byte}
pub use Rattle.written_method.specs.Definitions.{AreTriangular, Definition, avoids, defined, definitions_of, is_among, others_of, rows_of}
pub use Rattle.written_method.specs.Eliminated.{ReducedRow, cost_variable, definition_steps, elimination_steps, expanded_all, is_column, is_kept, reduced_row, row_steps, unscaled}
