-- The names that most proofs here cite, passed on from one place. Declares nothing.
pub use Rattle.command_answers.proofs.BookLists.{of-book}
pub use Rattle.command_answers.proofs.BookPlaces.{define-within, each-key, plan-named}
pub use Rattle.command_answers.proofs.BookProblems.{placed}
pub use Rattle.command_answers.proofs.CheckedRows.{sign-at, signs-each, vars-are}
pub use Rattle.command_answers.proofs.Common.{AllByRecursion, AllByRecursion-filter, AllByRecursion-map, AllByRecursion-weaker, AreRowsOf, Bool, Contains-from_Has, Data, Has, Has-from_Contains, HasNameWithin, IfOk-weaker, IsBook, IsBookOf, IsListedBook, IsRowOfSets, IsVariableOfSets, IsWithinSets, List, None, Option, Place, PlaceIsWithin, Rational, ReducedRow, Row, RowName, SetLists, Some, Step, Var, [], all-from, all-has, ap, append_assoc, ap₂, definers, drop, drop_more, elimination_steps, false, filter, first_wide, flat_map, get_or, if◌then◌else◌, inl, inr, instances, is_column, keys_of, length, map, not, pos, refl, subst, suc, sym, true, variable_of, ℕ, ℤ, ⊤, ◌*ℤ◌, ◌++◌, ◌+◌, ◌<◌, ◌||◌, ◌∙◌, ◌∷◌, ◌≡◌, ◌⊎◌}
pub use Rattle.command_answers.proofs.ListLines.{each-at, lines-next}
pub use Rattle.command_answers.proofs.ListedBooks.{rows-named, vars-named}
pub use Rattle.command_answers.proofs.MadeBooks.{large-due, program-due, within-due}
pub use Rattle.command_answers.specs.PlacesWithin.{StopIsWithin}
pub use Rattle.command_words.specs.declared.command.SolveMethod.{SolveMethod}
pub use Rattle.command_words.specs.declared.command.SolveMethod.TheVariants.{Exact, Rounded}
pub use Rattle.conflict_sets.proofs.RowLists.{inequality-row}
pub use Rattle.conflict_sets.specs.Conflicts.{AdmitsSome, AreNeeded, IsConflict, inequalities, is_member}
pub use Rattle.conflict_sets.specs.Pieces.{is_taken}
pub use Rattle.conflict_sets.specs.RoundedStops.{IsStopOfSome, StopsSome}
pub use Rattle.conflict_sets.specs.Trials.{HasNone, HasPlan, IsPivotDue, IsWide, TrialEnd, carried_trial, plan_checks, rows_tried, rows_with, tried_multipliers, unless_stopped}
unfoldable pub use Rattle.conflict_sets.specs.Trials.{trial_end, trial_program, tried_steps}
pub use Rattle.conflict_sets.specs.Walks.{Explanation, IsFeasible, IsStopped, Needed, Stops, every, explanation, explanation_seen, is_listed, is_other, listed_names}
unfoldable pub use Rattle.conflict_sets.specs.Walks.{explained, walk}
pub use Rattle.conflict_sets.specs.declared.conflict.Conflict.{Conflict}
pub use Rattle.exact_num.specs.declared.fraction.Frac.{Frac}
pub use Rattle.explain_command.specs.Explain.{DueForMethod, DueForRows, Finds, HasConflict, HasFeasible, IsCauseOf}
pub use Rattle.explain_command.specs.NamedConflicts.{FeasibleWith, HavePlans, IsNamedConflict, MeetsAsked, SomeIsFeasible, is_asked}
pub use Rattle.explain_command.specs.Texts.{all_plan_lines, member_line, plan_lines}
pub use Rattle.row_book.proofs.Lists.{AllByRecursion-from_map}
pub use Rattle.row_core.proofs.Members.{Has-map, map_parts}
pub use Rattle.row_core.specs.Plans.{value_in, valued}
pub use Rattle.row_problem.specs.Sizes.{is_unequal}
pub use Rattle.simplex_core.specs.declared.stops.Stop.{Stop}
pub use Rattle.simplex_core.specs.declared.stops.Stop.TheVariants.{Budget, Trial, Width}
pub use Rattle.std.proofs.Common.{Err, Ok, Result, append-nil}
pub use Rattle.std.proofs.lemmas.List.{drop_all}
pub use Rattle.std.specs.Prelude.{IfErr, IfNone, IfOk, IfSome}
