-- The names that most proofs here cite, passed on from one place. Declares nothing.
pub use Rattle.certified_answers.specs.declared.answers.Certified.{Certified}
pub use Rattle.command_answers.proofs.BookPlaces.{define-within, plan-named}
pub use Rattle.command_answers.proofs.CheckedRows.{costs-same, feasible-from_rows, rows-from_feasible, vars-are}
pub use Rattle.command_answers.proofs.Common.{AllByRecursion, AllByRecursion-append, AllByRecursion-weaker, Data, HasNameWithin, HasNoBound, HasNoPlan, HasOptimum, IfOk-weaker, IsBookOf, IsListedBook, IsRowOfSets, IsVariableOfSets, IsWide, IsWithinSets, List, MethodEnd, None, Option, Place, Rational, Row, SetLists, Some, Var, [], ap, ap₂, arith, definer, definers, elimination_steps, first_wide, inl, inr, map, pos, refl, solved_end, subst, sym, var_cmp, ℕ, ℤ, ⊤, ◌++◌, ◌<◌, ◌∙◌, ◌∷◌, ◌≡◌}
pub use Rattle.command_answers.proofs.ListedBooks.{rows-named, vars-named}
pub use Rattle.command_answers.proofs.MadeBooks.{large-due, program-due, within-due}
pub use Rattle.command_answers.proofs.SolvedRows.{are, near, optimum, refuted, unbounded}
pub use Rattle.command_answers.specs.BookMethods.{IsFoundBy, method_end}
pub use Rattle.command_answers.specs.PlacesWithin.{StopKeeps}
pub use Rattle.command_words.specs.declared.command.SolveMethod.{SolveMethod}
pub use Rattle.exact_num.specs.Rational.{IsLowest, pair, whole}
unfoldable pub use Rattle.exact_num.specs.Rational.{lowest}
pub use Rattle.exact_num.specs.Value.{value_of}
pub use Rattle.exact_num.specs.declared.fraction.Frac.{Frac}
pub use Rattle.exact_solver.specs.MethodEnds.{IsPivotDue, IsStopOf, end_seen}
pub use Rattle.model_sets.specs.Members.{no_members}
pub use Rattle.result_tables.specs.Reports.{end_line, unbounded_text}
pub use Rattle.row_core.specs.CostLimits.{span_name}
pub use Rattle.row_core.specs.Plans.{value_in}
pub use Rattle.simplex_core.specs.declared.stops.Stop.TheVariants.{Budget, Trial, Width}
pub use Rattle.span_command.specs.NearBest.{AreNearBest, HasNoHighEnd, IsHighEnd, IsLowEnd, IsNearHighEnd, IsNearLowEnd, NearBest}
pub use Rattle.span_command.specs.Outcomes.{IsToldSpan, IsToldStop, TellsFound, TellsNear, TellsSolution, span_lines}
pub use Rattle.span_command.specs.Span.{DueBy, DueForEnd, DueForFound, DueForMethod, DueForRows, Finds, HasLeastCost, built, gaps_of}
pub use Rattle.span_command.specs.SpanTexts.{bounded_text, chosen_table, head_text, limited_line, limited_place, rising_text, rounded_text}
pub use Rattle.span_command.specs.declared.wanted.Wanted.{Wanted}
pub use Rattle.span_finder.specs.Slacks.{slack_formed, slack_limit}
pub use Rattle.span_finder.specs.SpanEnds.{EndsSo, IsStopped, SpanEnd, Stops, greatest_end, least_end, unless_stopped}
unfoldable pub use Rattle.span_finder.specs.SpanEnds.{both_trials, spanned}
pub use Rattle.span_finder.specs.Spans.{HaveAtLeast, HaveAtMost, IsEndless, IsNearBest, IsNearPlan}
pub use Rattle.std.proofs.Common.{Err, Ok, Result, codes, negsuc, ◌≤◌}
pub use Rattle.std.proofs.lemmas.Result.{on_ok_weaker}
pub use Rattle.std.specs.Prelude.{IfSome, OnOk, false, if◌then◌else◌, is_ok, true, ◌<ℤ◌}
pub use Rattle.command_answers.specs.declared.status.Status.{Status}
