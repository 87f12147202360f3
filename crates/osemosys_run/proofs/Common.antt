-- The names that most proofs here cite, passed on from one place. Declares nothing.
pub use Rattle.certificate_checker.proofs.MultiplierMeaning.{bound-over, proves_from}
pub use Rattle.check_command.proofs.AcceptedProofs.{ProofLaws, descent-accepted, optimum-accepted, refutation-accepted}
pub use Rattle.check_command.proofs.Common.{AllByRecursion, AllPass, AreFeasible, AreMultipliers, AreRowsOf, Bool, BoundsFeasible, Condition, Data, Descent, Done, DueForMultiplierFile, DueForPlan, DueForProofFile, DueForProofTold, Err, Fields, HasWorth, IfOk-weaker, IsListedBook, IsMultiplierFault, IsPlan, IsPlanFault, IsProof, IsProofFault, List, MatchResult, None, Ok, Optimum, Option, Place, Proof, Rational, Reason, Refutation, Result, Row, RowName, SetLists, Some, Status, TellsMade, Var, [], all_variables, ap, ap₂, check_conditions, codes, cost_entries, false, filter, first_failing, flat_map, if◌then◌else◌, inl, inr, instances, map, model_cost, multiplier_bound, plan_cost, pos, reason_of, records_of, refl, row_name_cmp, same_Some, steps, subst, sym, true, value_in, var_cmp, whole, ℕ, ℤ, ◌++◌, ◌∙◌, ◌∷◌, ◌≡◌, ◌≢◌, ◌⊎◌}
pub use Rattle.check_command.specs.AcceptedProofs.{TellsProof}
pub use Rattle.check_command.specs.Check.{DueForCheck, DueForPlanFile, IsRejected, TellsMultipliers}
pub use Rattle.check_command.specs.CheckProof.{DueForProof}
pub use Rattle.command_answers.specs.Accepted.{Accepted, Source, most_bytes, plain, source_of}
pub use Rattle.command_answers.specs.BookFails.{TellsFail}
pub use Rattle.command_answers.specs.DueForText.{DueForText}
pub use Rattle.command_answers.specs.Lines.{too_long_line}
pub use Rattle.command_answers.specs.MadeBooks.{DueBySize, HasNoRows, IsMadeBook}
pub use Rattle.command_answers.specs.NotAccepted.{DueWhereNotAccepted}
pub use Rattle.command_answers.specs.ShownProofs.{DueForShown, DueOverRows}
pub use Rattle.command_answers.specs.declared.answer.Answer.{Answer}
pub use Rattle.command_answers.specs.declared.status.Refusal.TheVariants.{StartFile}
pub use Rattle.command_answers.specs.declared.status.Status.TheVariants.{Infeasible, Memory, ReadFault, Rejected, Unbounded, Unguessed, Words, WriteFault}
pub use Rattle.command_words.specs.Commands.{question_of, request_of, request_of_result}
pub use Rattle.command_words.specs.Words.{Check, CheckProof, Compare, Curve, Explain, Make, Mps, Page, Question, Reduce, Request, Solve, SolveFrom, Span, Table, Warn, asked, names_in, names_of}
pub use Rattle.command_words.specs.declared.command.Command.{Command}
pub use Rattle.command_words.specs.declared.command.CompareShow.{CompareShow}
pub use Rattle.command_words.specs.declared.command.MakeShow.{MakeShow}
pub use Rattle.command_words.specs.declared.fault.WordFault.{WordFault}
pub use Rattle.compare_command.specs.Compare.{DueOfCheck, IsJudged, IsRefused}
pub use Rattle.compare_command.specs.Compared.{AreTablesFor, ComparesProofs, IsComparison, IsOf, IsScenario, Judged, Shows, Written, files_line}
pub use Rattle.compare_command.specs.declared.scenarios.Which.{Which}
pub use Rattle.compare_command.specs.declared.scenarios.Which.TheVariants.{First, Second}
pub use Rattle.curve_command.specs.Curve.{DueForCurve, DueForLimits, limits_in}
unfoldable pub use Rattle.exact_num.specs.Rational.{divided}
pub use Rattle.io_edges.proofs.OutputLaws.{output-stays, took-both, took-nothing, took-same}
pub use Rattle.io_edges.specs.Count.{Rose}
pub use Rattle.io_edges.specs.Edges.{Lacks}
pub use Rattle.io_edges.specs.Outputs.{Output, Took, TookPrefix, output}
pub use Rattle.mathprog_data.specs.Meaning.{Blocks}
pub use Rattle.mathprog_data.specs.Pieces.{PieceState, StandsFor}
pub use Rattle.model_sets.specs.Members.{empty_set, index_of, is_without_members}
pub use Rattle.model_sets.specs.declared.set_numbers.TheConstants.{EMISSION, REGION, TECHNOLOGY, YEAR}
pub use Rattle.mps_writer.specs.MpsText.{IsNamedRow, IsNamedVariable, line, rows_text}
pub use Rattle.osemosys_run.specs.Causes.{Caused, CausedByRequest, IsAnswered, IsReplyFor, IsStopped, TellsEnd}
pub use Rattle.osemosys_run.specs.Compared.{CheckedBy, DueForCompared, HasLines, IsPromisedDifference}
pub use Rattle.osemosys_run.specs.Complete.{AreInGap, AreThere, CanBeAccepted, CanBeDone, CanBeDrawn, CanBeExplained, CanBeSolved, CanBeSpanned, CanBeTried, CanBeWritten, Completes, IsEndOf, IsEnded, IsExplained, NothingStopsSpan, ProvesOptimum}
pub use Rattle.osemosys_run.specs.Due.{AskForEquations, Due, DueForFile, DueForFiles, DueForMake, DueForQuestion, DueForRequest, DueOver, DueOverAsked, DueOverData, bytes_at, changes_at, names_asked, source2_in, source_in, titled}
pub use Rattle.osemosys_run.specs.Mps.{DueForEquations}
pub use Rattle.osemosys_run.specs.ReadToEnd.{HasReadAll, IsReadAtWriteFault, IsReadToEnd, ReadsWhole, SpeaksOfFiles}
pub use Rattle.osemosys_run.specs.Replies.{CanBeSent, CanBeTold, DueForReply, IsForEquationsOf, IsAsMade, IsForEquations, IsOwn, IsReplyTo, IsTold}
pub use Rattle.osemosys_run.specs.Requests.{HasOneModel, IsOverData, IsOfOneModel, IsRead, first_marked, marks_for, marks_in}
pub use Rattle.osemosys_run.specs.Scenarios.{AcceptsOver, IsKept, IsUnkept, RefusesOver}
pub use Rattle.osemosys_run.specs.Sending.{Delivers, IsBegun, Sent, sent}
pub use Rattle.osemosys_run.specs.declared.reply.Reply.{Reply}
pub use Rattle.osemosys_run.specs.declared.reply.Reply.TheVariants.{Told}
pub use Rattle.page_command.specs.Pages.{DueForPage, ShowsPage}
pub use Rattle.plan_files.specs.Answers.{AreGiven}
pub use Rattle.plan_files.specs.Files.{GivesValue, record_of}
pub use Rattle.plan_tables.specs.declared.shown.NumberForm.{NumberForm}
pub use Rattle.request_files.proofs.InTurnLaws.{all-short, as-many, moved-read, stops-within}
pub use Rattle.request_files.specs.InTurn.{AreMoved, AreRead, Stops, StopsAt}
pub use Rattle.request_files.specs.Marked.{AllHold, fed_of, held_of, marks_of}
pub use Rattle.request_files.specs.Reading.{BeganOne, HasFailed, IsShort, IsTooLong, part_of_file, refused_file, whole_file}
pub use Rattle.request_files.specs.Sights.{Sight, seen}
pub use Rattle.request_files.specs.declared.whole.ReadEnd.{ReadEnd}
pub use Rattle.result_tables.specs.declared.attempts.Begun.TheVariants.{FromNothing, FromValues, WithoutStart}
pub use Rattle.row_book.proofs.Common.{AreSameData, Book, CanBeMade, Contains-from_Has, Has, Has-from_Contains, HasStopped, IfSome, append_assoc, drop, exists, ints, length, length-map, lt-ltb, map-append, members, nat_lt, neg_ℤ, range_with_len, rules, suc, take, true≢false, zero, ⊤, ◌&&◌, ◌+◌, ◌-◌, ◌<◌, ◌^◌, ◌≤◌}
unfoldable pub use Rattle.row_book.proofs.Common.{all_fit, in_range, times}
pub use Rattle.simplex_core.specs.declared.stops.Stop.{Stop}
pub use Rattle.solve_command.proofs.Common.{ComesToEnd, DueBy, DueForEnd, DueForRows, Exact, HasNoPlan, HasOptimum, IsPivotDue, IsWide, IsWithinLimits, MethodEnd, PassesLimits, Refused, Rounded, SolveMethod, Uncertified, arith, definers, first_wide, method_end}
unfoldable pub use Rattle.solve_command.proofs.Common.{lowest, minus, plus}
pub use Rattle.solve_command.proofs.RowsDue.{rows-due}
pub use Rattle.solve_command.specs.Shown.{shown_of, wanted_by}
pub use Rattle.solve_command.specs.Solve.{DueForSolve}
pub use Rattle.solve_command.specs.Starts.{DueForSolveFrom, DueFrom, begun_from}
pub use Rattle.solve_command.specs.Summary.{DueForSummary, default_pivots, default_places, default_wanted, made_line}
pub use Rattle.span_finder.specs.Slacks.{slack_formed, slack_limit}
pub use Rattle.span_finder.specs.declared.found.SpanFail.TheVariants.{Stopped}
pub use Rattle.std.proofs.Common.{Bor, IsSome, MatchBool, le-ltb, ◌<ℤ◌}
pub use Rattle.std.proofs.lemmas.List.{take_all}
pub use Rattle.std.proofs.lemmas.Result.{MatchResult-at_err, MatchResult-at_ok}
pub use Rattle.std.specs.List.{count_by}
pub use Rattle.std.specs.Option.{option_map}
pub use Rattle.std.specs.Prelude.{IfOk}
pub use Rattle.std.specs.String.{string_bytes}
pub use Rattle.table_command.specs.ShownTables.{IsShowable, or_else, shown_named}
pub use Rattle.table_command.specs.Tables.{DueForKnown, DueForTable, ShowsProof, form_of}
pub use Rattle.table_command.specs.declared.shown.Shown.{Shown}
pub use Rattle.row_book.specs.declared.fail.BookFail.{BookFail}
pub use Rattle.solve_command.specs.declared.solve.Shown.TheVariants.{Summary}
pub use Rattle.solve_command.specs.declared.solve.Wanted.{Wanted}
