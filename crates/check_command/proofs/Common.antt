-- The names that most proofs here cite, passed on from one place. Declares nothing.
pub use Rattle.certificate_checker.proofs.ConditionLaws.{fails_before, passed_first, passes_all, wide_before}
pub use Rattle.certificate_checker.specs.Conditions.{AllPass, Condition, FailsFor, IsWideAt, first_failing, formed_at, steps}
pub use Rattle.certificate_checker.specs.Costs.{cost_entries, cost_value, no_cost, total, total_formed}
pub use Rattle.certificate_checker.specs.Denominators.{AreOverSome}
pub use Rattle.certificate_checker.specs.Gaps.{Within, gap_condition}
pub use Rattle.certificate_checker.specs.MultiplierChecks.{bound_conditions, bound_value, column_condition, infeasible_conditions, is_signed, is_within, multiplier_condition, right_sides}
pub use Rattle.certificate_checker.specs.PlanChecks.{absolute, direction_conditions, plan_conditions, sign_condition}
pub use Rattle.certificate_checker.specs.Reasons.{Reason, column_off, cost_not_negative, reason_of, row_missed, sum_not_positive, wrongly_signed}
pub use Rattle.certificate_checker.specs.Sums.{HasVariablesOf}
pub use Rattle.certificate_checker.specs.Verdicts.{IfYes, IsVerdict, OnYes}
pub use Rattle.certificate_checker.specs.declared.verdicts.Rejection.{Rejection}
pub use Rattle.certificate_checker.specs.declared.verdicts.Rejection.TheVariants.{Column, GapPassed, NotNegative, NotPositive, Violates, WrongMultiplier, WrongSign}
pub use Rattle.certificate_checker.specs.declared.verdicts.Verdict.{Verdict}
pub use Rattle.certificate_checker.specs.declared.verdicts.Verdict.TheVariants.{No, Width, Yes}
pub use Rattle.check_command.specs.Check.{DueForMultiplierFile, DueForPlan, bound_and_gap, check_conditions, multiplier_bound, plan_cost}
pub use Rattle.check_command.specs.CheckLines.{CanBeSaid, ReasonCanBeSaid, accepted_text, rejected_line, rejection_text}
pub use Rattle.check_command.specs.CheckOutcomes.{IsCheckedBound, IsCheckedPlan, IsOutcome, OutcomeIsWithin, TellsBound, TellsOutcome, bound_values, worth_of}
pub use Rattle.check_command.specs.CheckProof.{DueForConditions, DueForProofFile, DueForProofTold, IsEndless, descent_conditions, refutation_conditions}
pub use Rattle.check_command.specs.ProofVerdicts.{IsJudged, TellsVerdict, VerdictIsWithin}
pub use Rattle.check_command.specs.declared.outcome.Outcome.TheVariants.{Accepted, Rejected, Wide}
pub use Rattle.command_answers.proofs.CheckedRows.{are-feasible, book-of, bounds-feasible, none-feasible, rows-from_feasible, vars-are}
pub use Rattle.command_answers.proofs.Common.{AdmitsNone, AllByRecursion, AllByRecursion-append, AllByRecursion-map, AllByRecursion-weaker, AreFeasible, AreRowsOf, Bool, BoundsAll, BoundsFeasible, CostsLess, Data, HasNameWithin, IfOk-weaker, IsBookOf, IsListedBook, IsListedVariable, IsRowOfSets, IsVariableOfSets, IsWithinSets, List, None, NoneIsFeasible, Option, Place, PlaceIsWithin, Rational, Row, RowName, SetLists, Some, Var, [], all_variables, ap, ap₂, codes, cost_of, false, filter, flat_map, if◌then◌else◌, inl, inr, instances, map, minus, model_cost, name_of_row, new_capacity, pos, refl, subst, sym, true, var_cmp, ℕ, ℤ, ◌++◌, ◌∙◌, ◌∷◌, ◌≡◌, ◌≢◌, ◌⊎◌}
unfoldable pub use Rattle.command_answers.proofs.Common.{digits}
pub use Rattle.command_answers.proofs.KeptPlaces.{AreFormedKept, steps-kept, wide-kept}
pub use Rattle.command_answers.proofs.LineExamples.{two_regions}
pub use Rattle.command_answers.proofs.ListedBooks.{listed-as, rows-named, vars-named}
pub use Rattle.command_answers.proofs.PlanCosts.{all-of}
pub use Rattle.command_answers.specs.CheckedPlans.{AreNotFeasible}
pub use Rattle.command_answers.specs.Lines.{uncertified_line}
pub use Rattle.command_answers.specs.MadeBooks.{TellsMade}
pub use Rattle.command_answers.specs.PlacesWithin.{FaultIsWithin, ReasonIsWithin, RejectionIsWithin}
pub use Rattle.command_answers.specs.PlanFaultLines.{multiplier_fault_line, plan_fault_line, proof_fault_line}
pub use Rattle.command_answers.specs.ShownProofs.{HasWorth}
pub use Rattle.command_answers.specs.declared.status.Status.TheVariants.{Done}
pub use Rattle.exact_num.specs.Rational.{order_of, whole}
pub use Rattle.exact_num.specs.Value.{value_of}
pub use Rattle.plan_files.specs.Answers.{AreMultipliers, BreaksAtRecord, BreaksFirst, IsFailOf, IsMultiplierFault, IsPlan, IsPlanFault}
pub use Rattle.plan_files.specs.Files.{Fields, records_of}
pub use Rattle.plan_files.specs.declared.faults.PlanFault.{PlanFault}
pub use Rattle.plan_files.specs.declared.faults.PlanFault.TheVariants.{BadRecord, BadValue, Missing, Twice, UnknownVar}
pub use Rattle.proof_files.specs.Proofs.{IsProof, IsProofFault}
pub use Rattle.proof_files.specs.declared.proof.Proof.{Proof}
pub use Rattle.proof_files.specs.declared.proof.Proof.TheVariants.{Descent, Optimum, Refutation}
pub use Rattle.row_core.specs.Contents.{RowContents, contents_of}
pub use Rattle.row_core.specs.Order.{row_name_cmp}
pub use Rattle.row_core.specs.Plans.{value_in}
pub use Rattle.std.proofs.Common.{Err, IfOk, Ok, Result, cond, option_map}
pub use Rattle.std.proofs.lemmas.Option.{same_Some}
pub use Rattle.std.specs.List.{find}
pub use Rattle.std.specs.Prelude.{MatchResult, OnOk, int_lt}
pub use Rattle.command_answers.specs.declared.status.Status.{Status}
