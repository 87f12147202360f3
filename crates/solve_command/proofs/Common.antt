-- The names that most proofs here cite, passed on from one place. Declares nothing.
pub use Rattle.certified_answers.specs.Answers.{IsComplete, IsNamed, IsProved}
pub use Rattle.certified_answers.specs.declared.answers.Certified.{Certified}
pub use Rattle.command_answers.proofs.BookPlaces.{multipliers-named, plan-named}
pub use Rattle.command_answers.proofs.CheckedRows.{vars-are}
pub use Rattle.command_answers.proofs.Common.{AreNamedIn, Bool, Contains, Data, HasNoBound, HasNoPlan, HasOptimum, IfOk-weaker, IsBookOf, IsListedBook, IsWide, IsWithinLimits, List, MethodEnd, None, NoneIsFeasible, Option, PassesLimits, Place, Rational, Row, RowName, SetLists, Some, Var, [], all_variables, ap, ap₂, arith, ascends, codes, definers, elimination_steps, false, first_wide, if◌then◌else◌, inl, inr, instances, keys_of, map, pos, refl, subst, sym, true, ℕ, ℤ, ◌++◌, ◌∙◌, ◌∷◌, ◌≡◌, ◌⊎◌}
unfoldable pub use Rattle.command_answers.proofs.Common.{minus}
pub use Rattle.command_answers.proofs.SolvedRows.{are, near, optimum, refuted, unbounded}
pub use Rattle.command_answers.specs.BookMethods.{IsFoundBy, grid_end, method_end}
pub use Rattle.command_answers.specs.Lines.{start_fault_line, uncertified_line}
pub use Rattle.command_answers.specs.SolvedPlans.{HasNoLeastCost, IsNearOptimum}
pub use Rattle.command_answers.specs.declared.status.Status.TheVariants.{Refused, Uncertified}
pub use Rattle.command_words.specs.declared.command.SolveMethod.{SolveMethod}
pub use Rattle.command_words.specs.declared.command.SolveMethod.TheVariants.{Exact, Rounded}
unfoldable pub use Rattle.exact_num.specs.Gcd.{gcd_of, gcd_within}
pub use Rattle.exact_num.specs.Rational.{pair, whole}
unfoldable pub use Rattle.exact_num.specs.Rational.{lowest, plus}
pub use Rattle.exact_num.specs.Value.{value_of}
pub use Rattle.exact_num.specs.declared.fraction.Frac.{Frac}
pub use Rattle.exact_solver.specs.MethodEnds.{IsPivotDue, IsStopOf, end_seen}
pub use Rattle.model_sets.specs.Members.{AreSets}
pub use Rattle.plan_files.specs.Records.{nonzero}
pub use Rattle.proof_files.specs.ProofRecords.{descent_file, optimum_file, refutation_file}
pub use Rattle.result_tables.specs.Prices.{balances, is_balance, named_price, price_step, price_steps, prices}
pub use Rattle.row_core.specs.Numbers.{is_zero}
pub use Rattle.row_core.specs.Plans.{or_zero, value_in, valued}
pub use Rattle.solve_command.specs.ReadBack.{AreFractions, HasFractions, ReadsBack, TellsDescent, TellsMultipliers, TellsOptimum, TellsPlan, TellsRefutation, TellsShown, WhereProof}
pub use Rattle.solve_command.specs.Second.{IsToldSecond, TellsExactly, TellsGrid, TellsSecond}
pub use Rattle.solve_command.specs.Solve.{ComesToEnd, DueBy, DueForEnd, DueForMethod, DueForRows, Finds, IsFound, IsFoundInfeasibleShown, PricesFit, priced, second_end}
pub use Rattle.solve_command.specs.declared.solve.Shown.{Shown}
pub use Rattle.solve_command.specs.declared.solve.Shown.TheVariants.{Report, Summary}
pub use Rattle.solve_command.specs.declared.solve.Wanted.{Wanted}
pub use Rattle.solver_answers.specs.Told.{Breaks, Gives, IsAnswer, Lacks, Told, is_passed}
pub use Rattle.solver_answers.specs.declared.answer.Answer.TheVariants.{NoStart, Start}
pub use Rattle.std.proofs.Common.{IfOk, cond, negsuc, ◌==◌}
pub use Rattle.std.specs.Prelude.{is_none, length, not, unsigned_abs}
pub use Rattle.command_answers.specs.declared.status.Status.{Status}
