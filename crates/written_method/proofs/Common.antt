-- The names that most proofs here cite, passed on from one place. Declares nothing.
pub use Rattle.exact_num.proofs.Integers.{*ℤ-≤ℤ, *ℤ-≤ℤ-neg, *ℤ_cancel, *ℤ_nonnegative, *ℤ_pos, <ℤ_cancel, int_div-mul, nonzero_of_pos, unsigned_abs_pos, ≤ℤ-*ℤ, ≤ℤ_cancel, ≤ℤ_or_<ℤ}
pub use Rattle.exact_num.proofs.RationalLaws.{lowest-IsLowest, lowest-cross, minus-is_plus}
pub use Rattle.exact_num.proofs.Ring.{*ℤ-one, *ℤ-zero, *ℤ_comm, one-*ℤ, products, ring, zero-*ℤ}
unfoldable pub use Rattle.exact_num.specs.Formed.{difference_formed, product_formed, quotient_formed, sum_formed}
unfoldable pub use Rattle.exact_num.specs.Gcd.{gcd_of, gcd_within}
unfoldable pub use Rattle.exact_num.specs.Range.{all_fit, in_range}
pub use Rattle.exact_num.specs.Rational.{Rational, pair, whole}
unfoldable pub use Rattle.exact_num.specs.Rational.{divided, lowest, minus, order_of, plus, times}
unfoldable pub use Rattle.exact_num.specs.Steps.{first_wide}
pub use Rattle.row_core.proofs.DivisionLaws.{factor_pos, is_zero-fact}
pub use Rattle.row_core.proofs.SumLaws.{IsOver-agree, IsOver-lowest, IsOver-negated, IsOver-plus, IsOver-zero}
pub use Rattle.row_core.specs.Forms.{Form}
pub use Rattle.row_core.specs.Numbers.{DividesAll, ascends, is_zero, keys_of, variables_of}
pub use Rattle.row_core.specs.Order.{row_name_cmp, var_cmp}
pub use Rattle.row_core.specs.Plans.{value_in}
pub use Rattle.row_core.specs.Rows.{number_at, row_sum}
pub use Rattle.row_core.specs.Values.{IsOver}
pub use Rattle.row_core.specs.Written.{row_divisor}
pub use Rattle.row_core.specs.declared.Row.{Row}
pub use Rattle.row_core.specs.declared.RowName.{RowName}
pub use Rattle.row_core.specs.declared.Sense.{Sense}
pub use Rattle.row_core.specs.declared.Sense.TheVariants.{Equal, Least, Most}
pub use Rattle.row_core.specs.declared.Var.{Var}
pub use Rattle.row_core.specs.declared.place.Place.{Place}
pub use Rattle.std.proofs.Common.{Bool, List, None, Option, Some, [], ap, append_assoc, ap₂, arith, false, get_or, if◌then◌else◌, inl, inr, leb-true, length, map, neg_ℤ, negsuc, pos, refl, set, subst, suc, sym, take, true, zero, ℕ, ℤ, ◌&&◌, ◌*ℤ◌, ◌++◌, ◌+ℤ◌, ◌+◌, ◌-ℤ◌, ◌-◌, ◌<◌, ◌^◌, ◌∙◌, ◌∷◌, ◌≡◌, ◌≢◌, ◌≤◌, ◌⊎◌}
pub use Rattle.std.proofs.Math.ListN.{get_or-append, length-set}
pub use Rattle.std.proofs.lemmas.Bool.{and_parts, cases_lt}
pub use Rattle.std.proofs.lemmas.Bool.Decides.{nat_tests}
pub use Rattle.std.proofs.lemmas.Int.{ints}
pub use Rattle.std.proofs.lemmas.List.{get_or-append-add, get_or-map, get_or-set_same, get_or-take, length-append}
pub use Rattle.std.specs.Global.{Vec}
pub use Rattle.std.specs.Ordering.{int_cmp, is_eq, is_lt}
pub use Rattle.std.specs.Prelude.{int_div, int_lt, nat_le, nat_lt, ⊤, ◌<ℤ◌, ◌==◌, ◌||◌, ◌≤ℤ◌}
pub use Rattle.std.specs.declared.cmp.Ordering.{Ordering}
pub use Rattle.written_method.specs.Basis.{AreFeasible, HasCosts, IsBasic, IsShaped, MayLeave}
pub use Rattle.written_method.specs.Certificates.{AreOverFrom, Bounds, Descends, HasBoundAsCost, HasSign, HaveSigns, IsWithin, MeetRows, Meets, Refutes, ValuesAreOver, number_sum, right_sum}
pub use Rattle.written_method.specs.Choices.{Candidate, better, candidate_at, first_positive_from, greatest_from, least_right_from, leaves_before, leaving_from, rank_of}
pub use Rattle.written_method.specs.Eliminated.{cost_form, cost_row, cost_variable, elimination_steps, is_column, is_kept, other_entries, unscaled}
pub use Rattle.written_method.specs.Ends.{AreOfBasis, weighted_entry, weighted_right}
pub use Rattle.written_method.specs.Expanded.{Scaled, expanded, expanded_formed}
pub use Rattle.written_method.specs.FirstTableau.{any_negative, artificial_line, as_most, by_column, cost_line, counted_from, first_state, right_of, row_line, row_lines, slack_entries, tableau_with, width_of, x0_entry, zeros}
pub use Rattle.written_method.specs.Lines.{Line, all_less, cleared, entry_of, factor_of, line_less, line_over, lowest_line, numbers_of}
pub use Rattle.written_method.specs.Meaning.{IsCombination, IsCombined, Solves, SolvesRows, Values, excess, sum_from, weighted}
pub use Rattle.written_method.specs.Programs.{Inequality, LinearProgram, is_split}
pub use Rattle.written_method.specs.Ready.{AreAmong, ArePosed, IsAmong, IsPosed}
pub use Rattle.written_method.specs.Rounds.{Due, NoColumn, NoRow, One, Phase, Pivot, Start, State, Two, after, deciding_line, degenerate_after, due, entering, leaving, right_sides, step_of, tableau_after, x0_of}
pub use Rattle.written_method.specs.Runs.{Answer, End, Ended, Infeasible, Optimal, PivotDue, RanOut, Run, Unbounded, ended, no_column}
unfoldable pub use Rattle.written_method.specs.Runs.{answer, answer_of, run}
pub use Rattle.written_method.specs.Solved.{IsInfeasible, IsOptimal, IsOutOfPivots, IsUnbounded, direction_of, optimal_multipliers, refuting_multipliers, solved, values_of}
pub use Rattle.written_method.specs.SolvedFor.{solved_for, solved_formed}
pub use Rattle.written_method.specs.Tableaus.{Tableau, basic_of, line_of, negated, negated_line, no_line, pivot_formed, pivoted, rows_of, without_last, without_x0}
pub use Rattle.written_method.specs.Values.{by_variable, column_direction, column_value, multipliers_from, row_of_basic, share_of, slope_of}
