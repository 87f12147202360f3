-- The names that most proofs here cite, passed on from one place. Declares nothing.
pub use Rattle.exact_num.proofs.Integers.{*ℤ-<ℤ, *ℤ_cancel, *ℤ_pos, <ℤ_cancel, nonzero_of_pos, pos-unsigned_abs, unsigned_abs-int_div, unsigned_abs-neg_ℤ, unsigned_abs-zero, unsigned_abs_pos}
pub use Rattle.exact_num.proofs.RangeLaws.{FitsSigned-from_InRange, IfOk-equal, back_in_range, in_range-yes, narrow_is}
pub use Rattle.exact_num.proofs.RationalLaws.{lowest-IsLowest, lowest-cross, lowest-mul}
pub use Rattle.exact_num.proofs.Ring.{*ℤ-one, *ℤ-zero, ring, zero-*ℤ}
pub use Rattle.exact_num.proofs.StepLaws.{all_fit-append, all_fit-cons, all_fit-nil, first_wide-append, first_wide-fits, first_wide-nil, first_wide-stops}
pub use Rattle.exact_num.specs.Gcd.{gcd_of}
pub use Rattle.exact_num.specs.Range.{InRange, all_fit, in_range}
pub use Rattle.exact_num.specs.Rational.{IsLowest, Rational, lowest, minus, whole}
unfoldable pub use Rattle.exact_num.specs.Rational.{order_of}
pub use Rattle.exact_num.specs.Steps.{Step, first_wide}
pub use Rattle.exact_num.specs.Value.{value_of}
pub use Rattle.exact_num.specs.declared.fraction.Frac.{Frac}
pub use Rattle.int_tableau.proofs.NarrowLaws.{back_narrow, back_widened, narrow_fits}
pub use Rattle.int_tableau.specs.Counted.{Counted, pivoted_once}
pub use Rattle.int_tableau.specs.Shapes.{IsNowhere}
pub use Rattle.int_tableau.specs.Swaps.{swapped}
pub use Rattle.row_core.proofs.DivisionLaws.{common_divisor-DividesAll, is_zero-fact}
pub use Rattle.row_core.specs.Numbers.{DividesAll, ascends, is_zero, keys_of}
pub use Rattle.row_core.specs.declared.Var.{Var}
pub use Rattle.row_core.specs.declared.place.Place.{Place}
pub use Rattle.row_core.specs.declared.place.Stopped.{Stopped}
pub use Rattle.row_core.specs.declared.place.Stopped.TheVariants.{Memory, Width}
pub use Rattle.simplex_core.specs.Kept.{IsArtificial, IsKept, IsPrimitive, exchanged, shown}
pub use Rattle.simplex_core.specs.KeptEnds.{IsKeptDue, IsKeptEnd, IsLastEnd, IsOnWay, IsSecond}
pub use Rattle.simplex_core.specs.KeptRounds.{KeptState, home_line, kept_due, kept_entering, kept_leaving, left_kept, next_kept, rough_line, rough_lines, shown_state}
pub use Rattle.simplex_core.specs.KeptViews.{AreSpread, FitsPivot, IsHome, IsLineNarrow, IsPlain, IsWithin, candidate_of, greater_of, greatest_size, kept_basics, kept_state, rough_of, second_phase, size_in, x0_in}
unfoldable pub use Rattle.simplex_core.specs.KeptViews.{advanced}
pub use Rattle.simplex_core.specs.LastTableaus.{IsEnding, IsLast, column_lift, place_of, value_at_column, variable_formed, variable_value}
pub use Rattle.simplex_core.specs.Outcomes.{IsHalt, IsProved, halt_of, outcome_seen}
pub use Rattle.simplex_core.specs.Runs.{IsFirst, IsRanOut}
pub use Rattle.simplex_core.specs.ShortViews.{AreRough, short_candidate_seen, short_chosen_seen}
pub use Rattle.simplex_core.specs.Views.{candidate_seen, chosen_seen, ending_seen, entering_by, state_seen}
pub use Rattle.simplex_core.specs.Widths.{AllWithin, AreSizes, IsNarrow, late_entry, late_size}
pub use Rattle.simplex_core.specs.declared.kept_rounds.KeptEnd.{KeptEnd}
pub use Rattle.std.proofs.Common.{Bool, List, None, Option, Some, [], add-one, ap, append-nil, ap₂, arith, drop, false, get_or, if◌then◌else◌, inl, inr, length, lit<, map, neg_ℤ, negsuc, of_z, pos, refl, set, subst, suc, sym, take, to_z, true, zero, ℕ, ℤ, ◌&&◌, ◌*ℤ◌, ◌*◌, ◌++◌, ◌+ℤ◌, ◌+◌, ◌-ℤ◌, ◌-◌, ◌<◌, ◌^◌, ◌∙◌, ◌∷◌, ◌≡◌, ◌≢◌, ◌≤◌, ◌⊎◌}
pub use Rattle.std.proofs.Math.ListN.{length-set}
pub use Rattle.std.proofs.Math.Nat.{div-le_self, eq-zero_of_zero-dvd, le-mul_of_pos_right}
pub use Rattle.std.proofs.lemmas.Bool.{cases_lt, eq-eqb, eqb-false, eqb-true, ne_eqb}
pub use Rattle.std.proofs.lemmas.Bool.Decides.{nat_tests}
pub use Rattle.std.proofs.lemmas.Int.{ints, unsigned_abs-mul}
pub use Rattle.std.proofs.lemmas.List.{append_assoc, at_drop_all, drop_more, ext_get_or, get_or-drop, get_or-map, get_or-set_other, get_or-set_same, get_or-take, get_or_default, get_or_past, length-append, length-drop, length-take-le, map-append, set-set}
pub use Rattle.std.proofs.lemmas.Nat.{mul-le, mul-lt}
pub use Rattle.std.proofs.lemmas.Result.{IfOk-weaker, err_from_is_err_and}
pub use Rattle.std.specs.Int.{w128, w64}
pub use Rattle.std.specs.Ordering.{int_cmp}
pub use Rattle.std.specs.Prelude.{IfErr, IfOk, IfSome, IsTrue, OnOk, flat_map, int_div, int_lt, nat_lt, unsigned_abs, ⊤, ◌<ℤ◌, ◌==◌, ◌≤ℤ◌}
pub use Rattle.written_method.proofs.BasisLaws.{IsShaped-pivoted, length-cleared}
pub use Rattle.written_method.proofs.BegunLaws.{IsLowestRow, length-right_sides, lowest-IsLowestRow, prepared-is, prepared-positive, right_sides-at}
pub use Rattle.written_method.proofs.ChosenLaws.{IsRound, IsStuck, deciding-two, due-one, due-start, due-two, round-IsRound, round-NoRow}
pub use Rattle.written_method.proofs.CombinedLaws.{IsCleared, cleared-IsCleared}
pub use Rattle.written_method.proofs.FirstLaws.{IsShaped-first, artificial-other, artificial-x0, basic_of-first, length-lines, length-tail, line-artificial, line-row, no_row, row_line-x0, rows_of-first}
pub use Rattle.written_method.proofs.LeavingLaws.{IsLeast, leaving-IsLeast}
pub use Rattle.written_method.proofs.PhaseLaws.{HasArtificial, IsReachedFrom, basic_apart}
pub use Rattle.written_method.proofs.PivotLaws.{basic_of-other, basic_of-pivoted, length-pivoted, line_of-other, line_of-pivoted, rows_of-pivoted, same_or_not, set_other}
pub use Rattle.written_method.proofs.ReachedLaws.{IsEnd, IsReached, IsReached-after, IsReached-first, answer-IsReached, enters-below, enters-one, infeasible-one, never-NoRow}
pub use Rattle.written_method.proofs.RunLaws.{answer-due, answer-no_column, answer-no_row, answer-pivot, answer-wide}
pub use Rattle.written_method.specs.Basis.{IsBasic, IsShaped}
pub use Rattle.written_method.specs.Choices.{Candidate, better, candidate_at, first_positive_from, greatest_from, least_right_from, leaves_before, leaving_from, rank_of}
pub use Rattle.written_method.specs.FirstTableau.{any_negative, artificial_line, as_most, first_phase, first_state, first_tableau, tableau_with, width_of}
pub use Rattle.written_method.specs.Lines.{Line, all_less, all_less_formed, cleared, cleared_formed, entry_of, factor_of, less, less_formed, line_less, lowest_line, numbers_of}
pub use Rattle.written_method.specs.Programs.{Inequality, LinearProgram, inequality_of, is_split, program_of}
pub use Rattle.written_method.specs.Rounds.{Due, NoColumn, NoRow, One, Phase, Pivot, Start, State, Two, after, deciding_line, degenerate_after, due, entering, leaving, prepared, right_sides, step_of}
pub use Rattle.written_method.specs.Runs.{Answer, End, Ended, Infeasible, Optimal, PivotDue, RanOut, Unbounded, answer}
pub use Rattle.written_method.specs.Solved.{IsInfeasible, IsOptimal, IsTooWide, IsUnbounded, Outcome, checked_end, direction_of, direction_steps, end_steps, optimal_multipliers, outcome_of, outcome_of_end, refuting_multipliers, solved, value_steps, values_of}
pub use Rattle.written_method.specs.Tableaus.{Tableau, basic_of, has_x0, line_of, negated, negated_line, no_line, others, pivot_formed, pivoted, rows_of, without_x0}
pub use Rattle.written_method.specs.Values.{by_variable, by_variable_steps, multipliers_from, row_of_basic, share_of, slope_of}
pub use borrow.Author.Tests.{ltb-false, ltb-true}
