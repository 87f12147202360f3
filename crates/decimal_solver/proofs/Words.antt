-- The definitions that most proofs here cite, passed on from one place. Declares nothing.
pub use Rattle.decimal_solver.specs.Attempts.{Attempt, checked, program_end, carried}
unfoldable pub use Rattle.decimal_solver.specs.Attempts.{grid_end}
pub use Rattle.decimal_solver.specs.Ends.{variable_value, with_multiplier, at_most_0, row_multiplier, with_basic, with_value, with_number}
unfoldable pub use Rattle.decimal_solver.specs.Ends.{column_values, row_multipliers, spread, variable_values}
pub use Rattle.decimal_solver.specs.Folds.{IsLeft, folded, IsFolded, each}
pub use Rattle.decimal_solver.specs.Lines.{Line, cleared, pivot_line, Entries, with_scaled, with_entry}
unfoldable pub use Rattle.decimal_solver.specs.Lines.{entry_in, filled, merged, merged_to, scaled_entries}
pub use Rattle.decimal_solver.specs.Numbers.{and_then, near, reduced_number, scaled_number, lowered, unit, raised}
pub use Rattle.decimal_solver.specs.Rounds.{degenerate_after, entering, is_degenerate, with_cleared, Optimal, Stuck, after, at_due, due, factor_in, no_row, with_pivot, clipped, columns_after, phase_by, row_at, x0_leaves, Candidate, with_candidate, entered, lesser}
unfoldable pub use Rattle.decimal_solver.specs.Rounds.{entering_from, leaving_from, least_right, others_cleared, run}
pub use Rattle.decimal_solver.specs.Starts.{first_state, with_row, first_row, with_cost, with_first, greater}
unfoldable pub use Rattle.decimal_solver.specs.Starts.{cost_entries, first_entries, first_rows, greatest_entry}
pub use Rattle.decimal_solver.specs.States.{One, Phase, Start, State, Two}
pub use Rattle.decimal_solver.specs.Views.{line_seen, row_seen, rows_seen, IsNothing, entries_seen, state_seen, number_seen, entry_seen, phase_seen, chosen_seen}
pub use Rattle.decimal_solver.specs.declared.states.Entry.{Entry}
pub use Rattle.decimal_solver.specs.declared.states.GridRow.{GridRow}
pub use Rattle.decimal_solver.specs.declared.states.Number.{Number}
