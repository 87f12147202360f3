-- The rows from `row` on are known.
use Rattle.simplex_core.proofs.Common.{◌≡◌, ◌≤◌, ℕ, None, length, get_or, drop, row_of_basic}
use Rattle.simplex_core.proofs.columns.rows_by_column.Given as goal

abbrev pub invariant-loop-row : goal.invariant-loop-row
invariant-loop-row l = record {
  many : length l.rows.items ≡ l.tableau.tableau.columns;
  known : (c : ℕ) → get_or l.rows.items c None ≡ row_of_basic c l.row (drop l.row l.tableau.tableau.basics);
  within : l.row ≤ length l.tableau.tableau.basics;
}

abbrev pub decreases-loop-row : goal.decreases-loop-row
decreases-loop-row l = l.row
