-- The values of the columns so far.
use Rattle.simplex_core.proofs.Common.{◌≡◌, ◌<◌, ℕ, length, column_lift, value_at_column}
use Rattle.simplex_core.proofs.columns.column_values.Given as goal

abbrev pub invariant-loop-column : goal.invariant-loop-column
invariant-loop-column l = record {
  many : length l.values.items ≡ l.column;
  values : (k : ℕ) → k < l.column → value_at_column l.values.items k ≡ column_lift l.tableau.tableau l.growing k;
}
