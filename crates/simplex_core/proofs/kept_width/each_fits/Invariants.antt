-- The lines so far are narrow.
use Rattle.simplex_core.proofs.Common.{ℕ, ◌<◌, ◌≢◌, IsLineNarrow, x0_in}
use Rattle.simplex_core.proofs.kept_width.each_fits.Given as goal

abbrev pub invariant-loop-line : goal.invariant-loop-line
invariant-loop-line l = (i : ℕ) → i < l.line → i ≢ l.row → IsLineNarrow l.tableau.tableau l.home.row (x0_in l.tableau.tableau) l.row l.home.column i
