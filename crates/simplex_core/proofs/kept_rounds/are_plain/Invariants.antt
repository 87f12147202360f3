-- The lines so far are plain.
use Rattle.simplex_core.proofs.Common.{ℕ, ◌<◌, IsPlain}
use Rattle.simplex_core.proofs.kept_rounds.are_plain.Given as goal

abbrev pub invariant-loop-line : goal.invariant-loop-line
invariant-loop-line l = (i : ℕ) → i < l.line → IsPlain l.tableau.tableau i
