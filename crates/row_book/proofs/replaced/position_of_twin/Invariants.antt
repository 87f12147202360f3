-- None of the rows so far is a twin.
use Rattle.row_book.proofs.Common.{ℕ, ◌<◌, Row, IsAt, AreTwins}
use Rattle.row_book.proofs.replaced.position_of_twin.Given as goal

abbrev pub invariant-loop-i : goal.invariant-loop-i
invariant-loop-i l = (j : ℕ) (before : Row) → j < l.i → IsAt l.rows j before → AreTwins before l.row → ⊥
