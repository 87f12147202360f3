-- No byte before this one is a line feed.
use Rattle.solver_answers.proofs.Common.{◌≡◌, ℕ, ◌<◌, false, get_or, ends_line}
use Rattle.solver_answers.proofs.words.line_length.Given as goal

abbrev pub invariant-loop-i : goal.invariant-loop-i
invariant-loop-i l = (k : ℕ) → k < l.i → ends_line (get_or l.text k 0) ≡ false
