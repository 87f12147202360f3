-- No byte before this one is a blank.
use Rattle.solver_answers.proofs.Common.{◌≡◌, ℕ, ◌<◌, false, get_or, is_blank}
use Rattle.solver_answers.proofs.words.word_length.Given as goal

abbrev pub invariant-loop-i : goal.invariant-loop-i
invariant-loop-i l = (k : ℕ) → k < l.i → is_blank (get_or l.text k 0) ≡ false
