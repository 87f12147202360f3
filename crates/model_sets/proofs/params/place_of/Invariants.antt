use Rattle.model_sets.proofs.Common.{bytes_eq, param_words}
use Rattle.model_sets.proofs.Tables.{Passed}
use Rattle.model_sets.proofs.params.place_of.Given as goal

abbrev pub invariant-loop-i : goal.invariant-loop-i
invariant-loop-i l = Passed (bytes_eq l.word) param_words l.i
