use Rattle.model_sets.proofs.Common.{bytes_eq, set_words}
use Rattle.model_sets.proofs.Tables.{Passed}
use Rattle.model_sets.proofs.set_words.place_of.Given as goal

abbrev pub invariant-loop-i : goal.invariant-loop-i
invariant-loop-i l = Passed (bytes_eq l.word) set_words l.i
