-- No equation so far has the word.
use Rattle.plan_files.proofs.Common.{◌≡◌, ℕ, ◌<◌, IsEquation, word_of_equation}
use Rattle.plan_files.proofs.names.equation_of.Given as goal

abbrev pub invariant-loop-eq : goal.invariant-loop-eq
invariant-loop-eq l = (other : ℕ) → IsEquation other → other < l.eq → ¬ (word_of_equation other ≡ l.word)
