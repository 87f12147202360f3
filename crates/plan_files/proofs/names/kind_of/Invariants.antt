-- No kind so far has the word.
use Rattle.plan_files.proofs.Common.{◌≡◌, ℕ, ◌<◌, IsKind, word_of_kind}
use Rattle.plan_files.proofs.names.kind_of.Given as goal

abbrev pub invariant-loop-kind : goal.invariant-loop-kind
invariant-loop-kind l = (other : ℕ) → IsKind other → other < l.kind → ¬ (word_of_kind other ≡ l.word)
