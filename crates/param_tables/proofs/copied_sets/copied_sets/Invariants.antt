-- The sets so far are copied, and the others have no members yet.
use Rattle.param_tables.proofs.Common.{◌≡◌, ℕ, ◌+◌, ◌<◌, ◌≤◌, [], length, get_or, set_count}
use Rattle.param_tables.proofs.copied_sets.copied_sets.Given as goal

abbrev pub invariant-loop-set : goal.invariant-loop-set
invariant-loop-set l = record {
  all : length l.copy ≡ set_count;
  done : (j : ℕ) → j + 1 < l.set → get_or l.copy j [] ≡ get_or l.sets j [];
  others : (j : ℕ) → l.set ≤ j + 1 → get_or l.copy j [] ≡ [];
}
