use Rattle.mathprog_data.proofs.Common.{◌≡◌, ◌+◌, ◌≤◌, drop, free_count}
use Rattle.mathprog_data.proofs.statements.slices.free_count.Given as goal

abbrev pub invariant-loop-place : goal.invariant-loop-place
invariant-loop-place l = (l.count + free_count (drop l.place-index l.slice) ≡ free_count l.slice) × (l.count ≤ l.place-index)
