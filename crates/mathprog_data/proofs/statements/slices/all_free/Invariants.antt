use Rattle.mathprog_data.proofs.Common.{◌≡◌, all_free}
use Rattle.mathprog_data.proofs.statements.slices.all_free.Given as goal

abbrev pub invariant-loop : goal.invariant-loop
invariant-loop l = l.slice.items ≡ all_free l.counter
