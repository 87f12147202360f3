use Rattle.mathprog_data.proofs.Common.{◌≡◌, Grown}
use Rattle.mathprog_data.proofs.values.Values.keep_names.Given as goal

abbrev pub invariant-loop-i : goal.invariant-loop-i
invariant-loop-i l = (Grown l.initial.self-inside.names.items l.self-inside.names.items) × (l.self-inside.kept ≡ l.initial.self-inside.kept)
