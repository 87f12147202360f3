-- The map has the entries so far.
use Rattle.std.proofs.Common.{◌≡◌, take}
use Rattle.variable_elimination.proofs.values.by_key.Given as goal

abbrev pub invariant-loop-key : goal.invariant-loop-key
invariant-loop-key g l = l.values.entries ≡ take l.key-index l.entries
