-- No right side so far is negative.
use Rattle.int_tableau.proofs.Common.{◌≡◌, map, drop, any_negative, inequality_of}
use Rattle.int_tableau.proofs.starting.any_negative.Given as goal

abbrev pub invariant-loop-row : goal.invariant-loop-row
invariant-loop-row l = any_negative (map inequality_of l.rows) ≡ any_negative (map inequality_of (drop l.row-index l.rows))
