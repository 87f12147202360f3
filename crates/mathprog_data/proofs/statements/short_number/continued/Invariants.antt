use Rattle.mathprog_data.proofs.Common.{◌≡◌, ◌≤◌, drop, continued}
use Rattle.mathprog_data.proofs.statements.short_number.continued.Given as goal

abbrev pub invariant-loop-digit : goal.invariant-loop-digit
invariant-loop-digit l = (l.number ≤ 1000000255) × (continued l.number (drop l.digit-index l.digits) ≡ continued l.fn.so_far l.digits)
