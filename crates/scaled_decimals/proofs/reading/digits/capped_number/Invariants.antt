use Rattle.scaled_decimals.proofs.Common.{◌≡◌, ◌^◌, ◌≤◌, drop, min, continued}
use Rattle.scaled_decimals.proofs.reading.digits.capped_number.Given as goal

abbrev pub invariant-loop-digit : goal.invariant-loop-digit
invariant-loop-digit l = (l.number ≤ 2 ^ 127) × (min (continued l.number (drop l.digit-index l.digits)) (2 ^ 127) ≡ min (continued l.fn.so_far l.digits) (2 ^ 127))
