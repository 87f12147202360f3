use Rattle.scaled_decimals.proofs.Common.{◌≡◌, ◌+◌, ◌^◌, ◌<◌, ◌≤◌, ℕ, drop, AreDigits, continued, IsHead}
use Rattle.scaled_decimals.proofs.reading.head.extended.Given as goal

abbrev pub invariant-loop-digit : goal.invariant-loop-digit
invariant-loop-digit l =
    (l.longer.value < 10 ^ 37)
    × (l.longer.dropped ≤ l.fn.head.dropped + l.digit-index)
    × AreDigits (drop l.digit-index l.digits)
    × ((m : ℕ) → IsHead l.fn.head m → (n : ℕ) × IsHead l.longer n × (continued n (drop l.digit-index l.digits) ≡ continued m l.digits))
