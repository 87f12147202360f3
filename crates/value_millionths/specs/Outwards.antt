-- Values rounded down and up to whole millionths.
use Rattle.std.specs.Prelude.{ℤ, pos, negsuc, ◌+ℤ◌, Option, Some, None, if◌then◌else◌}
use Rattle.std.specs.Option.{option_and_then}
use Rattle.std.specs.Ordering.{is_gt, is_lt}
use Rattle.exact_num.specs.Range.{in_range}
use Rattle.exact_num.specs.Rational.{Rational, lowest, order_of}
use Rattle.value_millionths.specs.Shown.{shown}

-- so many millionths
abbrev pub parts : ℤ → Rational
parts n = lowest n (pos 1000000)

-- the number, where it fits
abbrev pub fitting : ℤ → Option ℤ
fitting z = if in_range z then Some z else None

-- of a number of millionths the same, or one less where it is above the value
abbrev pub lowered : Rational → ℤ → Option ℤ
lowered x n = if in_range n then (if is_gt (order_of (parts n) x) then fitting (n +ℤ negsuc 0) else Some n) else None

-- or one more where it is below
abbrev pub raised : Rational → ℤ → Option ℤ
raised x n = if in_range n then (if is_lt (order_of (parts n) x) then fitting (n +ℤ pos 1) else Some n) else None

-- the greatest number of millionths that isn't above a value: the nearest, or one less
abbrev pub down : Rational → Option ℤ
down x = option_and_then (lowered x) (shown x)

-- the least that isn't below it
abbrev pub up : Rational → Option ℤ
up x = option_and_then (raised x) (shown x)
