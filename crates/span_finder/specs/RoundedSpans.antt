-- Between which values a variable lies in plans that cost at most a limit, by ends that are proved, with plans that come near them.
use Rattle.std.specs.Prelude.{◌≡◌, ℕ, pos, true, List, if◌then◌else◌}
use Rattle.row_problem.specs.Prelude.{is_le, Rational, lowest, minus, order_of, times, whole, value_of, Row, Var, var_cmp, value_in, absolute}
use Rattle.span_finder.specs.Spans.{HaveAtLeast, HaveAtMost, IsNearPlan}
use Rattle.span_finder.specs.declared.found.RoundedSpan.{RoundedSpan}

-- the greater of 1 and the absolute value of an end
abbrev pub measure_of : Rational → Rational
measure_of end = if is_le (order_of (absolute end) (whole (pos 1))) then whole (pos 1) else absolute end

-- so many millionths of it
abbrev pub gap_of : ℕ → Rational → Rational
gap_of ppm end = times (lowest (pos ppm) (pos 1000000)) (measure_of end)

-- one value is above another by at most so many millionths of the measure of an end
abbrev pub LieWithin : ℕ → Rational → Rational → Rational → Type 0
LieWithin ppm more less end = is_le (order_of (minus more less) (gap_of ppm end)) ≡ true

-- Each plan near the best has at least low of the variable, and one is given that has little more than low; it has at most high, and one is given that has little less than high: so many
-- millionths of the measure of the end.
pub record IsRoundedSpan (rows : List Row) (vars : List Var) (limit : Rational) (var : Var) (ppm : ℕ) (span : RoundedSpan) : Type 0 where
  pub low_plan : IsNearPlan rows vars limit span.low_plan
  pub low : HaveAtLeast rows vars limit var (value_of span.low)
  pub low_close : LieWithin ppm (value_in var_cmp span.low_plan var) (value_of span.low) (value_of span.low)
  pub high_plan : IsNearPlan rows vars limit span.high_plan
  pub high : HaveAtMost rows vars limit var (value_of span.high)
  pub high_close : LieWithin ppm (value_of span.high) (value_in var_cmp span.high_plan var) (value_of span.high)
