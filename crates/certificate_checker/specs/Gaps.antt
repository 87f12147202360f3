-- How far a cost may be above a bound: by so many millionths of the bound's absolute value.
use Rattle.std.specs.Prelude.{ℕ, ℤ, pos, unsigned_abs, ◌-ℤ◌, ◌*ℤ◌, ◌≤ℤ◌, int_lt, List, [], ◌∷◌, ◌++◌, if◌then◌else◌}
use Rattle.std.specs.Ordering.{is_le}
use Rattle.exact_num.specs.Formed.{difference_formed, product_formed}
use Rattle.exact_num.specs.Rational.{Rational, lowest, minus, times, order_of}
use Rattle.row_core.specs.declared.place.Place.TheVariants.{SumGap}
use Rattle.certificate_checker.specs.Conditions.{Condition, formed_at}
use Rattle.certificate_checker.specs.PlanChecks.{absolute}
use Rattle.certificate_checker.specs.Reasons.{gap_passed}

-- the cost less the bound is at most ppm millionths of the bound's absolute value: multiplied out
abbrev pub Within : Rational → Rational → ℕ → Type 0
Within cost bound ppm =
    (((cost.top *ℤ bound.bottom) -ℤ (bound.top *ℤ cost.bottom)) *ℤ pos 1000000) ≤ℤ ((pos ppm *ℤ pos (unsigned_abs bound.top)) *ℤ cost.bottom)

-- ppm millionths of the bound's absolute value
abbrev pub part_of : ℕ → Rational → Rational
part_of ppm bound = times (absolute bound) (lowest (pos ppm) (pos 1000000))

-- the part is formed only where the cost is above the bound
abbrev pub gap_formed : Rational → Rational → ℕ → List ℤ
gap_formed cost bound ppm =
    difference_formed cost bound ++ (if int_lt (pos 0) (minus cost bound).top then product_formed (absolute bound) (lowest (pos ppm) (pos 1000000)) else [])

abbrev pub gap_condition : Rational → Rational → ℕ → Condition
gap_condition cost bound ppm = record {
  seen = formed_at SumGap (gap_formed cost bound ppm);
  holds = is_le (order_of (minus cost bound) (part_of ppm bound));
  reason = gap_passed (minus cost bound);
  amount = [];
}
