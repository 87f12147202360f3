-- Numbers that are at most others, as those that are rounded downward.
use Rattle.std.specs.Prelude.{◌≢◌}
use Rattle.std.specs.declared.cmp.Ordering.TheVariants.{Greater}
use Rattle.exact_num.specs.Rational.{Rational, order_of}

-- x isn't above y
abbrev pub IsAtMost : Rational → Rational → Type 0
IsAtMost x y = order_of x y ≢ Greater
