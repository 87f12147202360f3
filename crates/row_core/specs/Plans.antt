-- Lists of values: one for each variable of a plan, or for each row of a list of multipliers.
use Rattle.std.specs.Prelude.{pos, List, Option, Some, None}
use Rattle.std.specs.declared.cmp.Ordering.{Ordering}
use Rattle.exact_num.specs.Rational.{Rational, whole}
use Rattle.exact_num.specs.Value.{value_of}
use Rattle.exact_num.specs.declared.fraction.Frac.{Frac}
use Rattle.row_core.specs.LookUps.{value_at}

-- a key, and the value of its fraction
abbrev pub valued : {K : Type 0} → K × Frac → K × Rational
valued entry = (entry.0, value_of entry.1)

-- the value that there is, or 0
abbrev pub or_zero : Option Rational → Rational
or_zero None = whole (pos 0)
or_zero (Some value) = value

-- the value at a key, 0 where the list has none
abbrev pub value_in : {K : Type 0} → (K → K → Ordering) → List (K × Rational) → K → Rational
value_in cmp values key = or_zero (value_at cmp values key)
