-- Exact values as whole numbers over one denominator.
use Rattle.std.specs.Prelude.{ℕ, ℤ, pos, ◌<◌, ◌<ℤ◌, List}
use Rattle.std.specs.declared.cmp.Ordering.{Ordering}
use Rattle.exact_num.specs.Rational.{Rational}
use Rattle.row_core.specs.Plans.{value_in}
use Rattle.row_core.specs.Values.{IsOver}

-- a positive whole number, and a whole number for each key, over it
pub record AreOverSome {K : Type 0} (cmp : K → K → Ordering) (values : List (K × Rational)) : Type 0 where
  pub over : ℕ
  pub number : K → ℤ
  pub positive : 0 < over
  pub each : (k : K) → IsOver (pos over) (value_in cmp values k) (number k)

-- the denominator of the value is above 0
abbrev pub HasPositiveBottom : {K : Type 0} → K × Rational → Type 0
HasPositiveBottom entry = pos 0 <ℤ entry.1.bottom
