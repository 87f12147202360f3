-- Exact values by key, as the code keeps them.
use Rattle.std.specs.Prelude.{List, map}
use Rattle.std.specs.BTreeMap.{BTreeMap}
use Rattle.exact_num.specs.Rational.{Rational}
use Rattle.exact_num.specs.declared.fraction.Frac.{Frac}
use Rattle.row_core.specs.Plans.{valued}

-- the keys with the values of their fractions
abbrev pub values_in : {K : Type 0} → BTreeMap K Frac → List (K × Rational)
values_in values = map valued values.entries
