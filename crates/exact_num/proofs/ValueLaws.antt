-- What every fraction keeps, said of its exact value.
use Rattle.exact_num.proofs.Common.{◌≡◌, IsLowest, value_of}
use Rattle.exact_num.specs.declared.fraction.Frac.{Frac}

-- a fraction's value is in lowest terms
pub value_of-IsLowest : (f : Frac) → IsLowest (value_of f)
value_of-IsLowest f = record { positive = f.positive; coprime = f.lowest }
