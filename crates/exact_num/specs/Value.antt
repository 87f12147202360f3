-- The exact value of a fraction.
use Rattle.exact_num.specs.Rational.{Rational}
use Rattle.exact_num.specs.declared.fraction.Frac.{Frac}

-- the number num / den
abbrev pub value_of : Frac → Rational
value_of f = record { top = f.num; bottom = f.den }
