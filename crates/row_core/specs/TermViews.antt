-- What contracts see of the terms that the code keeps.
use Rattle.exact_num.specs.Rational.{Rational}
use Rattle.exact_num.specs.Value.{value_of}
use Rattle.row_core.specs.declared.terms.Term.{Term}
use Rattle.row_core.specs.declared.Var.{Var}

-- a term as its variable and the exact value of its coefficient
abbrev pub seen : Term → Var × Rational
seen term = (term.variable, value_of term.coefficient)
