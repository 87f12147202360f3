-- What plans, directions and proofs are as lists.
use Rattle.std.specs.Prelude.{List}
use Rattle.exact_num.specs.Rational.{Rational}
use Rattle.row_core.specs.declared.RowName.{RowName}
use Rattle.row_core.specs.declared.Var.{Var}

-- a value for each of some variables
abbrev pub Values : Type 0
Values = List (Var × Rational)

-- a multiplier for each of some rows
abbrev pub Multipliers : Type 0
Multipliers = List (RowName × Rational)
