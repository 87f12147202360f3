-- What one term adds to a common denominator and to the entries of a row.
use Rattle.std.specs.Prelude.{ℤ, List, [], ◌∷◌, if◌then◌else◌}
use Rattle.exact_num.specs.Rational.{Rational}
use Rattle.row_core.specs.declared.Var.{Var}
use Rattle.row_core.specs.Numbers.{is_zero}
use Rattle.row_core.specs.Written.{widened, numerator_over}

-- the common denominator with a term: a coefficient of 0 leaves it
abbrev pub widened_by_term : ℤ → Var × Rational → ℤ
widened_by_term d term = if is_zero term.1.top then d else widened d term.1.bottom

-- the entry of a term: none where its coefficient is 0
abbrev pub entry_over : ℤ → Var × Rational → List (Var × ℤ)
entry_over d term = if is_zero term.1.top then [] else ((term.0, numerator_over d term.1) ∷ [])
