-- The variables of small rows.
use Rattle.std.specs.Prelude.{List, [], ◌∷◌, ⊤}
use Rattle.exact_num.specs.Rational.{Rational}
use Rattle.row_core.specs.declared.Var.{Var}
use Rattle.written_method.specs.Ready.{IsAmong}
use Rattle.solver_cases.specs.declared.small_rows.TheConstants.{ACTIVITY, CAPACITY}

-- an activity, a capacity and a third one
abbrev pub variables : Var → List Var
variables third = ACTIVITY ∷ CAPACITY ∷ third ∷ []

-- each term is of one of them
abbrev pub AreKnown : Var → List (Var × Rational) → Type 0
AreKnown third [] = ⊤
AreKnown third (term ∷ terms) = IsAmong term.0 (variables third) × AreKnown third terms
