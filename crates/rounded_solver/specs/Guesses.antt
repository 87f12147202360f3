-- What a guess at values has. That they meet the rows isn't said.
use Rattle.std.specs.Prelude.{◌≡◌, List, ⊤}
use Rattle.row_core.specs.declared.Var.{Var}
use Rattle.row_core.specs.Numbers.{keys_of}
use Rattle.rounded_solver.specs.declared.guesses.Guess.{Guess}
use Rattle.rounded_solver.specs.declared.guesses.Guess.TheVariants.{Values, NoValues, Nothing}

-- where there are values, each column has one, in order
abbrev pub IfValues : List Var → Guess → Type 0
IfValues columns (Values plan) = keys_of plan ≡ columns
IfValues columns NoValues = ⊤
IfValues columns Nothing = ⊤
