-- The texts that `-solution` of Clp and CBC writes: a line of the state, and lines of names with their values.
use Rattle.std.specs.Prelude.{ℕ, Bool, ◌||◌, List, [], ◌∷◌, Option, Some, None, codes, if◌then◌else◌}
use Rattle.std.specs.Float.{Float}
use Rattle.solver_answers.specs.declared.found.Found.{Found}
use Rattle.solver_answers.specs.declared.found.Found.TheVariants.{Blank, Nothing, Wrong}
use Rattle.solver_answers.specs.Names.{at_name}
use Rattle.solver_answers.specs.Numbers.{number_in}
use Rattle.solver_answers.specs.Words.{Word, says}

-- the states after which values of a plan follow, though it may not be the best
abbrev pub has_values : Word → Bool
has_values word = says word (codes "optimal") || says word (codes "stopped")

-- all states, by their first words
abbrev pub is_state : Word → Bool
is_state word =
    has_values word || (says word (codes "infeasible") || (says word (codes "unbounded") || (says word (codes "integer") || says word (codes "status"))))

-- the first line
abbrev pub coin_state : List Word → Found
coin_state [] = Nothing
coin_state (first ∷ later) = if has_values first then Blank else Nothing

-- what is found, if the dual beside it is a number
abbrev pub beside_dual : Option Float → Found → Found
beside_dual (Some dual) found = found
beside_dual None found = Wrong

-- a name, its value, and mostly its dual
abbrev pub coin_values : ℕ → ℕ → List Word → Found
coin_values columns rows (name ∷ value ∷ []) = at_name columns rows name (number_in value)
coin_values columns rows (name ∷ value ∷ dual ∷ []) = beside_dual (number_in dual) (at_name columns rows name (number_in value))
coin_values columns rows other = Wrong

-- these after a number, which isn't looked at
abbrev pub coin_record : ℕ → ℕ → List Word → Found
coin_record columns rows [] = Wrong
coin_record columns rows (number ∷ later) = coin_values columns rows later

-- a later line: Clp may write the objective below the state, and `**` before what breaks a bound
abbrev pub coin_line : ℕ → ℕ → List Word → Found
coin_line columns rows [] = Blank
coin_line columns rows (first ∷ later) =
    if says first (codes "objective") then Blank else if says first (codes "**") then coin_record columns rows later else coin_values columns rows later
