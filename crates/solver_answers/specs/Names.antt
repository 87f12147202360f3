-- What is found at the names of columns and rows, which are those of the texts of `osemosys mps` and `osemosys reduce`: `C` and a number, the variables in
-- their order; `R` and a number, rows; and in the latter `M` and a number, combinations of rows.
use Rattle.std.specs.Prelude.{ℕ, ◌==◌, [], ◌∷◌, Option, Some, None, if◌then◌else◌}
use Rattle.std.specs.Float.{Float}
use Rattle.solver_answers.specs.declared.found.Found.{Found}
use Rattle.solver_answers.specs.declared.found.Found.TheVariants.{Value, Passed, Wrong}
use Rattle.solver_answers.specs.Numbers.{place_in, whole_in}
use Rattle.solver_answers.specs.Words.{Word}

-- at a column is its value
abbrev pub at_column : Option ℕ → Option Float → Found
at_column (Some place) (Some value) = Value place value
at_column (Some place) None = Wrong
at_column None value = Wrong

-- at a row nothing is taken
abbrev pub at_row : Option ℕ → Option Float → Found
at_row (Some place) (Some value) = Passed
at_row (Some place) None = Wrong
at_row None value = Wrong

-- at a name: `C` and the number of a column, `R` and that of a row, or `M` and any number
abbrev pub at_name : ℕ → ℕ → Word → Option Float → Found
at_name columns rows [] value = Wrong
at_name columns rows (letter ∷ digits) value =
    if letter == 67 then at_column (place_in columns digits) value
    else if letter == 82 then at_row (place_in rows digits) value
    else if letter == 77 then at_row (whole_in digits) value
    else Wrong
