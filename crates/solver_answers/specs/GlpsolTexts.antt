-- The texts that `-w` of glpsol writes (GNU Linear Programming Kit Reference Manual, `glp_write_sol`, `glp_write_ipt`, `glp_write_mip`).
use Rattle.std.specs.Prelude.{ℕ, ◌&&◌, ◌||◌, List, [], ◌∷◌, codes, is_some, if◌then◌else◌}
use Rattle.solver_answers.specs.declared.found.Found.{Found}
use Rattle.solver_answers.specs.declared.found.Found.TheVariants.{Blank, End, Nothing, Passed, Wrong}
use Rattle.solver_answers.specs.Names.{at_column}
use Rattle.solver_answers.specs.Numbers.{is_count, number_in, place_in, whole_in}
use Rattle.solver_answers.specs.Words.{Word, says}

-- the state of a basic solution: it is a plan and no other costs less where both letters are `f`
abbrev pub basic_state : List Word → Found
basic_state (primal ∷ dual ∷ later) = if says primal (codes "f") && says dual (codes "f") then Blank else Nothing
basic_state other = Wrong

-- the state of another solution: optimal, or a plan
abbrev pub plain_state : List Word → Found
plain_state [] = Wrong
plain_state (letter ∷ later) = if says letter (codes "o") || says letter (codes "f") then Blank else Nothing

-- after `s`: the sort of solution, how many rows and columns there are, and the state. The rows may be those of the smaller program, so they are any number
abbrev pub glpsol_state : ℕ → List Word → Found
glpsol_state columns (kind ∷ row_count ∷ column_count ∷ state) =
    if is_some (whole_in row_count) && is_count columns column_count then (if says kind (codes "bas") then basic_state state else plain_state state) else Wrong
glpsol_state columns other = Wrong

-- after `j`: the number of a column, in a basic solution the letter of its status, its value, and but for a mixed integer one its dual
abbrev pub glpsol_column : ℕ → List Word → Found
glpsol_column columns (column ∷ value ∷ []) = at_column (place_in columns column) (number_in value)
glpsol_column columns (column ∷ value ∷ dual ∷ []) = at_column (place_in columns column) (number_in value)
glpsol_column columns (column ∷ status ∷ value ∷ dual ∷ []) = at_column (place_in columns column) (number_in value)
glpsol_column columns other = Wrong

-- a line: a comment, the state, a row, a column, or the end
abbrev pub glpsol_line : ℕ → List Word → Found
glpsol_line columns [] = Blank
glpsol_line columns (letter ∷ later) =
    if says letter (codes "c") then Blank
    else if says letter (codes "s") then glpsol_state columns later
    else if says letter (codes "i") then Passed
    else if says letter (codes "j") then glpsol_column columns later
    else if says letter (codes "e") then End
    else Wrong
