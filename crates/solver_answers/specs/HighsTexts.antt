-- The texts that HiGHS writes in its raw form (HiGHS documentation, "Solution file").
use Rattle.std.specs.Prelude.{ℕ, ◌||◌, List, [], ◌∷◌, codes, is_some, if◌then◌else◌}
use Rattle.solver_answers.specs.declared.found.Found.{Found}
use Rattle.solver_answers.specs.declared.found.Found.TheVariants.{Blank, End, Nothing, Wrong}
use Rattle.solver_answers.specs.Names.{at_name}
use Rattle.solver_answers.specs.Numbers.{is_count, number_in, whole_in}
use Rattle.solver_answers.specs.Words.{Word, says}

-- the second line: there is no plan, or the cost has no least value; after any other state there may be values
abbrev pub highs_state : List Word → Found
highs_state [] = Wrong
highs_state (first ∷ later) =
    if says first (codes "Infeasible") || (says first (codes "Unbounded") || says first (codes "Primal")) then Nothing else Blank

-- a line of one word says of the values whether there are any, and whether they are a plan's
abbrev pub highs_word : Word → Found
highs_word word =
    if says word (codes "None") then Nothing else if says word (codes "Feasible") || says word (codes "Infeasible") then Blank else Wrong

-- how many columns there are
abbrev pub highs_columns : ℕ → List Word → Found
highs_columns columns [] = Wrong
highs_columns columns (number ∷ later) = if is_count columns number then Blank else Wrong

-- how many rows there are, which may be those of the smaller program: any number
abbrev pub highs_rows : List Word → Found
highs_rows [] = Wrong
highs_rows (number ∷ later) = if is_some (whole_in number) then Blank else Wrong

-- after `#`: the values of columns and then those of rows, and the duals, which aren't read
abbrev pub highs_head : ℕ → Word → List Word → Found
highs_head columns word later =
    if says word (codes "Primal") then Blank
    else if says word (codes "Dual") then End
    else if says word (codes "Columns") then highs_columns columns later
    else if says word (codes "Rows") then highs_rows later
    else Wrong

-- a name and its value, and nothing more
abbrev pub highs_value : ℕ → ℕ → Word → Word → List Word → Found
highs_value columns rows name value [] = at_name columns rows name (number_in value)
highs_value columns rows name value (more ∷ later) = Wrong

-- a later line
abbrev pub highs_line : ℕ → ℕ → List Word → Found
highs_line columns rows [] = Blank
highs_line columns rows (word ∷ []) = highs_word word
highs_line columns rows (first ∷ second ∷ later) =
    if says first (codes "#") then highs_head columns second later
    else if says first (codes "Objective") then Blank
    else highs_value columns rows first second later
