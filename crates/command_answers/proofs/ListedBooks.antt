-- The rows and variables of a book are those of the sets.
use Rattle.command_answers.proofs.Common.{◌≡◌, List, [], ◌∷◌, map, AllByRecursion, SetLists, Row, Var, IsListedRow, IsListedVariable, name_of_row, HasNameWithin, IsWithinSets, IsListedBook}

-- the same rows and variables are as much listed
pub listed-as : (sets : SetLists) (rows : List Row) (vars : List Var) (same_rows : List Row) (same_vars : List Var) → same_rows ≡ rows → same_vars ≡ vars
    → IsListedBook sets rows vars → IsListedBook sets same_rows same_vars
listed-as sets rows vars same_rows same_vars rows_are vars_are book =
    rw (rows_are, vars_are) book

each-named : (sets : SetLists) (rows : List Row) → AllByRecursion (IsListedRow sets) (map name_of_row rows) → AllByRecursion (HasNameWithin sets) rows
each-named sets [] listed = tt
each-named sets (row ∷ rows) listed = ((listed.0.0, listed.0.1), each-named sets rows listed.1)

each-within : (sets : SetLists) (vars : List Var) → AllByRecursion (IsListedVariable sets) vars → AllByRecursion (IsWithinSets sets) vars
each-within sets [] listed = tt
each-within sets (v ∷ vars) listed = ((listed.0.0, listed.0.1), each-within sets vars listed.1)

-- so their names can be written
pub rows-named : (sets : SetLists) (rows : List Row) (vars : List Var) → IsListedBook sets rows vars → AllByRecursion (HasNameWithin sets) rows
rows-named sets rows vars book = each-named sets rows book.rows_listed

pub vars-named : (sets : SetLists) (rows : List Row) (vars : List Var) → IsListedBook sets rows vars → AllByRecursion (IsWithinSets sets) vars
vars-named sets rows vars book = each-within sets vars book.vars_listed
