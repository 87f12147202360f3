-- How large the solver's linear program is.
use Rattle.std.specs.Prelude.{ℕ, Bool, true, false, ◌&&◌, ◌||◌, ◌==◌, nat_lt, List, count_by, sum_by, if◌then◌else◌}
use Rattle.row_problem.specs.Prelude.{Row, Equal, Most, Var, RATE_OF_ACTIVITY, NEW_CAPACITY, TRADE}
use Rattle.row_core.specs.declared.Sense.{Sense}
use Rattle.row_core.specs.declared.Sense.TheVariants.{Least}

-- the row is no equation
abbrev pub is_unequal : Sense → Bool
is_unequal Least = true
is_unequal Equal = false
is_unequal Most = true

-- how many of the rows are inequalities
abbrev pub inequality_count : List Row → ℕ
inequality_count rows = count_by (λ row. is_unequal row.sense) rows

-- a RateOfActivity or a NewCapacity has one column, the Trade of two regions in their order a column for each direction, and any other variable none
abbrev pub columns_at : Var → ℕ
columns_at v =
    if (v.kind == RATE_OF_ACTIVITY) || (v.kind == NEW_CAPACITY) then 1 else if (v.kind == TRADE) && nat_lt v.index.region v.index.other then 2 else 0

-- how many columns the variables have together
abbrev pub column_count : List Var → ℕ
column_count vars = sum_by columns_at vars
