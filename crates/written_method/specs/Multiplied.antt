-- Multipliers of the reduced rows carried to the named rows: to those that define nothing by their scales, and then to the definitions, from the last to the first. Every other row has the multiplier 0.
use Rattle.std.specs.Prelude.{ℤ, pos, Bool, ◌&&◌, ◌==◌, List, [], ◌∷◌, ◌++◌, if◌then◌else◌}
use Rattle.std.specs.BTreeMap.{insert_entry}
use Rattle.exact_num.specs.Formed.{product_formed}
use Rattle.exact_num.specs.Rational.{Rational, times}
use Rattle.exact_num.specs.Steps.{Step}
use Rattle.row_core.specs.declared.Row.{Row}
use Rattle.row_core.specs.declared.RowName.{RowName}
use Rattle.row_core.specs.declared.Var.{Var}
use Rattle.row_core.specs.declared.kind_numbers.TheConstants.{TOTAL_DISCOUNTED_COST}
use Rattle.row_core.specs.declared.place.Place.{Place}
use Rattle.row_core.specs.declared.place.Place.TheVariants.{LiftMultiplier}
use Rattle.row_core.specs.Columns.{column_of}
use Rattle.row_core.specs.Order.{row_name_cmp}
use Rattle.row_core.specs.Plans.{value_in}
use Rattle.written_method.specs.Definitions.{Definition, own_of}
use Rattle.written_method.specs.SolvedFor.{solved_for, solved_formed}

-- ---- the rows that define nothing

-- the multiplier of each reduced row times its scale, under the row's name
abbrev pub scaled_multipliers : List RowName → List Rational → List Rational → List (RowName × Rational) → List (RowName × Rational)
scaled_multipliers [] scales multipliers made = made
scaled_multipliers (name ∷ names) [] multipliers made = made
scaled_multipliers (name ∷ names) (scale ∷ scales) [] made = made
scaled_multipliers (name ∷ names) (scale ∷ scales) (multiplier ∷ multipliers) made =
    scaled_multipliers names scales multipliers (insert_entry row_name_cmp made name (times multiplier scale))

-- one step for each
abbrev pub scaled_steps : List RowName → List Rational → List Rational → List (Step Place)
scaled_steps [] scales multipliers = []
scaled_steps (name ∷ names) [] multipliers = []
scaled_steps (name ∷ names) (scale ∷ scales) [] = []
scaled_steps (name ∷ names) (scale ∷ scales) (multiplier ∷ multipliers) =
    record { place = LiftMultiplier name; formed = product_formed multiplier scale } ∷ scaled_steps names scales multipliers

-- ---- the definitions

-- the coefficient of a variable in the cost, which is the sum of all TotalDiscountedCost; or 0 where multipliers are to refute
abbrev pub coefficient : Bool → Var → ℤ
coefficient with_cost v = if with_cost && (v.kind == TOTAL_DISCOUNTED_COST) then pos 1 else pos 0

-- the variable's coefficient less the sum over the other rows of multiplier times entry at the variable, divided by the definition's entry
abbrev pub multiplier_of : Bool → List Row → (RowName → Rational) → Definition → Rational
multiplier_of with_cost rows value d = solved_for row_name_cmp value d.row.name (column_of rows d.variable) (coefficient with_cost d.variable) (own_of d)

abbrev pub multiplier_formed : Bool → List Row → (RowName → Rational) → Definition → List ℤ
multiplier_formed with_cost rows value d = solved_formed row_name_cmp value d.row.name (column_of rows d.variable) (coefficient with_cost d.variable) (own_of d)

-- the multiplier of each definition in turn, the last one first
abbrev pub defined_multipliers : Bool → List Row → List Definition → List (RowName × Rational) → List (RowName × Rational)
defined_multipliers with_cost rows [] made = made
defined_multipliers with_cost rows (d ∷ ds) made =
    insert_entry row_name_cmp (defined_multipliers with_cost rows ds made) d.row.name
    (multiplier_of with_cost rows (value_in row_name_cmp (defined_multipliers with_cost rows ds made)) d)

-- one step for each
abbrev pub defined_steps : Bool → List Row → List Definition → List (RowName × Rational) → List (Step Place)
defined_steps with_cost rows [] made = []
defined_steps with_cost rows (d ∷ ds) made =
    defined_steps with_cost rows ds made
    ++ record { place = LiftMultiplier d.row.name; formed = multiplier_formed with_cost rows (value_in row_name_cmp (defined_multipliers with_cost rows ds made)) d } ∷ []

-- ---- all rows

abbrev pub named_multipliers : Bool → List Row → List Definition → List RowName → List Rational → List Rational → List (RowName × Rational)
named_multipliers with_cost rows ds names scales multipliers = defined_multipliers with_cost rows ds (scaled_multipliers names scales multipliers [])

abbrev pub multiplier_steps : Bool → List Row → List Definition → List RowName → List Rational → List Rational → List (Step Place)
multiplier_steps with_cost rows ds names scales multipliers =
    scaled_steps names scales multipliers ++ defined_steps with_cost rows ds (scaled_multipliers names scales multipliers [])
