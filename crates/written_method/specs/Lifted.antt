-- Values of the columns carried to the defined variables.
use Rattle.std.specs.Prelude.{ℤ, pos, List, [], ◌∷◌}
use Rattle.std.specs.BTreeMap.{insert_entry}
use Rattle.exact_num.specs.Rational.{Rational}
use Rattle.exact_num.specs.Steps.{Step}
use Rattle.row_core.specs.declared.Var.{Var}
use Rattle.row_core.specs.declared.place.Place.{Place}
use Rattle.row_core.specs.Order.{var_cmp}
use Rattle.row_core.specs.Plans.{value_in}
use Rattle.written_method.specs.Definitions.{Definition, own_of}
use Rattle.written_method.specs.SolvedFor.{solved_for, solved_formed}

-- what the row gives its variable: the right side less the sum of the other entries times their values, divided by its entry
abbrev pub lifted_value : (Definition → ℤ) → (Var → Rational) → Definition → Rational
lifted_value right value d = solved_for var_cmp value d.variable d.row.entries.items (right d) (own_of d)

abbrev pub lifted_formed : (Definition → ℤ) → (Var → Rational) → Definition → List ℤ
lifted_formed right value d = solved_formed var_cmp value d.variable d.row.entries.items (right d) (own_of d)

-- the value of each defined variable in turn, in the order of rows
abbrev pub lifted : (Definition → ℤ) → List Definition → List (Var × Rational) → List (Var × Rational)
lifted right [] values = values
lifted right (d ∷ ds) values = lifted right ds (insert_entry var_cmp values d.variable (lifted_value right (value_in var_cmp values) d))

-- one step for each
abbrev pub lifted_steps : (Definition → ℤ) → (Var → Place) → List Definition → List (Var × Rational) → List (Step Place)
lifted_steps right place [] values = []
lifted_steps right place (d ∷ ds) values =
    record { place = place d.variable; formed = lifted_formed right (value_in var_cmp values) d }
    ∷ lifted_steps right place ds (insert_entry var_cmp values d.variable (lifted_value right (value_in var_cmp values) d))

-- for a plan with the right sides of the rows, for a direction with 0
abbrev pub right_side : Definition → ℤ
right_side d = d.row.rhs

abbrev pub no_right_side : Definition → ℤ
no_right_side d = pos 0
