-- Values as the code keeps them, and what holds before the definitions that are left.
use Rattle.std.specs.Prelude.{◌≡◌, ℤ, List}
use Rattle.std.specs.BTreeMap.{BTreeMap}
use Rattle.exact_num.specs.Rational.{Rational}
use Rattle.exact_num.specs.Steps.{first_wide}
use Rattle.exact_num.specs.declared.fraction.Frac.{Frac}
use Rattle.row_core.specs.declared.Row.{Row}
use Rattle.row_core.specs.declared.Var.{Var}
use Rattle.row_core.specs.declared.place.Place.{Place}
use Rattle.row_core.specs.declared.place.Place.TheVariants.{LiftPlan, LiftDirection}
use Rattle.written_method.specs.Definitions.{Definition}
use Rattle.written_method.specs.Lifted.{lifted, lifted_steps, right_side, no_right_side}
use Rattle.variable_elimination.specs.Valued.{values_in}
use Rattle.variable_elimination.specs.declared.lifting.Lift.{Lift}
use Rattle.variable_elimination.specs.declared.lifting.Lift.TheVariants.{Plan, Direction}

-- the right sides of a plan, and of a direction; and the places
abbrev pub right_by : Lift → Definition → ℤ
right_by Plan = right_side
right_by Direction = no_right_side

abbrev pub place_by : Lift → Var → Place
place_by Plan = LiftPlan
place_by Direction = LiftDirection

abbrev pub definition_by : Row → Var → Definition
definition_by row v = record { row = row; variable = v }

-- what all definitions make and form is what those that are left make and form
pub record IsLifting (goal : Lift) (all rest : List Definition) (values : List (Var × Rational)) (now : BTreeMap Var Frac) : Type 0 where
  pub made : lifted (right_by goal) rest (values_in now) ≡ lifted (right_by goal) all values
  pub steps : first_wide (lifted_steps (right_by goal) (place_by goal) all values) ≡ first_wide (lifted_steps (right_by goal) (place_by goal) rest (values_in now))
