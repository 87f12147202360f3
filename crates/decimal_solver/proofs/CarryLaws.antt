-- What is carried back from the last state, and why nothing is.
use Rattle.row_problem.proofs.Common.{◌≡◌, ℕ, Bool, true, false, List, Option, refl, ◌&&◌, is_none, Rational, first_wide, Row, Var, Stopped, IsFirst, carrying_steps, plan_steps, stop_of, Values}
use Rattle.row_core.specs.declared.place.Stopped.TheVariants as parts
use Rattle.decimal_solver.proofs.Words.{carried, IsNothing}

and_false : (b : Bool) → (b && false) ≡ false
and_false true = refl
and_false false = refl

module _ (rows : List Row) (defs : List (Option Var)) (vars : List Var) (ppm : ℕ) (values : Values) (lambda : List Rational) (pivots : ℕ) where
  pub no_plan_carried : (stop : Stopped) → IsFirst (first_wide (plan_steps rows defs values)) stop → IsNothing (carried rows defs vars ppm values lambda pivots) (stop_of stop)
  no_plan_carried (parts.Width place) h = rw h refl
  no_plan_carried parts.Memory h = tt

  pub no_multipliers_carried : (stop : Stopped) → IsFirst (first_wide (carrying_steps true rows defs lambda)) stop → IsNothing (carried rows defs vars ppm values lambda pivots) (stop_of stop)
  no_multipliers_carried (parts.Width place) h = rw (h, and_false (is_none (first_wide (plan_steps rows defs values)))) refl
  no_multipliers_carried parts.Memory h = tt
