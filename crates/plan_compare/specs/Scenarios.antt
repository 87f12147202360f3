-- What is compared: a plan over sets, its cost, and a bound that no plan of its data costs less than.
use Rattle.std.specs.Prelude.{List}
use Rattle.exact_num.specs.Rational.{Rational}
use Rattle.model_sets.specs.Members.{SetLists}
use Rattle.row_core.specs.declared.Var.{Var}
use Rattle.plan_compare.specs.declared.scenario.Scenario.{Scenario}

-- the sets, and the values of the plan
pub record Side : Type 0 where
  pub sets : SetLists
  pub plan : List (Var × Rational)

-- those of a scenario
abbrev pub side_of : Scenario → Side
side_of scenario = record { sets = scenario.sets.now; plan = scenario.plan.now }
