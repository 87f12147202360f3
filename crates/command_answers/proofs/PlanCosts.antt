-- The variables of a book are those that exist, and what a plan costs over them is its cost.
use Rattle.command_answers.proofs.Common.{◌≡◌, ℤ, true, List, ap, ◌∙◌, Data, Var, ascends, var_cmp, Has-from_Contains, Contains-from_Has, var_cmp_total, cost_of, model_cost, all_variables, exists, cost}
use Rattle.std.specs.List.{Contains}
use Rattle.row_problem.proofs.SameLists.{same-list}
use Rattle.named_equations.proofs.InstanceOrder.{variables-ascend}
use Rattle.named_equations.proofs.InstanceTests.{Contains-variables}
use Rattle.plan_costs.proofs.ModelCost.{cost-of_all}

-- the variables of a book are those that exist, in order
pub all-of : (d : Data) (vars : List Var) → ascends var_cmp vars ≡ true → ((v : Var) → Contains vars v → exists d v ≡ true) → ((v : Var) → exists d v ≡ true → Contains vars v) → vars ≡ all_variables d
all-of d vars up exist whole =
    same-list var_cmp var_cmp_total vars (all_variables d) up (variables-ascend d)
    (λ v h. Has-from_Contains (all_variables d) v ((Contains-variables d v).1 (exist v (Contains-from_Has vars v h))))
    (λ v h. Has-from_Contains vars v (whole v ((Contains-variables d v).0 (Contains-from_Has (all_variables d) v h))))

-- the cost of a plan, over the variables of a book
pub cost-is : (d : Data) (vars : List Var) → ascends var_cmp vars ≡ true → ((v : Var) → Contains vars v → exists d v ≡ true) → ((v : Var) → exists d v ≡ true → Contains vars v)
    → (x : Var → ℤ) → cost_of model_cost vars x ≡ cost d x
cost-is d vars up exist whole x = ap (λ vs. cost_of model_cost vs x) (all-of d vars up exist whole) ∙ cost-of_all d x
