-- What is to be as little as it can be: the model's cost, or the value of one variable, as it is or turned.
use Rattle.std.specs.Prelude.{ℤ, pos, negsuc, Bool, true, false, [], ◌∷◌, Option, Some, None}
use Rattle.row_core.specs.declared.Var.{Var}
use Rattle.row_core.specs.Rows.{number_at}
use Rattle.certificate_checker.specs.Costs.{model_cost}
use Rattle.certified_answers.specs.declared.costs.Cost.{Cost}
use Rattle.certified_answers.specs.declared.costs.Cost.TheVariants.{Model, One}
use Rattle.certified_answers.specs.declared.costs.Goal.{Goal}
use Rattle.certified_answers.specs.declared.costs.Goal.TheVariants.{Least, Greatest}

-- the number of the variable where one variable's value is looked for: 1 for the least, -1 for the greatest
abbrev pub sign_of : Goal → ℤ
sign_of Least = pos 1
sign_of Greatest = negsuc 0

-- the one variable that has a number, with it; none in the model's cost
abbrev pub one_number : Cost → Option (Var × ℤ)
one_number Model = None
one_number (One var goal) = Some (var, sign_of goal)

abbrev pub weight_at : Option (Var × ℤ) → Var → ℤ
weight_at None = model_cost
weight_at (Some one) = number_at (one ∷ [])

-- the number of each variable in the cost
abbrev pub weight_of : Cost → Var → ℤ
weight_of cost = weight_at (one_number cost)

-- it is the model's cost
abbrev pub is_model : Cost → Bool
is_model Model = true
is_model (One var goal) = false
