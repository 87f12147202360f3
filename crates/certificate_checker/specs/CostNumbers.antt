-- The numbers of a cost that a check is made for.
use Rattle.std.specs.Prelude.{ℤ, IsTrue, ⊤}
use Rattle.row_core.specs.declared.Var.{Var}
use Rattle.row_core.specs.Numbers.{variables_of, numbers_of, ascends, all_in_range}
use Rattle.row_core.specs.Order.{var_cmp}
use Rattle.row_core.specs.Rows.{number_at}
use Rattle.certificate_checker.specs.declared.costs.CostNumbers.{CostNumbers}
use Rattle.certificate_checker.specs.declared.costs.CostNumbers.TheVariants.{Model, Given, Zero}
use Rattle.certificate_checker.specs.Costs.{model_cost, no_cost}

abbrev pub number_of : CostNumbers → Var → ℤ
number_of Model v = model_cost v
number_of (Given entries) v = number_at entries.now v
number_of Zero v = no_cost v

-- a list ascends, and its numbers fit
abbrev pub IsCost : CostNumbers → Type 0
IsCost Model = ⊤
IsCost (Given entries) = IsTrue (ascends var_cmp (variables_of entries.now)) × IsTrue (all_in_range (numbers_of entries.now))
IsCost Zero = ⊤
