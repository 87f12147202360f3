-- What a plan costs: a number for each variable times its value.
use Rattle.std.specs.Prelude.{ℤ, pos, ◌==◌, ◌*ℤ◌, List, [], ◌∷◌, if◌then◌else◌}
use Rattle.exact_num.specs.Rational.{Rational, whole}
use Rattle.row_core.specs.declared.Var.{Var}
use Rattle.row_core.specs.declared.kind_numbers.TheConstants.{TOTAL_DISCOUNTED_COST}
use Rattle.row_core.specs.Evaluated.{sum_from, sum_from_formed}
use Rattle.row_core.specs.Numbers.{is_zero}
use Rattle.certificate_checker.specs.Sums.{sum_over}

-- the numbers of the model's cost: the sum of all TotalDiscountedCost
abbrev pub model_cost : Var → ℤ
model_cost v = if v.kind == TOTAL_DISCOUNTED_COST then pos 1 else pos 0

-- no cost
abbrev pub no_cost : Var → ℤ
no_cost v = pos 0

-- the variables of a list that have a number in the cost, with it
abbrev pub cost_entries : (Var → ℤ) → List Var → List (Var × ℤ)
cost_entries cost [] = []
cost_entries cost (v ∷ vs) = if is_zero (cost v) then cost_entries cost vs else ((v, cost v) ∷ cost_entries cost vs)

-- numbers times the values of their keys, added from left to right, and what this forms
abbrev pub total : {K : Type 0} → (K → Rational) → List (K × ℤ) → Rational
total value es = sum_from value (whole (pos 0)) es

abbrev pub total_formed : {K : Type 0} → (K → Rational) → List (K × ℤ) → List ℤ
total_formed value es = sum_from_formed value (whole (pos 0)) es

-- the cost of values
abbrev pub cost_value : (Var → ℤ) → List Var → (Var → Rational) → Rational
cost_value cost vars value = total value (cost_entries cost vars)

-- the cost of whole numbers x
abbrev pub cost_of : (Var → ℤ) → List Var → (Var → ℤ) → ℤ
cost_of cost vars x = sum_over vars (λ v. cost v *ℤ x v)
