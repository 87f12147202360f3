-- What is certified of rows: in the checker's words, over all rows.
use Rattle.std.specs.Prelude.{◌≡◌, ℕ, ◌≤◌, true, Contains, List, ⊤}
use Rattle.exact_num.specs.Rational.{Rational, negated}
use Rattle.exact_num.specs.Value.{value_of}
use Rattle.row_core.specs.declared.Row.{Row}
use Rattle.row_core.specs.declared.RowName.{RowName}
use Rattle.row_core.specs.declared.Var.{Var}
use Rattle.row_core.specs.Numbers.{ascends, keys_of}
use Rattle.row_core.specs.Order.{row_name_cmp, var_cmp}
use Rattle.row_core.specs.Plans.{value_in}
use Rattle.row_core.specs.RowLists.{names_of}
use Rattle.certified_answers.specs.Costs.{weight_of}
use Rattle.certified_answers.specs.Worth.{IsBound, IsBoundFor, IsClosed, IsDescent, IsDescentFor, IsNear, IsPlan, IsRefutation, plan_cost}
use Rattle.certified_answers.specs.declared.answers.Certified.{Certified}
use Rattle.certified_answers.specs.declared.answers.Certified.TheVariants.{Optimal, Infeasible, Unbounded}
use Rattle.certified_answers.specs.declared.costs.Cost.{Cost}
use Rattle.certified_answers.specs.declared.costs.Cost.TheVariants.{Model, One}
use Rattle.certified_answers.specs.declared.costs.Goal.{Goal}
use Rattle.certified_answers.specs.declared.costs.Goal.TheVariants.{Least, Greatest}

-- ---- by the exact method

-- the value for the least of a variable, and that turned for the greatest
abbrev pub turned : Goal → Rational → Rational
turned Least value = value
turned Greatest value = negated value

-- an optimum: a plan, which costs the model so much, and a bound: of the model's cost one that is the plan's, of one variable one that is the variable's value in the plan
abbrev pub IsOptimumFor : Cost → List Row → List Var → List (Var × Rational) → List (RowName × Rational) → Rational → Rational → Type 0
IsOptimumFor Model rows vars plan multipliers cost bound = IsPlan rows vars plan cost × IsBound rows vars multipliers bound × IsClosed cost bound
IsOptimumFor (One var goal) rows vars plan multipliers cost bound =
    IsPlan rows vars plan cost × IsBoundFor (weight_of (One var goal)) rows vars multipliers bound × (bound ≡ turned goal (value_in var_cmp plan var))

-- a direction: of the model's cost one along which plans cost less than any whole number
abbrev pub IsDescentAt : Cost → List Row → List Var → List (Var × Rational) → Type 0
IsDescentAt Model rows vars direction = IsDescent rows vars direction
IsDescentAt (One var goal) rows vars direction = IsDescentFor (weight_of (One var goal)) rows vars direction

abbrev pub IsProvedFor : Cost → List Row → List Var → Certified → Type 0
IsProvedFor cost rows vars (Optimal plan multipliers amount bound pivots) = IsOptimumFor cost rows vars plan multipliers (value_of amount) (value_of bound)
IsProvedFor cost rows vars (Infeasible multipliers pivots) = IsRefutation rows vars multipliers
IsProvedFor cost rows vars (Unbounded plan direction pivots) = IsPlan rows vars plan (plan_cost vars plan) × IsDescentAt cost rows vars direction

-- at the model's cost
abbrev pub IsProved : List Row → List Var → Certified → Type 0
IsProved rows vars found = IsProvedFor Model rows vars found

-- ---- by guesses, within a gap

abbrev pub IsProvedWithin : List Row → List Var → ℕ → Certified → Type 0
IsProvedWithin rows vars ppm (Optimal plan multipliers cost bound pivots) =
    IsPlan rows vars plan (value_of cost) × IsBound rows vars multipliers (value_of bound) × IsNear (value_of cost) (value_of bound) ppm
IsProvedWithin rows vars ppm (Infeasible multipliers pivots) = IsRefutation rows vars multipliers
IsProvedWithin rows vars ppm (Unbounded plan direction pivots) = ⊥

-- so many pivots were made
abbrev pub pivots_made : Certified → ℕ
pivots_made (Optimal plan multipliers cost bound pivots) = pivots
pivots_made (Infeasible multipliers pivots) = pivots
pivots_made (Unbounded plan direction pivots) = pivots

abbrev pub IsMadeWithin : ℕ → Certified → Type 0
IsMadeWithin most found = pivots_made found ≤ most

-- ---- what it has

-- plan and direction have one value for each variable, in order
abbrev pub IsComplete : List Var → Certified → Type 0
IsComplete vars (Optimal plan multipliers cost bound pivots) = keys_of plan ≡ vars
IsComplete vars (Infeasible multipliers pivots) = ⊤
IsComplete vars (Unbounded plan direction pivots) = (keys_of plan ≡ vars) × (keys_of direction ≡ vars)

-- the names ascend strictly, and each is that of a row
pub record AreNamedIn (rows : List Row) (multipliers : List (RowName × Rational)) : Type 0 where
  pub ascending : ascends row_name_cmp (keys_of multipliers) ≡ true
  pub among : (name : RowName) → Contains (keys_of multipliers) name → Contains (names_of rows) name

-- and so are those of the multipliers, where there are some
abbrev pub IsNamed : List Row → Certified → Type 0
IsNamed rows (Optimal plan multipliers cost bound pivots) = AreNamedIn rows multipliers
IsNamed rows (Infeasible multipliers pivots) = AreNamedIn rows multipliers
IsNamed rows (Unbounded plan direction pivots) = ⊤

-- what a guess gives: a plan within the gap of a bound, or a refutation, with a value for each variable and multipliers of rows, by at most so many pivots
pub record IsFoundBy (rows : List Row) (vars : List Var) (gap pivots : ℕ) (found : Certified) : Type 0 where
  pub proved : IsProvedWithin rows vars gap found
  pub within : IsMadeWithin pivots found
  pub complete : IsComplete vars found
  pub named : IsNamed rows found
