-- Plans: what a plan must meet, and what it costs. A plan is a positive whole number q and a whole number x v for each variable v: the value of v
-- is x v over q.
use Rattle.std.specs.Prelude.{◌≡◌, ℕ, ◌*◌, ◌<◌, ℤ, pos, ◌*ℤ◌, ◌≤ℤ◌, Bool, true, false, List, [], ◌∷◌, if◌then◌else◌}
use Rattle.std.specs.Ordering.{is_eq}
use Rattle.model_sets.specs.Data.{Data}
use Rattle.row_core.specs.declared.RowName.{RowName}
use Rattle.row_core.specs.declared.Var.{Var}
use Rattle.row_core.specs.Kinds.{kind_is_free}
use Rattle.row_core.specs.Order.{var_cmp}
use Rattle.row_core.specs.Statements.{Statement, Holds, holds}
use Rattle.named_equations.specs.Existence.{exists}
use Rattle.named_equations.specs.Instances.{equation_of, instances}
use Rattle.named_equations.specs.Notation.{sum_over}
use Rattle.named_equations.specs.Positions.{regions, all_years}
use Rattle.named_equations.specs.Variables.{total_discounted_cost}

-- ---- meeting the equations

-- what the equation says of the plan at the index, with written factors of so many decimal places
abbrev pub says : ℕ → Data → ℕ → (Var → ℤ) → RowName → Statement
says places d q x name = (equation_of name.eq).says places d q x name.index

-- the plan meets the equation at the index
abbrev pub Meets : ℕ → Data → ℕ → (Var → ℤ) → RowName → Type 0
Meets places d q x name = Holds (says places d q x name)

-- the test whether it does
abbrev pub meets : ℕ → Data → ℕ → (Var → ℤ) → RowName → Bool
meets places d q x name = holds (says places d q x name)

-- the plan meets each of these
abbrev pub MeetsEach : ℕ → Data → ℕ → (Var → ℤ) → List RowName → Type 0
MeetsEach places d q x [] = Unit {0}
MeetsEach places d q x (name ∷ names) = Meets places d q x name × MeetsEach places d q x names

-- the plan meets every named equation at every index at which the data have it, and every variable that exists is at least 0 where its kind isn't free
pub record Feasible (places : ℕ) (d : Data) (q : ℕ) (x : Var → ℤ) : Type 0 where
  pub positive : 0 < q
  pub equations : MeetsEach places d q x (instances d)
  pub signs : (v : Var) → exists d v ≡ true → kind_is_free v.kind ≡ false → pos 0 ≤ℤ x v

-- ---- cost

-- the cost of the plan, times q: the sum of TotalDiscountedCost over the regions and the years
abbrev pub cost : Data → (Var → ℤ) → ℤ
cost d x = sum_over (regions d) (λ r. sum_over (all_years d) (λ y. x (total_discounted_cost r y)))

-- ---- lists of fractions

-- a variable and its value, top over bottom
pub record Value : Type 0 where
  pub variable : Var
  pub top : ℤ
  pub bottom : ℕ

-- the product of the denominators: the q of the plan for which the list stands
abbrev pub common_denominator : List Value → ℕ
common_denominator [] = 1
common_denominator (value ∷ list) = value.bottom * common_denominator list

-- the whole number of the variable in that plan: its first value's top times all other denominators, and 0 where the list has none
abbrev pub whole_at : List Value → Var → ℤ
whole_at [] v = pos 0
whole_at (value ∷ list) v =
    if is_eq (var_cmp value.variable v) then value.top *ℤ pos (common_denominator list) else pos value.bottom *ℤ whole_at list v
