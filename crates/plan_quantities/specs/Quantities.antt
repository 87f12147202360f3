-- The quantities of a report: for each of its tables of variables the kind, the scale of its defining sum, and the sum. A plan's quantities are these sums
-- where its variables, times their scales, equal them.
use Rattle.std.specs.Prelude.{◌≡◌, ℕ, ℤ, pos, ◌*ℤ◌, true, false, List, [], ◌∷◌}
use Rattle.std.specs.List.{AllByRecursion}
use Rattle.model_sets.specs.Data.{Data}
use Rattle.row_core.specs.declared.Index.{Index}
use Rattle.row_core.specs.declared.Var.{Var}
use Rattle.row_core.specs.declared.kind_numbers.TheConstants.{NEW_CAPACITY, TOTAL_CAPACITY_ANNUAL, TOTAL_TECHNOLOGY_ANNUAL_ACTIVITY, PRODUCTION_BY_TECHNOLOGY_ANNUAL, USE_BY_TECHNOLOGY_ANNUAL, TRADE_ANNUAL, ANNUAL_EMISSIONS, DISCOUNTED_CAPITAL_INVESTMENT, DISCOUNTED_OPERATING_COST, DISCOUNTED_TECHNOLOGY_EMISSIONS_PENALTY, DISCOUNTED_SALVAGE_VALUE, TOTAL_DISCOUNTED_COST}
use Rattle.named_equations.specs.Existence.{exists, subscripts_of_kind}
use Rattle.named_equations.specs.Indices.{by_rty, by_rtfy, by_rrrfy, by_rey, by_ry}
use Rattle.named_equations.specs.Instances.{is_index}
use Rattle.named_equations.specs.Notation.{scale_of, factor_scale}
use Rattle.named_equations.specs.Variables.{variable}
use Rattle.plan_quantities.specs.Sums.{capacity_built, capacity_in_all, activity_of_year, production_of_year, use_of_year, trade_of_year, emissions_of_year}
use Rattle.plan_quantities.specs.CostSums.{two_factors, three_factors, investment, operation, penalty, salvage, cost_of_year}

-- a kind of variable, and its defining sum at an index, with the scale at which that is stated, for written factors of so many decimal places
pub record Quantity : Type 0 where
  pub kind : ℕ
  pub scale : ℕ → ℤ
  pub sum : ℕ → Data → ℕ → (Var → ℤ) → Index → ℤ

-- one without written factors, at this scale
abbrev pub without_factors : ℕ → ℤ → (Data → ℕ → (Var → ℤ) → Index → ℤ) → Quantity
without_factors kind scale sum = record { kind = kind; scale = λ places. scale; sum = λ places. sum }

-- one with written factors
abbrev pub with_factors : ℕ → (ℕ → ℤ) → (ℕ → Data → ℕ → (Var → ℤ) → Index → ℤ) → Quantity
with_factors kind scale sum = record { kind = kind; scale = scale; sum = sum }

-- the quantities, in the order of the report's tables
abbrev pub quantities : List Quantity
quantities =
    without_factors NEW_CAPACITY (pos 1) (λ d q x. by_rty (capacity_built d q x))
    ∷ without_factors TOTAL_CAPACITY_ANNUAL (scale_of 1) (λ d q x. by_rty (capacity_in_all d q x))
    ∷ without_factors TOTAL_TECHNOLOGY_ANNUAL_ACTIVITY (scale_of 1) (λ d q x. by_rty (activity_of_year d q x))
    ∷ without_factors PRODUCTION_BY_TECHNOLOGY_ANNUAL (scale_of 2) (λ d q x. by_rtfy (production_of_year d q x))
    ∷ without_factors USE_BY_TECHNOLOGY_ANNUAL (scale_of 2) (λ d q x. by_rtfy (use_of_year d q x))
    ∷ without_factors TRADE_ANNUAL (pos 1) (λ d q x. by_rrrfy (trade_of_year d q x))
    ∷ without_factors ANNUAL_EMISSIONS (scale_of 2) (λ d q x. by_rey (emissions_of_year d q x))
    ∷ with_factors DISCOUNTED_CAPITAL_INVESTMENT (λ places. scale_of 1 *ℤ three_factors places) (λ places d q x. by_rty (investment places d q x))
    ∷ with_factors DISCOUNTED_OPERATING_COST (λ places. scale_of 2 *ℤ factor_scale places) (λ places d q x. by_rty (operation places d q x))
    ∷ with_factors DISCOUNTED_TECHNOLOGY_EMISSIONS_PENALTY (λ places. scale_of 3 *ℤ factor_scale places) (λ places d q x. by_rty (penalty places d q x))
    ∷ with_factors DISCOUNTED_SALVAGE_VALUE (λ places. scale_of 1 *ℤ two_factors places) (λ places d q x. by_rty (salvage places d q x))
    ∷ with_factors TOTAL_DISCOUNTED_COST (λ places. scale_of 3 *ℤ three_factors places) (λ places d q x. by_ry (cost_of_year places d q x))
    ∷ []

-- At an index whose subscripts lie in their sets: a variable that exists is the defining sum, and where none exists the sum is 0, so that a table which
-- leaves it out leaves out nothing.
pub record IsSum (places : ℕ) (d : Data) (q : ℕ) (x : Var → ℤ) (quantity : Quantity) (i : Index) : Type 0 where
  pub existing : exists d (variable quantity.kind i) ≡ true → quantity.scale places *ℤ x (variable quantity.kind i) ≡ quantity.sum places d q x i
  pub missing : exists d (variable quantity.kind i) ≡ false → quantity.sum places d q x i ≡ pos 0

-- it is so at every such index
abbrev pub AreSums : ℕ → Data → ℕ → (Var → ℤ) → Quantity → Type 0
AreSums places d q x quantity = (i : Index) → is_index d (subscripts_of_kind quantity.kind) i ≡ true → IsSum places d q x quantity i

-- every quantity of the plan is its defining sum
abbrev pub AreQuantities : ℕ → Data → ℕ → (Var → ℤ) → Type 0
AreQuantities places d q x = AllByRecursion (AreSums places d q x) quantities
