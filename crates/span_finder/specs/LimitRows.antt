-- The row that says that the cost, the sum of all TotalDiscountedCost, is at most a limit; and rows with this row after them.
use Rattle.std.specs.Prelude.{◌≡◌, ◌↔◌, ℕ, ℤ, pos, ◌*ℤ◌, ◌≤ℤ◌, Bool, true, ◌==◌, List, [], ◌∷◌, ◌++◌, map, if◌then◌else◌}
use Rattle.row_problem.specs.Prelude.{all_fit, Rational, whole, Row, Most, Var, TOTAL_DISCOUNTED_COST, contents_of, span_name, variables_of, RowHolds, cost_of, model_cost, Values}
use Rattle.row_core.specs.Terms.{gathered, gathered_formed}
use Rattle.row_core.specs.Written.{kept, written_entries, written_formed, written_right}

-- ---- how it is written

-- the cost is a sum of such variables
abbrev pub is_cost : Var → Bool
is_cost v = v.kind == TOTAL_DISCOUNTED_COST

-- a variable itself
abbrev pub cost_term : Var → Var × Rational
cost_term v = (v, whole (pos 1))

-- those of which the cost is the sum
abbrev pub cost_terms : List Var → Values
cost_terms [] = []
cost_terms (v ∷ vs) = if is_cost v then (cost_term v ∷ cost_terms vs) else cost_terms vs

-- the numbers that are formed when the row is written, as every row of an equation is
abbrev pub limit_formed : List Var → Rational → List ℤ
limit_formed vars limit = gathered_formed (cost_terms vars) ++ written_formed (gathered (cost_terms vars)) limit

-- ---- what it says

-- the cost of a plan, whole numbers x over q, is at most the limit
abbrev pub CostsAtMost : List Var → Rational → ℕ → (Var → ℤ) → Type 0
CostsAtMost vars limit q x = (cost_of model_cost vars x *ℤ limit.bottom) ≤ℤ (limit.top *ℤ pos q)

-- the row has this name, it says at most, and it holds of exactly the plans that cost at most the limit
pub record IsLimitRow (vars : List Var) (limit : Rational) (row : Row) : Type 0 where
  pub name : row.name ≡ span_name
  pub sense : row.sense ≡ Most
  pub entries : row.entries.items ≡ written_entries (gathered (cost_terms vars)) limit
  pub right_side : row.rhs ≡ written_right (gathered (cost_terms vars)) limit
  pub variables : variables_of row.entries.items ≡ variables_of (kept (gathered (cost_terms vars)))
  pub says : (q : ℕ) (x : Var → ℤ) → RowHolds row q x ↔ CostsAtMost vars limit q x

-- ---- after other rows

-- what these rows say, and after them that row
pub record HasLimitRow (rows : List Row) (vars : List Var) (limit : Rational) (all : List Row) : Type 0 where
  pub row : Row
  pub is : IsLimitRow vars limit row
  pub contents : map contents_of all ≡ map contents_of (rows ++ row ∷ [])
  pub fits : all_fit (limit_formed vars limit) ≡ true
