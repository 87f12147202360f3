-- What values and bounds say of the plans of the named equations. Values are whole numbers over a common denominator, and what is said of them doesn't
-- depend on which one is taken.
use Rattle.std.specs.Prelude.{◌≡◌, ℕ, ℤ, pos, ◌*ℤ◌, ◌≤ℤ◌, true, List, Contains, map}
use Rattle.std.specs.List.{AllByRecursion}
use Rattle.exact_num.specs.Rational.{Rational}
use Rattle.model_sets.specs.Data.{Data}
use Rattle.model_sets.specs.Members.{SetLists}
use Rattle.row_core.specs.declared.Row.{Row}
use Rattle.row_core.specs.declared.Var.{Var}
use Rattle.row_core.specs.Numbers.{ascends}
use Rattle.row_core.specs.Order.{var_cmp}
use Rattle.row_core.specs.Values.{IsOver}
use Rattle.named_equations.specs.Existence.{exists}
use Rattle.named_equations.specs.Instances.{instances}
use Rattle.named_equations.specs.Plans.{Feasible, cost}
use Rattle.row_book.specs.Books.{AreRowsOf}
use Rattle.plan_files.specs.Listed.{IsListedRow, IsListedVariable, name_of_row}
use Rattle.certificate_checker.specs.Denominators.{AreOverSome}
use Rattle.certificate_checker.specs.Plans.{AreValuesOver}

-- the values are a plan that meets every named equation with right signs, and cost so much
pub record AreFeasible (places : ℕ) (d : Data) (values : List (Var × Rational)) (amount : Rational) : Type 0 where
  pub some : AreOverSome var_cmp values
  pub feasible : (q : ℕ) (x : Var → ℤ) → AreValuesOver q x values → Feasible places d q x
  pub costs : (q : ℕ) (x : Var → ℤ) → AreValuesOver q x values → IsOver (pos q) amount (cost d x)

-- the values aren't such a plan
abbrev pub AreNotFeasible : ℕ → Data → List (Var × Rational) → Type 0
AreNotFeasible places d values = (q : ℕ) (x : Var → ℤ) → AreValuesOver q x values → ¬ (Feasible places d q x)

-- every plan that meets the named equations with right signs costs at least so much
abbrev pub BoundsFeasible : ℕ → Data → Rational → Type 0
BoundsFeasible places d bound = (q : ℕ) (x : Var → ℤ) → Feasible places d q x → (bound.top *ℤ pos q) ≤ℤ (cost d x *ℤ bound.bottom)

-- no plan meets the named equations with right signs
abbrev pub NoneIsFeasible : ℕ → Data → Type 0
NoneIsFeasible places d = (q : ℕ) (x : Var → ℤ) → ¬ (Feasible places d q x)

-- the rows are those of the named equations over these data, and the variables are those that exist, in order
pub record IsBookOf (places : ℕ) (d : Data) (rows : List Row) (vars : List Var) : Type 0 where
  pub are_rows : AreRowsOf places d (instances d) rows
  pub ascending : ascends var_cmp vars ≡ true
  pub exist : (v : Var) → Contains vars v → exists d v ≡ true
  pub whole : (v : Var) → exists d v ≡ true → Contains vars v

-- rows and variables are those that the sets have: files can name them, and their names can be written
pub record IsListedBook (sets : SetLists) (rows : List Row) (vars : List Var) : Type 0 where
  pub rows_listed : AllByRecursion (IsListedRow sets) (map name_of_row rows)
  pub vars_listed : AllByRecursion (IsListedVariable sets) vars
