-- Plans that rows admit. A plan is a positive whole number q and a whole number x v for each variable v: the value of v is x v over q.
use Rattle.std.specs.Prelude.{ℕ, ℤ, pos, ◌*ℤ◌, ◌≤ℤ◌, ◌<◌, Bool, true, false, List, [], ◌∷◌, ⊤}
use Rattle.exact_num.specs.Rational.{Rational}
use Rattle.row_core.specs.declared.Row.{Row}
use Rattle.row_core.specs.declared.Var.{Var}
use Rattle.row_core.specs.Evaluated.{AreOver}
use Rattle.row_core.specs.Kinds.{kind_is_free}
use Rattle.row_core.specs.Order.{var_cmp}
use Rattle.row_core.specs.Plans.{value_in}
use Rattle.row_core.specs.Rows.{row_sum}
use Rattle.row_core.specs.Statements.{Stands}

-- the sum of each row stands in the row's sense to its right side, whichever that is
abbrev pub AllStand : (Row → ℤ) → List Row → (Var → ℤ) → Type 0
AllStand right [] x = ⊤
AllStand right (row ∷ rows) x = Stands row.sense (row_sum x row.entries.items) (right row) × AllStand right rows x

-- a value that must be at least 0 is
abbrev pub IsRight : Bool → ℤ → Type 0
IsRight true z = ⊤
IsRight false z = pos 0 ≤ℤ z

-- each variable of the list that must be at least 0 is
abbrev pub HaveRightSigns : List Var → (Var → ℤ) → Type 0
HaveRightSigns [] x = ⊤
HaveRightSigns (v ∷ vs) x = IsRight (kind_is_free v.kind) (x v) × HaveRightSigns vs x

-- every row holds of the plan, and its signs are right
pub record MeetsAll (rows : List Row) (vars : List Var) (q : ℕ) (x : Var → ℤ) : Type 0 where
  pub positive : 0 < q
  pub rows_hold : AllStand (λ row. row.rhs *ℤ pos q) rows x
  pub signs : HaveRightSigns vars x

-- the values of a list are the whole numbers x over q
abbrev pub AreValuesOver : ℕ → (Var → ℤ) → List (Var × Rational) → Type 0
AreValuesOver q x values = (0 < q) × AreOver (pos q) x (value_in var_cmp values)
