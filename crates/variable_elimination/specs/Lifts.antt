-- What values say that were carried back to the named rows. A plan is whole numbers over one positive number; a direction is held to right sides 0.
use Rattle.std.specs.Prelude.{◌≡◌, ℕ, ◌<◌, ℤ, pos, ◌*ℤ◌, ◌≤ℤ◌, false, List, [], ◌∷◌, ⊤}
use Rattle.exact_num.specs.Rational.{Rational}
use Rattle.row_core.specs.declared.Row.{Row}
use Rattle.row_core.specs.declared.Var.{Var}
use Rattle.row_core.specs.Evaluated.{AreOver}
use Rattle.row_core.specs.Kinds.{kind_is_free}
use Rattle.row_core.specs.Order.{var_cmp}
use Rattle.row_core.specs.Plans.{value_in}
use Rattle.row_core.specs.Rows.{row_sum}
use Rattle.row_core.specs.Statements.{Stands}
use Rattle.written_method.specs.Definitions.{is_among}

-- the sum of each row stands in the row's sense to its right side, whichever that is
abbrev pub AllStand : (Row → ℤ) → List Row → (Var → ℤ) → Type 0
AllStand right [] x = ⊤
AllStand right (row ∷ rows) x = Stands row.sense (row_sum x row.entries.items) (right row) × AllStand right rows x

abbrev pub right_times : ℕ → Row → ℤ
right_times q row = row.rhs *ℤ pos q

abbrev pub right_zero : Row → ℤ
right_zero row = pos 0

-- variables that aren't of the list keep their values
abbrev pub KeepsOthers : List Var → List (Var × Rational) → List (Var × Rational) → Type 0
KeepsOthers vars values made = (v : Var) → is_among vars v ≡ false → value_in var_cmp made v ≡ value_in var_cmp values v

-- where the reduced rows hold of the values, whatever number they are written over, every named row holds of what was made, whatever
-- number that is written over
abbrev pub CarriesPlan : List Row → List Row → List (Var × Rational) → List (Var × Rational) → Type 0
CarriesPlan named reduced values made =
    (q p : ℕ) (x z : Var → ℤ) → 0 < q → 0 < p → AreOver (pos q) x (value_in var_cmp values) → AreOver (pos p) z (value_in var_cmp made)
    → AllStand (right_times q) reduced x → AllStand (right_times p) named z

-- the same with right sides 0
abbrev pub CarriesDirection : List Row → List Row → List (Var × Rational) → List (Var × Rational) → Type 0
CarriesDirection named reduced values made =
    (q p : ℕ) (x z : Var → ℤ) → 0 < q → 0 < p → AreOver (pos q) x (value_in var_cmp values) → AreOver (pos p) z (value_in var_cmp made)
    → AllStand right_zero reduced x → AllStand right_zero named z

-- where each variable that isn't of the list, and must be at least 0, is, so is every variable that must be
abbrev pub MakesRight : List Var → List (Var × Rational) → Type 0
MakesRight vars made =
    (p : ℕ) (z : Var → ℤ) → 0 < p → AreOver (pos p) z (value_in var_cmp made)
    → ((v : Var) → kind_is_free v.kind ≡ false → is_among vars v ≡ false → pos 0 ≤ℤ z v)
    → (v : Var) → kind_is_free v.kind ≡ false → pos 0 ≤ℤ z v
