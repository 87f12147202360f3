-- What multipliers say of named rows (linear programming duality). They are whole numbers y, one for each row by its name, over one positive s; those of the reduced rows are whole numbers l, by position, over the same s.
use Rattle.std.specs.Prelude.{◌≡◌, ℕ, ℤ, pos, ◌+ℤ◌, ◌*ℤ◌, ◌<ℤ◌, true, false, ◌⊎◌, List, [], ◌∷◌, map, ⊤}
use Rattle.exact_num.specs.Rational.{Rational}
use Rattle.exact_num.specs.Value.{value_of}
use Rattle.exact_num.specs.declared.fraction.Frac.{Frac}
use Rattle.row_core.specs.declared.Row.{Row}
use Rattle.row_core.specs.declared.RowName.{RowName}
use Rattle.row_core.specs.declared.Var.{Var}
use Rattle.row_core.specs.Kinds.{kind_is_free}
use Rattle.row_core.specs.Order.{row_name_cmp}
use Rattle.row_core.specs.Plans.{value_in}
use Rattle.row_core.specs.Rows.{number_at}
use Rattle.row_core.specs.Values.{IsOver}
use Rattle.written_method.specs.declared.reduced.Reduced.{Reduced}
use Rattle.written_method.specs.Certificates.{AreOverFrom, HasSign, HaveSigns, IsWithin, number_sum, right_sum}
use Rattle.written_method.specs.Definitions.{is_among}
use Rattle.written_method.specs.Multiplied.{coefficient}
use Rattle.written_method.specs.Programs.{program_of}
use Rattle.written_method.specs.Ready.{IsAmong}

-- ---- sums over named rows

-- the sum over the rows of the row's multiplier times f of the row
abbrev pub weighted : (RowName → ℤ) → (Row → ℤ) → List Row → ℤ
weighted y f [] = pos 0
weighted y f (row ∷ rows) = (y row.name *ℤ f row) +ℤ weighted y f rows

-- in the column of a variable, the sum of multiplier times entry
abbrev pub column_sum : (RowName → ℤ) → List Row → Var → ℤ
column_sum y rows v = weighted y (λ row. number_at row.entries.items v) rows

-- the sum of multiplier times right side
abbrev pub bound_of : (RowName → ℤ) → List Row → ℤ
bound_of y rows = weighted y (λ row. row.rhs) rows

-- at least 0 on a row of at least, at most 0 on a row of at most
abbrev pub AreSigned : (RowName → ℤ) → List Row → Type 0
AreSigned y [] = ⊤
AreSigned y (row ∷ rows) = HasSign row.sense (y row.name) × AreSigned y rows

-- the fractions are y over s
abbrev pub AreNamedOver : ℤ → (RowName → ℤ) → (RowName → Rational) → Type 0
AreNamedOver s y value = (name : RowName) → IsOver s (value name) (y name)

-- ---- what carried multipliers keep

-- each defined variable's column has the sum that its coefficient in the cost says; the other columns, the signs and the bound are those of the reduced rows and of the row of the cost
pub record KeepBound (rows : List Row) (vars : List Var) (reduced : Reduced) (s : ℤ) (y : RowName → ℤ) (l : ℕ → ℤ) : Type 0 where
  pub signs : HaveSigns l 0 (program_of reduced).rows → AreSigned y rows
  pub defined : (v : Var) → is_among vars v ≡ true → column_sum y rows v ≡ coefficient true v *ℤ s
  pub columns : (v : Var) → is_among vars v ≡ false
      → reduced.cost_own *ℤ column_sum y rows v ≡ (reduced.cost_own *ℤ number_sum l 0 (program_of reduced).rows v) +ℤ (s *ℤ number_at reduced.cost.items v)
  pub bound : reduced.cost_own *ℤ bound_of y rows ≡ (reduced.cost_own *ℤ right_sum l 0 (program_of reduced).rows) +ℤ (s *ℤ reduced.cost_rhs)

-- the same at no cost
pub record KeepSum (rows : List Row) (vars : List Var) (reduced : Reduced) (y : RowName → ℤ) (l : ℕ → ℤ) : Type 0 where
  pub signs : HaveSigns l 0 (program_of reduced).rows → AreSigned y rows
  pub defined : (v : Var) → is_among vars v ≡ true → column_sum y rows v ≡ pos 0
  pub columns : (v : Var) → is_among vars v ≡ false → column_sum y rows v ≡ number_sum l 0 (program_of reduced).rows v
  pub bound : bound_of y rows ≡ right_sum l 0 (program_of reduced).rows

-- over whatever number they are written
abbrev pub CarriesBound : List Row → List Var → Reduced → List Frac → List (RowName × Rational) → Type 0
CarriesBound rows vars reduced lambda made =
    (s : ℤ) (y : RowName → ℤ) (l : ℕ → ℤ) → pos 0 <ℤ s → AreNamedOver s y (value_in row_name_cmp made) → AreOverFrom s l 0 (map value_of lambda) → KeepBound rows vars reduced s y l

abbrev pub CarriesSum : List Row → List Var → Reduced → List Frac → List (RowName × Rational) → Type 0
CarriesSum rows vars reduced lambda made =
    (s : ℤ) (y : RowName → ℤ) (l : ℕ → ℤ) → pos 0 <ℤ s → AreNamedOver s y (value_in row_name_cmp made) → AreOverFrom s l 0 (map value_of lambda) → KeepSum rows vars reduced y l

-- ---- certificates over named rows

-- the variable is defined, or a column
abbrev pub IsKnown : List Var → List Var → Var → Type 0
IsKnown vars columns v = (is_among vars v ≡ true) ⊎ IsAmong v columns

-- the multipliers have their signs, and the sum of each column is the cost's coefficient where the variable may be negative, and at most that where it may not: so the bound over s is one that no plan undercuts
pub record ProvesBound (rows : List Row) (vars columns : List Var) (s : ℤ) (y : RowName → ℤ) : Type 0 where
  pub signs : AreSigned y rows
  pub within : (v : Var) → IsKnown vars columns v → IsWithin (kind_is_free v.kind) (column_sum y rows v) (coefficient true v *ℤ s)

-- the same at no cost, with a bound above 0: so there is no plan
pub record RefutesRows (rows : List Row) (vars columns : List Var) (y : RowName → ℤ) : Type 0 where
  pub signs : AreSigned y rows
  pub within : (v : Var) → IsKnown vars columns v → IsWithin (kind_is_free v.kind) (column_sum y rows v) (pos 0)
  pub positive : pos 0 <ℤ bound_of y rows
