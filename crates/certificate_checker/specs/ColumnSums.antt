-- The sums of columns while the rows are gone through: none once a number that is formed doesn't fit.
use Rattle.std.specs.Prelude.{◌≡◌, ℕ, ◌<◌, ℤ, pos, Bool, List, [], ◌∷◌, length, slice_index_or, map, filter, Option, Some, None, if◌then◌else◌}
use Rattle.std.specs.Ordering.{is_eq}
use Rattle.exact_num.specs.Range.{all_fit}
use Rattle.exact_num.specs.Rational.{Rational, plus, times, whole}
use Rattle.exact_num.specs.Value.{value_of}
use Rattle.exact_num.specs.declared.fraction.Frac.{Frac}
use Rattle.row_core.specs.declared.Row.{Row}
use Rattle.row_core.specs.declared.RowName.{RowName}
use Rattle.row_core.specs.declared.Var.{Var}
use Rattle.row_core.specs.Evaluated.{sum_from, term_formed, sum_from_formed}
use Rattle.row_core.specs.Order.{var_cmp}
use Rattle.row_core.specs.Columns.{column_of}

-- the value, if there is one
abbrev pub seen : Option Frac → Option Rational
seen None = None
seen (Some f) = Some (value_of f)

-- a sum with one product more
abbrev pub with_term : Option Rational → ℤ → Rational → Option Rational
with_term None n y = None
with_term (Some s) n y = if all_fit (term_formed s n y) then Some (plus s (times (whole n) y)) else None

-- a sum with more products
abbrev pub continued : {K : Type 0} → (K → Rational) → Option Rational → List (K × ℤ) → Option Rational
continued value None es = None
continued value (Some s) es = if all_fit (sum_from_formed value s es) then Some (sum_from value s es) else None

-- the sum of a column
abbrev pub column_partial : List Row → (RowName → Rational) → Var → Option Rational
column_partial rows value v = continued value (Some (whole (pos 0))) (column_of rows v)

-- the numbers of some entries of a row at a variable
abbrev pub entries_at : RowName → Var → List (Var × ℤ) → List (RowName × ℤ)
entries_at name v es = map (λ e. (name, e.1)) (filter (λ e. is_eq (var_cmp e.0 v)) es)

-- the variable and the sum at a position
abbrev pub variable_at : List Var → ℕ → Var
variable_at vars k = slice_index_or vars k (record { kind = 0; index = record { region = 0; other = 0; slice = 0; tech = 0; fuel = 0; emission = 0; mode = 0; year = 0 } })

abbrev pub sum_at : List (Option Frac) → ℕ → Option Rational
sum_at sums k = seen (slice_index_or sums k None)

-- there is one sum for each variable: that of its column
pub record AreColumnSums (rows : List Row) (value : RowName → Rational) (vars : List Var) (sums : List (Option Frac)) : Type 0 where
  pub many : length sums ≡ length vars
  pub each : (k : ℕ) → k < length vars → sum_at sums k ≡ column_partial rows value (variable_at vars k)
