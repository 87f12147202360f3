-- What it means that a row was reduced by definitions.
use Rattle.std.specs.Prelude.{◌≡◌, ℕ, suc, ◌<◌, ℤ, pos, ◌+ℤ◌, ◌*ℤ◌, ◌<ℤ◌, List, [], ◌∷◌, Option, Some, None, length, slice_index_or}
use Rattle.exact_num.specs.Rational.{Rational, IsLowest}
use Rattle.row_core.specs.declared.Row.{Row}
use Rattle.row_core.specs.declared.Var.{Var}
use Rattle.row_core.specs.Rows.{row_sum}

-- the sum over the rows of a multiple, by the row's position, times f of the row
abbrev pub multiples_of : ℕ → (ℕ → ℤ) → (Row → ℤ) → List Row → ℤ
multiples_of i k f [] = pos 0
multiples_of i k f (row ∷ rows) = (k i *ℤ f row) +ℤ multiples_of (suc i) k f rows

-- the new row is the scale, which is positive, times the named row, plus multiples of the definitions, all multiplied out
pub record IsReduced (definitions : List Row) (named : Row) (scale : Rational) (new : Row) : Type 0 where
  pub over : ℤ
  pub multiple : ℕ → ℤ
  pub over_positive : pos 0 <ℤ over
  pub scale_positive : pos 0 <ℤ scale.top
  pub bottom_positive : pos 0 <ℤ scale.bottom
  pub sums : (x : Var → ℤ) → row_sum x new.entries.items *ℤ (scale.bottom *ℤ over) ≡ ((scale.top *ℤ over) *ℤ row_sum x named.entries.items) +ℤ multiples_of 0 multiple (λ row. row_sum x row.entries.items) definitions
  pub right_side : new.rhs *ℤ (scale.bottom *ℤ over) ≡ ((scale.top *ℤ over) *ℤ named.rhs) +ℤ multiples_of 0 multiple (λ row. row.rhs) definitions

-- the same over some scale
pub record IsReducedBy (definitions : List Row) (named row : Row) : Type 0 where
  pub scale : Rational
  pub lowest : IsLowest scale
  pub reduced : IsReduced definitions named scale row

-- over the scale that is kept, or over some scale
abbrev pub IsReducedOver : List Row → Row → Option Rational → Row → Type 0
IsReducedOver definitions named None row = IsReducedBy definitions named row
IsReducedOver definitions named (Some scale) row = IsLowest scale × IsReduced definitions named scale row

-- the row is reduced from one of the definitions
pub record IsReducedOne (definitions : List Row) (row : Row) : Type 0 where
  pub position : ℕ
  pub within : position < length definitions
  pub reduced : IsReducedBy definitions (slice_index_or definitions position row) row
