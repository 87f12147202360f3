-- What a combined row means.
use Rattle.std.specs.Prelude.{◌≡◌, ℕ, ℤ, pos, ◌-ℤ◌, ◌*ℤ◌, ◌<ℤ◌, ◌↔◌}
use Rattle.exact_num.specs.Rational.{Rational}
use Rattle.exact_num.specs.Value.{value_of}
use Rattle.exact_num.specs.declared.fraction.Frac.{Frac}
use Rattle.row_core.specs.declared.Row.{Row}
use Rattle.row_core.specs.declared.Var.{Var}
use Rattle.row_core.specs.Rows.{row_sum, RowHolds}
use Rattle.row_core.specs.Forms.{form_of}
use Rattle.row_core.specs.Combined.{form_by, scale_by, row_factor, def_factor}

-- the new row is the scale, which is positive, times the row, less a multiple of the definition: all three multiplied out by `over` and by the scale's denominator
pub record IsScaled (row def : Row) (scale : Rational) (new : Row) : Type 0 where
  pub over : ℤ
  pub multiple : ℤ
  pub over_positive : pos 0 <ℤ over
  pub scale_positive : pos 0 <ℤ scale.top
  pub bottom_positive : pos 0 <ℤ scale.bottom
  pub sums : (x : Var → ℤ) → row_sum x new.entries.items *ℤ (scale.bottom *ℤ over) ≡ ((scale.top *ℤ over) *ℤ row_sum x row.entries.items) -ℤ (multiple *ℤ row_sum x def.entries.items)
  pub right_side : new.rhs *ℤ (scale.bottom *ℤ over) ≡ ((scale.top *ℤ over) *ℤ row.rhs) -ℤ (multiple *ℤ def.rhs)

-- of each plan of which the definition holds, the new row holds exactly where the row does
abbrev pub SaysTheSameUnder : Row → Row → Row → Type 0
SaysTheSameUnder row def new = (q : ℕ) (x : Var → ℤ) → RowHolds def q x → RowHolds new q x ↔ RowHolds row q x

-- what is made of a row, a factor of it, and a definition and a factor of that: a row, and a fraction
pub record IsMade (a b : ℤ) (row def : Row) (made : Row × Frac) : Type 0 where
  pub name : made.0.name ≡ row.name
  pub sense : made.0.sense ≡ row.sense
  pub form : form_of made.0 ≡ form_by a b (form_of row) (form_of def)
  pub scale : value_of made.1 ≡ scale_by a b (form_of row) (form_of def)

-- the row without the variable
abbrev pub IsCombined : Row → Row → Var → Row × Frac → Type 0
IsCombined row def v made = IsMade (row_factor (form_of row) (form_of def) v) (def_factor (form_of row) (form_of def) v) row def made
