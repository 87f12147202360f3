-- What the code makes of a row.
use Rattle.std.specs.Prelude.{◌≡◌, Option, Some, None}
use Rattle.exact_num.specs.Rational.{Rational}
use Rattle.exact_num.specs.Value.{value_of}
use Rattle.exact_num.specs.declared.fraction.Frac.{Frac}
use Rattle.row_core.specs.declared.Row.{Row}
use Rattle.row_core.specs.Forms.{form_of}
use Rattle.written_method.specs.Expanded.{Scaled}

abbrev pub scale_value : Option Frac → Option Rational
scale_value None = None
scale_value (Some scale) = Some (value_of scale)

-- what the code keeps
abbrev pub scaled_of : Row → Option Frac → Scaled
scaled_of row scale = record { form = form_of row; scale = scale_value scale }

-- the same row
pub record IsCopy (row made : Row) : Type 0 where
  pub name : made.name ≡ row.name
  pub sense : made.sense ≡ row.sense
  pub form : form_of made ≡ form_of row

-- the row has this form and scale, and the name and the sense of the named row
pub record IsExpansion (named : Row) (s : Scaled) (made : Row × Option Frac) : Type 0 where
  pub name : made.0.name ≡ named.name
  pub sense : made.0.sense ≡ named.sense
  pub scaled : scaled_of made.0 made.1 ≡ s
