-- The rows that define nothing, reduced one after another.
use Rattle.std.specs.Prelude.{◌≡◌, pos, Bool, not, ◌||◌, List, [], ◌∷◌, ◌++◌, map, Option, Some, ◌⊎◌, true, false, if◌then◌else◌}
use Rattle.std.specs.BTreeMap.{BTreeMap}
use Rattle.exact_num.specs.Rational.{Rational, IsLowest}
use Rattle.exact_num.specs.Steps.{first_wide}
use Rattle.exact_num.specs.Value.{value_of}
use Rattle.exact_num.specs.declared.fraction.Frac.{Frac}
use Rattle.row_core.specs.declared.Row.{Row}
use Rattle.row_core.specs.declared.RowName.{RowName}
use Rattle.row_core.specs.declared.Sense.{Sense}
use Rattle.row_core.specs.declared.Var.{Var}
use Rattle.row_core.specs.Forms.{Form, form_of}
use Rattle.row_core.specs.Statements.{stands}
use Rattle.written_method.specs.Eliminated.{ReducedRow, at_first, reduced_rows, row_steps, has_entries}
use Rattle.written_method.specs.Expanded.{expanded}
use Rattle.variable_elimination.specs.Expansions.{scaled_of}
use Rattle.variable_elimination.specs.Kept.{forms_in, AreReduced}
use Rattle.variable_elimination.specs.Reductions.{IsReduced}

-- a row without its scale
pub record Shape : Type 0 where
  pub name : RowName
  pub sense : Sense
  pub form : Form

abbrev pub shape_of : Row → Shape
shape_of row = record { name = row.name; sense = row.sense; form = form_of row }

abbrev pub shape : ReducedRow → Shape
shape r = record { name = r.name; sense = r.sense; form = r.scaled.form }

abbrev pub scale_in : ReducedRow → Option Rational
scale_in r = r.scaled.scale

abbrev pub scale_worth : Frac → Option Rational
scale_worth scale = Some (value_of scale)

-- the rows and the scales are those of the reduced rows
pub record AreThese (reduced : List ReducedRow) (rows : List Row) (scales : List Frac) : Type 0 where
  pub rows_are : map shape_of rows ≡ map shape reduced
  pub scales_are : map scale_worth scales ≡ map scale_in reduced

-- ---- what they are multiples of

-- the row is the scale, which is positive, times the named row, plus multiples of the definitions
pub record IsReduction (definitions : List Row) (named : Row) (scale : Rational) (new : Row) : Type 0 where
  pub name : new.name ≡ named.name
  pub sense : new.sense ≡ named.sense
  pub lowest : IsLowest scale
  pub reduced : IsReduced definitions named scale new

-- the row has no entries, and is true of 0
pub record IsDropped (definitions : List Row) (named : Row) : Type 0 where
  pub new : Row
  pub scale : Frac
  pub reduction : IsReduction definitions named (value_of scale) new
  pub empty : has_entries new.entries.items ≡ false
  pub holds : stands new.sense (pos 0) new.rhs ≡ true

-- each of the named rows in turn is reduced to the next of the rows, over the next of the scales, or dropped
abbrev pub AreReductions : List Row → List Row → List Row → List Frac → Type 0
AreReductions definitions [] rows scales = (rows ≡ []) × (scales ≡ [])
AreReductions definitions (named ∷ others) rows scales =
    (IsDropped definitions named × AreReductions definitions others rows scales)
    ⊎ ((new : Row) × (scale : Frac) × (more : List Row) × (more_scales : List Frac) × (rows ≡ new ∷ more) × (scales ≡ scale ∷ more_scales) × IsReduction definitions named (value_of scale) new × AreReductions definitions others more more_scales)

-- ---- one row after another

-- a row without entries stays only where it is false of 0
abbrev pub stays : Row → Bool
stays row = has_entries row.entries.items || not (stands row.sense (pos 0) row.rhs)

-- one more row
pub record IsNextRow (definitions : BTreeMap Var Row) (row : Row) (rows new_rows : List Row) (scales new_scales : List Frac) : Type 0 where
  pub made : Row
  pub scale : Frac
  pub name : made.name ≡ row.name
  pub sense : made.sense ≡ row.sense
  pub scaled : scaled_of made (Some scale) ≡ expanded (forms_in definitions) (at_first row)
  pub rows_are : new_rows ≡ (if stays made then rows ++ made ∷ [] else rows)
  pub scales_are : new_scales ≡ (if stays made then scales ++ scale ∷ [] else scales)
  pub reduced : (named : List Row) → AreReduced named definitions → IsReduction named row (value_of scale) made

-- what holds before the rows that are left
pub record AreSoFar (definitions : BTreeMap Var Row) (all rest : List Row) (rows : List Row) (scales : List Frac) : Type 0 where
  pub done : List Row
  pub whole : all ≡ done ++ rest
  pub made : AreThese (reduced_rows (forms_in definitions) done) rows scales
  pub reductions : (named : List Row) → AreReduced named definitions → AreReductions named done rows scales
  pub steps : first_wide (row_steps (forms_in definitions) all) ≡ first_wide (row_steps (forms_in definitions) rest)
