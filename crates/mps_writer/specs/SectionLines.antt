-- The lines of rows in a section, and the equations that have right sides. Only private functions cite these.
use Rattle.std.specs.Prelude.{◌≡◌, ℕ, ◌<◌, ◌+◌, Bool, true, false, List, length, slice_index_or}
use Rattle.std.specs.List.{AllByRecursion}
use Rattle.model_sets.specs.Members.{SetLists}
use Rattle.row_core.specs.declared.equation_numbers.TheConstants.{EQUATION_COUNT}
use Rattle.row_core.specs.Numbers.{is_zero}
use Rattle.row_core.specs.Contents.{RowContents}
use Rattle.row_core.specs.Sources.{rows_of_equation}
use Rattle.mps_writer.specs.MpsText.{rhs_line, row_lines}
use Rattle.mps_writer.specs.declared.sections.Section.{Section}
use Rattle.mps_writer.specs.declared.sections.Section.TheVariants.{Rows, RightSides}

-- the lines of a row with its number
abbrev pub lines_in : Section → SetLists → ℕ × RowContents → List ℕ
lines_in Rows sets r = row_lines sets r
lines_in RightSides sets r = rhs_line r

-- it is the section of right sides
abbrev pub is_of_sides : Section → Bool
is_of_sides Rows = false
is_of_sides RightSides = true

-- the right side of each of these rows is 0
abbrev pub HasNoSides : List (ℕ × RowContents) → Type 0
HasNoSides rows = AllByRecursion (λ r. is_zero r.1.rhs ≡ true) rows

-- an equation whose number is marked with false has no row with a right side that isn't 0
pub record AreSidesOf (rows : List RowContents) (sides : List Bool) : Type 0 where
  pub long : length sides ≡ EQUATION_COUNT + 1
  pub each : (eq : ℕ) → eq < EQUATION_COUNT + 1 → slice_index_or sides eq false ≡ false → HasNoSides (rows_of_equation eq rows)
