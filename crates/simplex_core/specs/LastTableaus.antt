-- The last tableau, and what is read of it.
use Rattle.std.specs.Prelude.{◌≡◌, ℕ, suc, ◌+◌, ◌<◌, ℤ, pos, ◌<ℤ◌, IsTrue, length, List, Option, Some, None, [], map, slice_index_or, if◌then◌else◌, ⊤}
use Rattle.exact_num.specs.Formed.{difference_formed}
use Rattle.exact_num.specs.Rational.{Rational, minus, whole}
use Rattle.exact_num.specs.Value.{value_of}
use Rattle.exact_num.specs.declared.fraction.Frac.{Frac}
use Rattle.row_core.specs.declared.Var.{Var}
use Rattle.row_core.specs.declared.place.Place.{Place}
use Rattle.row_core.specs.declared.place.Place.TheVariants as places
use Rattle.written_method.specs.Basis.{IsBasic, IsShaped}
use Rattle.written_method.specs.FirstTableau.{width_of}
use Rattle.written_method.specs.Programs.{LinearProgram, is_split}
use Rattle.written_method.specs.Runs.{End, Optimal, Infeasible, Unbounded, PivotDue}
use Rattle.written_method.specs.Tableaus.{Tableau, has_x0, line_of, rows_of}
use Rattle.written_method.specs.Values.{column_direction, column_value}
use Rattle.simplex_core.specs.declared.plans.Lift.{Lift}
use Rattle.simplex_core.specs.declared.plans.Lift.TheVariants as lifts

-- its rows are those of the linear program, each with a basic column; its columns are those of the variables, the slacks, and x0 while it is there
pub record IsLast (p : LinearProgram) (t : Tableau) : Type 0 where
  pub shaped : IsShaped t
  pub basic : IsBasic t
  pub rows : rows_of t ≡ length p.rows
  pub columns : t.columns ≡ width_of p.columns + length p.rows + (if has_x0 t then 1 else 0)

-- what is known where the run ends so
abbrev pub IsEnding : LinearProgram → End → Tableau → Type 0
IsEnding p Optimal t = IsLast p t × (pos 0 <ℤ (line_of t (rows_of t)).own)
IsEnding p Infeasible t = IsLast p t × IsTrue (has_x0 t)
IsEnding p (Unbounded e) t = IsLast p t × (e < t.columns)
IsEnding p PivotDue t = ⊤

-- the value of a column, or the direction of a column that grows
abbrev pub column_lift : Tableau → Option ℕ → ℕ → Rational
column_lift t None c = column_value t c
column_lift t (Some e) c = column_direction t e c

-- the value at a position, 0 after the last
abbrev pub value_at_column : List Frac → ℕ → Rational
value_at_column values c = slice_index_or (map value_of values) c (whole (pos 0))

-- the value of a variable whose first column is c: one that may be negative is its positive part less its negative part
abbrev pub variable_value : (ℕ → Rational) → ℕ → Var → Rational
variable_value f c v = if is_split v then minus (f c) (f (suc c)) else f c

-- the numbers that this forms
abbrev pub variable_formed : (ℕ → Rational) → ℕ → Var → List ℤ
variable_formed f c v = if is_split v then difference_formed (f c) (f (suc c)) else []

abbrev pub place_of : Lift → Var → Place
place_of lifts.Plan = places.LiftPlan
place_of lifts.Direction = places.LiftDirection
