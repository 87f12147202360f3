-- Rows with the row that limits the cost after them, and what is left of them without the defined variables.
use Rattle.std.specs.Prelude.{◌≡◌, ℕ, List, [], ◌∷◌, ◌++◌, Option, None}
use Rattle.row_problem.specs.Prelude.{Rational, first_wide, Row, Var, Stopped, elimination_steps, Model}
use Rattle.row_problem.specs.ProgramsOf.{IsProgramOf}
use Rattle.span_finder.specs.LimitRows.{HasLimitRow}
use Rattle.span_finder.specs.SpanEnds.{Stops, plain_fail}
use Rattle.span_finder.specs.declared.limited.LimitedRows.{LimitedRows}

-- the rows, of which the last defines nothing, and what is left of them; the elimination forms no number that doesn't fit
pub record AreLimited (rows : List Row) (defs : List (Option Var)) (vars : List Var) (limit : Rational) (limited : LimitedRows) : Type 0 where
  pub of : HasLimitRow rows vars limit limited.rows.items
  pub define : limited.defs.items ≡ defs ++ None ∷ []
  pub program : IsProgramOf limited.rows.items limited.defs.items vars Model limited.reduced
  pub fit : first_wide (elimination_steps limited.rows.items limited.defs.items) ≡ None

-- why there are none: a stop of the row that limits the cost or of the elimination, whatever is looked for then
abbrev pub StopsBefore : List Row → List (Option Var) → List Var → Rational → Stopped → Type 0
StopsBefore rows defs vars limit stopped = (var : Var) (pivots : ℕ) → Stops rows defs vars limit var pivots (plain_fail stopped)
