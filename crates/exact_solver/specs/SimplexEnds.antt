-- What an end of the simplex method has: a value for each column, a multiplier for each row, and what they mean.
use Rattle.std.specs.Prelude.{◌≡◌, length}
use Rattle.row_problem.specs.Prelude.{keys_of, LinearProgram}
use Rattle.simplex_core.specs.Outcomes.{IsProved}
use Rattle.simplex_core.specs.declared.ends.End.{End}
use Rattle.simplex_core.specs.declared.ends.End.TheVariants.{Infeasible, Optimal, Unbounded}

abbrev pub IsSized : LinearProgram → End → Type 0
IsSized p (Optimal values lambda pivots) = (keys_of values ≡ p.columns) × (length lambda ≡ length p.rows)
IsSized p (Infeasible lambda pivots) = length lambda ≡ length p.rows
IsSized p (Unbounded values direction pivots) = (keys_of values ≡ p.columns) × (keys_of direction ≡ p.columns)

abbrev pub IsEnded : LinearProgram → End → Type 0
IsEnded p end = IsSized p end × IsProved p end
