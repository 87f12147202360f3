-- A trial by the rounded method: the end that a bound of its cost leaves, and a plan that comes near it.
use Rattle.std.specs.Prelude.{◌≡◌, ℕ, pos, int_lt, List, if◌then◌else◌}
use Rattle.row_problem.specs.Prelude.{Rational, negated, whole, value_of, Row, Var, keys_of, var_cmp, value_in, IsPlan, plan_cost, Goal, Least, Greatest, Values}
use Rattle.row_problem.specs.declared.problem.Problem.{Problem}
use Rattle.span_finder.specs.RoundedSpans.{LieWithin}
use Rattle.span_finder.specs.Trials.{NonePasses}
use Rattle.span_finder.specs.declared.found.RoundedSpan.{RoundedSpan}
use Rattle.span_finder.specs.declared.rounded_trial.RoundedEnd.{RoundedEnd}

-- the least value is at least the bound, and at least 0; the cost of the other trial is the value turned, so the greatest value is at most the bound turned
abbrev pub end_of : Goal → Rational → Rational
end_of Least bound = if int_lt bound.top (pos 0) then whole (pos 0) else bound
end_of Greatest bound = negated bound

-- a value is near the end
abbrev pub IsClose : Goal → ℕ → Rational → Rational → Type 0
IsClose Least ppm value end = LieWithin ppm value end end
IsClose Greatest ppm value end = LieWithin ppm end value end

-- no plan of the rows passes the end, and this one comes near it
pub record IsEndNear (rows : List Row) (vars : List Var) (var : Var) (goal : Goal) (ppm : ℕ) (plan : Values) (end : Rational) : Type 0 where
  pub is_plan : IsPlan rows vars plan (plan_cost vars plan)
  pub complete : keys_of plan ≡ vars
  pub none_passes : NonePasses goal rows vars var end
  pub close : IsClose goal ppm (value_in var_cmp plan var) end

-- what a trial finds
abbrev pub IsRoundedEnd : Problem → Var → Goal → ℕ → RoundedEnd → Type 0
IsRoundedEnd problem var goal ppm found = IsEndNear problem.rows.now problem.vars.now var goal ppm found.plan (value_of found.end)

-- what both find
pub record AreRoundedEnds (rows : List Row) (vars : List Var) (var : Var) (ppm : ℕ) (span : RoundedSpan) : Type 0 where
  pub low : IsEndNear rows vars var Least ppm span.low_plan (value_of span.low)
  pub high : IsEndNear rows vars var Greatest ppm span.high_plan (value_of span.high)
