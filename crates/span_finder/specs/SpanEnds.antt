-- How the trials end on rows, that which limits the cost among them: the elimination, and then two trials, each of which is the exact method for the value of one variable.
use Rattle.std.specs.Prelude.{◌≡◌, ℕ, false, List, [], ◌∷◌, ◌++◌, Option, Some, None, ◌⊎◌, ⊤}
use Rattle.row_problem.specs.Prelude.{all_fit, Rational, first_wide, Row, Var, Place, Stopped, span_name, elimination_steps, NoAnswer, One, Least, Greatest, Values}
use Rattle.row_core.specs.declared.place.Stopped.TheVariants as parts
use Rattle.simplex_core.specs.declared.stops.Stop.{Stop}
use Rattle.simplex_core.specs.declared.stops.Stop.TheVariants.{Budget, Width, Trial}
use Rattle.simplex_core.specs.declared.stops.TrialStop.TheVariants as trials
use Rattle.certified_answers.specs.declared.answers.NoAnswer.TheVariants as answers
use Rattle.exact_solver.specs.MethodEnds.{MethodEnd, HasOptimum, HasNoPlan, HasNoBound, IsPivotDue, IsWide, solved_end}
use Rattle.span_finder.specs.LimitRows.{HasLimitRow, limit_formed}
use Rattle.span_finder.specs.declared.found.Span.{Span}
use Rattle.span_finder.specs.declared.found.SpanFail.{SpanFail}
use Rattle.span_finder.specs.declared.found.SpanFail.TheVariants as fails

-- ---- both trials

-- a plan with the least value and one with the greatest; a plan with the least value, and another with a direction along which the value grows without end; why a step stopped; or
-- neither, which never comes where some plan costs at most the limit
pub data SpanEnd : Type 0 where
  IsBounded : (low high : Values) → SpanEnd
  IsRising : (low high direction : Values) → SpanEnd
  IsStopped : (stop : Stop) → SpanEnd
  IsNothing : SpanEnd

-- the second trial looks for the greatest value
abbrev pub greatest_end : ℕ → Values → MethodEnd → SpanEnd
greatest_end pivots low (HasOptimum high multipliers made) = IsBounded low high
greatest_end pivots low (HasNoBound high direction made) = IsRising low high direction
greatest_end pivots low (HasNoPlan multipliers made) = IsNothing
greatest_end pivots low IsPivotDue = IsStopped (Trial 2 (trials.Budget pivots))
greatest_end pivots low (IsWide place) = IsStopped (Trial 2 (trials.Width place))

-- the first looks for the least
abbrev pub least_end : ℕ → (Values → SpanEnd) → MethodEnd → SpanEnd
least_end pivots next (HasOptimum low multipliers made) = next low
least_end pivots next (HasNoBound low direction made) = IsNothing
least_end pivots next (HasNoPlan multipliers made) = IsNothing
least_end pivots next IsPivotDue = IsStopped (Trial 1 (trials.Budget pivots))
least_end pivots next (IsWide place) = IsStopped (Trial 1 (trials.Width place))

abbrev pub unless_stopped : Option Place → SpanEnd → SpanEnd
unless_stopped None end = end
unless_stopped (Some place) end = IsStopped (Width place)

unfoldable pub both_trials : List Row → List (Option Var) → List Var → Var → ℕ → SpanEnd
both_trials rows defs vars var pivots =
    least_end pivots (λ low. greatest_end pivots low (solved_end rows defs vars (One var Greatest) pivots)) (solved_end rows defs vars (One var Least) pivots)

-- the elimination comes before
unfoldable pub spanned : List Row → List (Option Var) → List Var → Var → ℕ → SpanEnd
spanned rows defs vars var pivots = unless_stopped (first_wide (elimination_steps rows defs)) (both_trials rows defs vars var pivots)

-- ---- what is answered

abbrev pub end_seen : Values → Values → Option Values → SpanEnd
end_seen low high None = IsBounded low high
end_seen low high (Some direction) = IsRising low high direction

abbrev pub span_seen : Span → SpanEnd
span_seen span = end_seen span.low_plan span.high_plan span.direction

-- the rows, and after them the row that limits the cost, which defines nothing, end so
pub record EndsSo (rows : List Row) (defs : List (Option Var)) (vars : List Var) (limit : Rational) (var : Var) (pivots : ℕ) (end : SpanEnd) : Type 0 where
  pub all : List Row
  pub limited : HasLimitRow rows vars limit all
  pub ends : spanned all (defs ++ None ∷ []) vars var pivots ≡ end

-- the row that limits the cost forms a number that doesn't fit
pub record IsRowTooWide (vars : List Var) (limit : Rational) (stop : Stop) : Type 0 where
  pub wide : all_fit (limit_formed vars limit) ≡ false
  pub is : stop ≡ Width (Place.Row span_name)

-- the stop is that with which the trials end
abbrev pub StopsAt : SpanEnd → SpanFail → Type 0
StopsAt end (fails.Stopped stop) = end ≡ IsStopped stop
StopsAt end fails.Memory = ⊤

-- the stop is that of this row, or that with which the elimination and the trials end; out of memory has no cause
abbrev pub Stops : List Row → List (Option Var) → List Var → Rational → Var → ℕ → SpanFail → Type 0
Stops rows defs vars limit var pivots (fails.Stopped stop) = IsRowTooWide vars limit stop ⊎ EndsSo rows defs vars limit var pivots (IsStopped stop)
Stops rows defs vars limit var pivots fails.Memory = ⊤

-- a stop of the row or of the elimination
abbrev pub plain_fail : Stopped → SpanFail
plain_fail (parts.Width place) = fails.Stopped (Width place)
plain_fail parts.Memory = fails.Memory

-- why the trial of this number stopped; no trial stops with nothing
abbrev pub IsTrialFail : ℕ → ℕ → NoAnswer → SpanFail → Type 0
IsTrialFail k pivots answers.Nothing fail = ⊥
IsTrialFail k pivots answers.Budget fail = fail ≡ fails.Stopped (Trial k (trials.Budget pivots))
IsTrialFail k pivots (answers.Width place) fail = fail ≡ fails.Stopped (Trial k (trials.Width place))
IsTrialFail k pivots answers.Memory fail = fail ≡ fails.Memory

-- a stop that isn't a trial's is a width of the row that limits the cost, or of that row without its defined variables
abbrev pub IsPlainStop : SpanFail → Type 0
IsPlainStop (fails.Stopped (Budget pivots)) = ⊥
IsPlainStop (fails.Stopped (Width place)) = (place ≡ Place.Row span_name) ⊎ (place ≡ Place.Expand span_name)
IsPlainStop (fails.Stopped (Trial number stop)) = ⊤
IsPlainStop fails.Memory = ⊤
