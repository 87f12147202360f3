-- How the exact method ends at a limit on the emissions of the model period.
use Rattle.std.specs.Prelude.{ℕ, List, Option, if◌then◌else◌}
use Rattle.row_problem.specs.Prelude.{all_fit, Rational, value_of, Row, RowName, Var, Price, plan_cost, Multipliers}
use Rattle.simplex_core.specs.declared.stops.TrialStop.{TrialStop}
use Rattle.simplex_core.specs.declared.stops.TrialStop.TheVariants.{Budget, Width}
use Rattle.exact_solver.specs.MethodEnds.{MethodEnd, method_end}
use Rattle.exact_solver.specs.MethodEnds as method
use Rattle.emission_curve.specs.Slopes.{slope_at, slope_formed}
use Rattle.emission_curve.specs.declared.point.Point.{Point}
use Rattle.emission_curve.specs.declared.point.Point.TheVariants.{Solved, Rounded, Infeasible, Unbounded, Stopped}

-- with the least cost, or a cost and a bound below it, and a slope; with no plan; with plans of any lower cost; or before that
pub data PointEnd : Type 0 where
  HasLine : (cost slope : Rational) → PointEnd
  HasLineBelow : (cost bound slope : Rational) → PointEnd
  HasNoPlan : PointEnd
  HasNoBound : PointEnd
  IsStopped : (stop : TrialStop) → PointEnd

-- after an optimum the slope is formed, last
abbrev pub optimum_end : List Row → RowName → Multipliers → Rational → PointEnd
optimum_end rows limit multipliers cost =
    if all_fit (slope_formed rows multipliers limit) then HasLine cost (slope_at rows multipliers limit) else IsStopped (Width (Price limit))

-- the end of the method with so many pivots at most, as the end of a point
abbrev pub ended : List Row → List Var → RowName → ℕ → MethodEnd → PointEnd
ended rows vars limit pivots (method.HasOptimum plan multipliers made) = optimum_end rows limit multipliers (plan_cost vars plan)
ended rows vars limit pivots (method.HasNoPlan multipliers made) = HasNoPlan
ended rows vars limit pivots (method.HasNoBound plan direction made) = HasNoBound
ended rows vars limit pivots method.IsPivotDue = IsStopped (Budget pivots)
ended rows vars limit pivots (method.IsWide place) = IsStopped (Width place)

-- how a limit's rows end, with so many pivots at most
abbrev pub point_end : List Row → List (Option Var) → List Var → RowName → ℕ → PointEnd
point_end rows defs vars limit pivots = ended rows vars limit pivots (method_end rows defs vars pivots)

-- what is found, as such an end
abbrev pub point_seen : Point → PointEnd
point_seen (Solved cost slope) = HasLine (value_of cost) (value_of slope)
point_seen (Rounded cost bound slope) = HasLineBelow (value_of cost) (value_of bound) (value_of slope)
point_seen Infeasible = HasNoPlan
point_seen Unbounded = HasNoBound
point_seen (Stopped stop) = IsStopped stop
