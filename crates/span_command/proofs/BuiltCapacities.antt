-- What a call that looks for the span of a capacity asks for, and the directions that it finds.
use Rattle.span_command.proofs.Common.{◌<◌, ◌≤◌, List, Option, Some, None, arith, IfSome, AllByRecursion, Rational, Frac, SetLists, Row, Var, HasNameWithin, AllByRecursion-weaker, IsListedBook, IsVariableOfSets, rows-named, plan-named}
use Rattle.row_core.specs.declared.cost_limit.TheConstants.{SPAN}
use Rattle.span_finder.specs.Spans.{IsHighEnd}

module _ (sets : SetLists) (rows : List Row) (vars : List Var) (listed : IsListedBook sets rows vars) where
  -- no row of the sets has the number of the row that limits the cost
  pub rows-below : AllByRecursion (λ (row : Row). row.name.eq < SPAN) rows
  rows-below = AllByRecursion-weaker (HasNameWithin sets) (λ (row : Row). row.name.eq < SPAN) below rows (rows-named sets rows vars listed)
    where
      below : (row : Row) → HasNameWithin sets row → row.name.eq < SPAN
      below row of = let most : row.name.eq ≤ 64 = of.0.1 in omega (arith, most)

  -- a direction has the book's variables
  pub direction-named : (limit : Rational) (var : Var) (plan : List (Var × Rational)) (high : Option Frac) (direction : Option (List (Var × Rational))) → IsHighEnd rows vars limit var plan high direction
      → IfSome direction (AllByRecursion (λ e. IsVariableOfSets sets e.0))
  direction-named limit var plan high None is = tt
  direction-named limit var plan None (Some direction) is = plan-named sets rows vars listed direction is.0
  direction-named limit var plan (Some high) (Some direction) is = absurd is
