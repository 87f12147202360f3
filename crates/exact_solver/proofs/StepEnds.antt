-- The end of steps: it stops in the first part that has a number that doesn't fit.
use Rattle.row_problem.proofs.Common.{◌≡◌, List, ap, Option, Some, Result, Ok, Err, IfErr, IfOk, Row, Var, Place, Stopped, Outcome, IsFirst, Certified, NoAnswer, Nothing, Budget, Width, Memory, Cost, IsWidthAt, stop_of}
use Rattle.row_core.specs.declared.place.Stopped.TheVariants as parts
use Rattle.simplex_core.specs.declared.ends.Halt.{Halt}
use Rattle.simplex_core.specs.declared.ends.Halt.TheVariants as halts
use Rattle.simplex_core.specs.Outcomes.{IsHalt}
use Rattle.exact_solver.specs.MethodEnds.{IsEndOf, IsStopOf, IsWide, MethodEnd, carried_end, end_seen, stop_at}

-- a part's stop, as that of the whole
pub of-part : (first : Option Place) (e : Stopped) → IsFirst first e → IsWidthAt first (stop_of e)
of-part first (parts.Width place) h = h
of-part first parts.Memory h = tt

-- an end that is wide where this part is
pub stops-by : (first : Option Place) (answer : NoAnswer) (end : MethodEnd) → IsWidthAt first answer → ((place : Place) → first ≡ Some place → end ≡ IsWide place) → IsStopOf end answer
stops-by first Nothing end h f = h
stops-by first Budget end h f = absurd h
stops-by first (Width place) end h f = f place h
stops-by first Memory end h f = tt

-- the simplex stops where the method does
pub stops-simplex : (cost : Cost) (rows : List Row) (defs : List (Option Var)) (vars : List Var) (outcome : Outcome) (e : Halt) → IsHalt outcome e → IsStopOf (carried_end cost rows defs vars outcome) (stop_at e)
stops-simplex cost rows defs vars outcome halts.Budget h = ap (carried_end cost rows defs vars) h
stops-simplex cost rows defs vars outcome (halts.Width place) h = ap (carried_end cost rows defs vars) h
stops-simplex cost rows defs vars outcome halts.Memory h = tt

-- ---- of what is answered

pub end-answered : (end : MethodEnd) (answer : Result Certified NoAnswer) → IsEndOf end answer → IfOk answer (λ found. end_seen found ≡ end)
end-answered end (Ok found) h = h
end-answered end (Err stop) h = tt

pub stop-answered : (end : MethodEnd) (answer : Result Certified NoAnswer) → IsEndOf end answer → IfErr answer (IsStopOf end)
stop-answered end (Ok found) h = tt
stop-answered end (Err stop) h = h
