-- The end of a trial: it stops in the first part of its steps that has a number that doesn't fit.
use Rattle.row_problem.proofs.Common.{◌≡◌, Option, Some, Place, IsWidthAt, NoAnswer, Nothing, Budget, Width, Memory}
use Rattle.conflict_sets.specs.Trials.{IsWide, StopsTrial, TrialEnd}

-- an end that is wide where this part is
pub stops-by : (first : Option Place) (answer : NoAnswer) (end : TrialEnd) → IsWidthAt first answer → ((place : Place) → first ≡ Some place → end ≡ IsWide place) → StopsTrial end answer
stops-by first Nothing end h f = h
stops-by first Budget end h f = absurd h
stops-by first (Width place) end h f = f place h
stops-by first Memory end h f = tt
