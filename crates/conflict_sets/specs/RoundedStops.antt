-- Why the trials by guesses stop: the exact method stops in a trial of which no guess was accepted.
use Rattle.std.specs.Prelude.{◌≡◌, ℕ, ◌≤◌, true, List, Option, ⊤}
use Rattle.row_problem.specs.Prelude.{Row, RowName, Var, IsRefutation, Multipliers}
use Rattle.simplex_core.specs.declared.stops.Stop.{Stop}
use Rattle.simplex_core.specs.declared.stops.Stop.TheVariants.{Budget, Width, Trial}
use Rattle.simplex_core.specs.declared.stops.TrialStop.{TrialStop}
use Rattle.simplex_core.specs.declared.stops.TrialStop.TheVariants as trials
use Rattle.conflict_sets.specs.Trials.{IsPivotDue, IsWide, TrialEnd, trial_end}
use Rattle.conflict_sets.specs.Walks.{every, is_listed, is_other}
use Rattle.conflict_sets.specs.declared.conflict.ExplainFail.{ExplainFail}
use Rattle.conflict_sets.specs.declared.conflict.ExplainFail.TheVariants as fails

-- an exact trial with so many pivots at most stops so
abbrev pub EndsSo : TrialEnd → ℕ → TrialStop → Type 0
EndsSo end pivots (trials.Budget most) = (end ≡ IsPivotDue) × (most ≡ pivots)
EndsSo end pivots (trials.Width place) = end ≡ IsWide place

-- It is the trial of the inequalities that some refutation of the rows uses, but for one of them.
pub record StopsLater (rows : List Row) (defs : List (Option Var)) (vars : List Var) (pivots : ℕ) (stop : TrialStop) : Type 0 where
  pub multipliers : Multipliers
  pub left_out : RowName
  pub refutation : IsRefutation rows vars multipliers
  pub listed : is_listed multipliers left_out ≡ true
  pub ends : EndsSo (trial_end (is_other multipliers left_out) rows defs vars pivots) pivots stop

-- The first trial has every inequality. Later ones are counted, from 1.
abbrev pub IsStopOfSome : List Row → List (Option Var) → List Var → ℕ → Stop → Type 0
IsStopOfSome rows defs vars pivots (Budget most) = EndsSo (trial_end every rows defs vars pivots) pivots (trials.Budget most)
IsStopOfSome rows defs vars pivots (Width place) = EndsSo (trial_end every rows defs vars pivots) pivots (trials.Width place)
IsStopOfSome rows defs vars pivots (Trial number stop) = (1 ≤ number) × StopsLater rows defs vars pivots stop

-- out of memory has no cause
abbrev pub StopsSome : List Row → List (Option Var) → List Var → ℕ → ExplainFail → Type 0
StopsSome rows defs vars pivots (fails.Stopped stop) = IsStopOfSome rows defs vars pivots stop
StopsSome rows defs vars pivots fails.Memory = ⊤
