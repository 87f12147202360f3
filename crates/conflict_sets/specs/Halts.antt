-- Why trials by guesses come to no answer, with the exact method after them, or with nothing.
use Rattle.std.specs.Prelude.{◌≡◌, ℕ, List, Option, ⊤}
use Rattle.row_problem.specs.Prelude.{Row, Var, NoAnswer}
use Rattle.certified_answers.specs.declared.answers.NoAnswer.TheVariants as stops
use Rattle.conflict_sets.specs.RoundedStops.{StopsSome}
use Rattle.conflict_sets.specs.Trials.{StopsTrial, TrialEnd}
use Rattle.conflict_sets.specs.declared.conflict.ExplainFail.{ExplainFail}
use Rattle.conflict_sets.specs.declared.conflict.ExplainFail.TheVariants as fails
use Rattle.conflict_sets.specs.declared.fallback.Fallback.{Fallback}
use Rattle.conflict_sets.specs.declared.fallback.Fallback.TheVariants as fallbacks
use Rattle.conflict_sets.specs.declared.fallback.Halt.{Halt}
use Rattle.conflict_sets.specs.declared.fallback.Halt.TheVariants.{Failed, Unguessed}

-- a trial comes to nothing where the exact method stops in it, or, with nothing after them, where no guess is accepted; out of memory has no cause
abbrev pub HaltsTrial : Fallback → TrialEnd → NoAnswer → Type 0
HaltsTrial fallbacks.Exact end stop = StopsTrial end stop
HaltsTrial fallbacks.Nothing end stops.Nothing = ⊤
HaltsTrial fallbacks.Nothing end stops.Budget = ⊥
HaltsTrial fallbacks.Nothing end (stops.Width place) = ⊥
HaltsTrial fallbacks.Nothing end stops.Memory = ⊤

-- told as such: a trial without an answer, or a fail of the exact method
abbrev pub IsHaltOf : (NoAnswer → ExplainFail → Type 0) → NoAnswer → Halt → Type 0
IsHaltOf IsFail stop Unguessed = stop ≡ stops.Nothing
IsHaltOf IsFail stop (Failed fail) = IsFail stop fail

-- of all trials: the exact method, where it follows, stops in one of them; where nothing does, no guess is accepted in one of them
abbrev pub HaltsSome : Fallback → List Row → List (Option Var) → List Var → ℕ → Halt → Type 0
HaltsSome fallbacks.Exact rows defs vars pivots (Failed fail) = StopsSome rows defs vars pivots fail
HaltsSome fallbacks.Exact rows defs vars pivots Unguessed = ⊥
HaltsSome fallbacks.Nothing rows defs vars pivots (Failed fail) = fail ≡ fails.Memory
HaltsSome fallbacks.Nothing rows defs vars pivots Unguessed = ⊤
