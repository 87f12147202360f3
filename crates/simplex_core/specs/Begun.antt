-- How the rounds begin.
use Rattle.std.specs.Prelude.{◌≡◌, ℕ}
use Rattle.written_method.specs.Rounds.{State}
use Rattle.written_method.specs.Runs.{Ended, answer}
use Rattle.simplex_core.specs.declared.running.Begun.{Begun}
use Rattle.simplex_core.specs.declared.running.Begun.TheVariants.{Over, Rounds}
use Rattle.simplex_core.specs.KeptEnds.{IsSecond}
use Rattle.simplex_core.specs.Views.{ending_seen, state_seen}

-- the method ends so, or its answer is that from this state on
abbrev pub IsBegun : ℕ → State → Begun → Type 0
IsBegun pivots s (Over f) = answer pivots s ≡ Ended (ending_seen f.finish) (state_seen f.last)
IsBegun pivots s (Rounds last) = IsSecond pivots s (state_seen last)
