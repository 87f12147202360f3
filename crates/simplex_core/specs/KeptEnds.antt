-- What is due by the kept rows, and how phase 1 ends by them.
use Rattle.std.specs.Prelude.{◌≡◌, ℕ, suc, ◌-◌, ◌<◌, ◌≤◌, ⊤}
use Rattle.row_core.specs.Numbers.{is_zero}
use Rattle.written_method.specs.Rounds as rounds
use Rattle.written_method.specs.Rounds.{State}
use Rattle.written_method.specs.Runs.{Ended, answer}
use Rattle.written_method.specs.Tableaus.{Tableau}
use Rattle.simplex_core.specs.Kept.{IsKept}
use Rattle.simplex_core.specs.KeptRounds.{kept_due, shown_state}
use Rattle.int_tableau.specs.Counted.{Counted}
use Rattle.simplex_core.specs.declared.running.Finish.{Finish}
use Rattle.simplex_core.specs.declared.kept_due.KeptDue.{KeptDue}
use Rattle.simplex_core.specs.declared.kept_due.KeptDue.TheVariants.{Pivot, NoColumn, Unsure}
use Rattle.simplex_core.specs.declared.kept_rounds.KeptEnd.{KeptEnd}
use Rattle.simplex_core.specs.declared.kept_rounds.KeptEnd.TheVariants as ends
use Rattle.simplex_core.specs.KeptViews.{x0_in, kept_state, rough_of, FitsPivot, advanced}
use Rattle.simplex_core.specs.Views.{ending_seen, state_seen}

-- what is due, if it is known: of a pivot also that all of its numbers fit, and whether it is degenerate
abbrev pub IsKeptDue : Tableau → ℕ → ℕ → KeptDue → Type 0
IsKeptDue t home degenerate (Pivot r c flat) =
    (kept_due (kept_state t home (x0_in t) 0 degenerate) ≡ rounds.Pivot r c) × (c < t.columns) × (flat ≡ is_zero (rough_of t home (x0_in t) r).right) × FitsPivot t home (x0_in t) r c
IsKeptDue t home degenerate NoColumn = kept_due (kept_state t home (x0_in t) 0 degenerate) ≡ rounds.NoColumn
IsKeptDue t home degenerate Unsure = ⊤

-- phase 2 begins in a state that follows this one, with the answer of the whole
pub record IsSecond (pivots : ℕ) (s last : State) : Type 0 where
  pub since : s.pivots ≤ last.pivots
  pub within : last.pivots ≤ pivots
  pub reached : last ≡ advanced (last.pivots - s.pivots) s
  pub agrees : answer (pivots - s.pivots) s ≡ answer (pivots - last.pivots) last
  pub few : last.degenerate ≤ last.pivots

-- how phase 1 ends from a state; nothing is said where it isn't sure that all numbers fit, nor where memory ran out
abbrev pub IsKeptEnd : ℕ → State → KeptEnd → Type 0
IsKeptEnd pivots s (ends.Second last) = IsSecond pivots s (state_seen last)
IsKeptEnd pivots s (ends.Over f) = (answer (pivots - s.pivots) s ≡ Ended (ending_seen f.finish) (state_seen f.last)) × ((state_seen f.last).pivots ≤ pivots)
IsKeptEnd pivots s ends.Unsure = ⊤
IsKeptEnd pivots s ends.Memory = ⊤

-- the method ends so, in the state of the kept tableau, which has counted all pivots but the one that is kept back
abbrev pub IsLastEnd : Counted → ℕ → ℕ → Finish → KeptEnd → Type 0
IsLastEnd t home degenerate finish (ends.Second last) = ⊥
IsLastEnd t home degenerate finish (ends.Over f) = (f.finish ≡ finish) × (state_seen f.last ≡ shown_state (kept_state t.tableau home (x0_in t.tableau) (suc t.pivots) degenerate))
IsLastEnd t home degenerate finish ends.Unsure = ⊤
IsLastEnd t home degenerate finish ends.Memory = ⊤

-- a state of the method's phase 1 that follows this one, with the answer of the whole, as a kept tableau shows it
pub record IsOnWay (pivots : ℕ) (s : State) (home : ℕ) (t : Tableau) (made degenerate : ℕ) : Type 0 where
  pub kept : IsKept home (x0_in t) t
  pub since : s.pivots ≤ made
  pub reached : shown_state (kept_state t home (x0_in t) made degenerate) ≡ advanced (made - s.pivots) s
  pub agrees : answer (pivots - s.pivots) s ≡ answer (pivots - made) (shown_state (kept_state t home (x0_in t) made degenerate))
  pub few : degenerate ≤ made
