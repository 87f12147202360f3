-- The whole run with its steps, and the answer that its steps leave.
use Rattle.std.specs.Prelude.{ℕ, zero, suc, List, [], ◌∷◌, Some, None}
use Rattle.exact_num.specs.Steps.{Step, first_wide}
use Rattle.row_core.specs.declared.place.Place.{Place}
use Rattle.written_method.specs.Rounds.{State, Pivot, NoColumn, NoRow, Phase, Start, One, Two, due, after, step_of}

-- how the run ends: in phase 2 no column can enter; in phase 1; no row can leave for a column; or a pivot is due after the last one
pub data End : Type 0 where
  Optimal : End
  Infeasible : End
  Unbounded : (column : ℕ) → End
  PivotDue : End

pub record Run : Type 0 where
  pub steps : List (Step Place)
  pub ending : End
  pub last : State

abbrev pub ended : End → State → Run
ended e s = record { steps = []; ending = e; last = s }

abbrev pub no_column : Phase → End
no_column Start = Infeasible
no_column One = Infeasible
no_column Two = Optimal

-- a run of n pivots at most
unfoldable pub run : ℕ → State → Run
run zero s = elim (due s) [ Pivot r c ↦ ended PivotDue s | NoColumn ↦ ended (no_column s.phase) s | NoRow c ↦ ended (Unbounded c) s ]
run (suc n) s =
    elim (due s) [
      | Pivot r c ↦ record { steps = step_of s r c ∷ (run n (after s r c)).steps; ending = (run n (after s r c)).ending; last = (run n (after s r c)).last }
      | NoColumn ↦ ended (no_column s.phase) s
      | NoRow c ↦ ended (Unbounded c) s
    ]

-- the end with the state in which it came, or the place of the first step that forms a number that doesn't fit
pub data Answer : Type 0 where
  Ended : (ending : End) → (last : State) → Answer
  RanOut : (place : Place) → Answer

unfoldable pub answer_of : Run → Answer
answer_of r = elim (first_wide r.steps) [ None ↦ Ended r.ending r.last | Some place ↦ RanOut place ]

-- the answer of the method with n pivots at most
unfoldable pub answer : ℕ → State → Answer
answer n s = answer_of (run n s)
