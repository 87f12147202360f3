-- A model that can be solved is brought to an end: what is due for it is that.
use Rattle.osemosys_run.proofs.Common.{Source, ◌≡◌, ℕ, inl, inr, List, subst, Data, Row, all_variables, instances, AreRowsOf, CanBeMade, HasOptimum, IsPivotDue, IsWide, MethodEnd, method_end, Wanted, Summary, Status, CanBeSolved, IsEnded, DueForText, shown_of, wanted_by, DueForSummary, default_pivots, default_places, default_wanted, SolveMethod, Exact, Rounded, ComesToEnd, DueBy, DueForEnd, DueForRows, DueForSolve, DueForSolveFrom, DueFrom, begun_from, FromValues, WithoutStart, count_by, IsWithinLimits, rows-due}
use Rattle.std.specs.Prelude.{length}
use Rattle.command_words.specs.declared.command.SolveShow.{SolveShow}
use Rattle.solver_answers.specs.Answers.{Tells}
use Rattle.solver_answers.specs.Told.{Told, Breaks, Lacks, Gives, is_passed, is_value}
use Rattle.solve_command.proofs.SolvedEnds.{prices_come}
use Rattle.osemosys_run.proofs.Completeness.{Laws, no_rows, not_too_large, over_accepted}

-- data whose rows can be made, whose linear program is within the limits, and at which the method comes to an end
module _ (laws : Laws) (places : ℕ) (wanted : Wanted) (d : Data) (can_make : CanBeMade places d 0 (instances d))
    (within : (rows : List Row) → AreRowsOf places d (instances d) rows → IsWithinLimits rows (all_variables d))
    (comes : (rows : List Row) → AreRowsOf places d (instances d) rows → ComesToEnd wanted.show rows (method_end rows (all_variables d) wanted.pivots)) where
  -- the end that the method comes to is none of those that stop it
  end_comes : (rows : List Row) (end : MethodEnd) → AreRowsOf places d (instances d) rows → method_end rows (all_variables d) wanted.pivots ≡ end → ComesToEnd wanted.show rows end
  end_comes rows end are is = subst (ComesToEnd wanted.show rows) is (comes rows are)

  end_ended : (rows : List Row) → AreRowsOf places d (instances d) rows → (rounded : ℕ) (status : Status) (text : List ℕ) → DueForEnd places d rows wanted rounded status text → IsEnded status
  end_ended rows are rounded status text (inl solved) = inl solved.status_is
  end_ended rows are rounded status text (inr (inl infeasible)) = inr (inl infeasible.0.status_is)
  end_ended rows are rounded status text (inr (inr (inl unbounded))) = inr (inr unbounded.0.status_is)
  end_ended rows are rounded status text (inr (inr (inr (inl out)))) = absurd (end_comes rows IsPivotDue are out.end)
  end_ended rows are rounded status text (inr (inr (inr (inr (inl wide))))) = absurd (end_comes rows (IsWide wide.place) are wide.end)
  end_ended rows are rounded status text (inr (inr (inr (inr (inr (inl wide)))))) =
      absurd (prices_come wanted.show rows wide.multipliers wide.place wide.reported wide.wide (end_comes rows (HasOptimum wide.plan wide.multipliers wide.made) are wide.end))
  end_ended rows are rounded status text (inr (inr (inr (inr (inr (inr second)))))) = inl second.status_is

  method_ended : (rows : List Row) → AreRowsOf places d (instances d) rows → (method : SolveMethod) (rounded : ℕ) (status : Status) (text : List ℕ) → DueBy method places d rows wanted rounded status text
      → IsEnded status
  method_ended rows are Exact rounded status text due = end_ended rows are rounded status text due
  method_ended rows are Rounded rounded status text (inl found) = inl found.status_is
  method_ended rows are Rounded rounded status text (inr (inl found)) = inr (inl found.0.status_is)
  method_ended rows are Rounded rounded status text (inr (inr due)) = end_ended rows are rounded status text due

  rows_ended : (rows : List Row) → AreRowsOf places d (instances d) rows → (rounded : ℕ) (status : Status) (text : List ℕ) → DueForRows places d rows wanted rounded status text → IsEnded status
  rows_ended rows are rounded status text due = elim (rows-due places d rows wanted rounded status text due) [
    | inl large ↦ absurd (not_too_large laws places d can_make within wanted.method wanted.pivots rows are status text large)
    | inr end ↦ method_ended rows are wanted.method rounded status text end
  ]

  data_ended : (rounded : ℕ) (status : Status) (text : List ℕ) → DueForSolve places wanted rounded d status text → IsEnded status
  data_ended rounded status text (inl made) = rows_ended made.rows made.are_rows rounded status text made.due
  data_ended rounded status text (inr none) = inl (no_rows laws places d can_make status text none)

-- so is the summary of a made file
pub summary_ended : Laws → (source : Source) (status : Status) (text : List ℕ) → CanBeSolved default_pivots default_places Summary source → DueForText (DueForSummary default_places) source status text → IsEnded status
summary_ended laws source status text can due = of_data (over_accepted laws (DueForSummary default_places) source can.d status text can.accepted due)
  where
    of_data : DueForSummary default_places can.accepted.rounded can.d status text → IsEnded status
    of_data (inl made) = elim made.due.1 [
      | inl large ↦ absurd (not_too_large laws default_places can.d can.made can.within default_wanted.method default_wanted.pivots made.rows made.are_rows status made.due.0 large)
      | inr found ↦ method_ended laws default_places default_wanted can.d can.made can.within can.ends made.rows made.are_rows Exact can.accepted.rounded status made.due.0 found.1
    ]
    of_data (inr none) = inl (no_rows laws default_places can.d can.made status text none)

module _ (laws : Laws) (gap pivots places : ℕ) (show : SolveShow) (source : Source) (status : Status) (text : List ℕ) (can : CanBeSolved pivots places (shown_of show) source) where
  pub ended : (method : SolveMethod) → DueForText (DueForSolve places (wanted_by gap pivots show method)) source status text → IsEnded status
  ended method due =
      data_ended laws places (wanted_by gap pivots show method) can.d can.made can.within can.ends can.accepted.rounded status text
      (over_accepted laws (DueForSolve places (wanted_by gap pivots show method)) source can.d status text can.accepted due)

  -- and by guesses that begin from what a file holds
  abbrev from_words : Wanted
  from_words = wanted_by gap pivots show Rounded

  module _ (start_bytes : List ℕ) (in_form : (rows : List Row) → AreRowsOf places can.d (instances can.d) rows → (number : ℕ) → ¬ (Tells can.d.sets (all_variables can.d) (length rows) start_bytes (Breaks number))) where
    start_ended : (said : Told) (rows : List Row) → AreRowsOf places can.d (instances can.d) rows → Tells can.d.sets (all_variables can.d) (length rows) start_bytes said → (rounded : ℕ)
        → DueFrom said places can.d rows from_words rounded status text → IsEnded status
    start_ended (Breaks number) rows are tells rounded due = absurd (in_form rows are number tells)
    start_ended Lacks rows are tells rounded due = rows_ended laws places (begun_from WithoutStart from_words) can.d can.made can.within can.ends rows are rounded status text due
    start_ended (Gives founds) rows are tells rounded due =
        rows_ended laws places (begun_from (FromValues (count_by is_value founds) (count_by is_passed founds)) from_words) can.d can.made can.within can.ends rows are rounded status text due

    from_ended : (rounded : ℕ) → DueForSolveFrom places from_words start_bytes rounded can.d status text → IsEnded status
    from_ended rounded (inl made) = start_ended made.due.0 made.rows made.are_rows made.due.1 rounded made.due.2
    from_ended rounded (inr none) = inl (no_rows laws places can.d can.made status text none)

    pub ended_from_start : DueForText (DueForSolveFrom places from_words start_bytes) source status text → IsEnded status
    ended_from_start due = from_ended can.accepted.rounded (over_accepted laws (DueForSolveFrom places from_words start_bytes) source can.d status text can.accepted due)
